use Rattle.std.proofs.Common.{FitsSigned, to_z-of_z, w32, sym, ◌∙◌, rules, arith}
use Rattle.std.proofs.lemmas.Int.{ints}
use Rattle.mf_rows.proofs.EdgeTotals.{row_edges, row_total_is}
use Rattle.mf_rows.proofs.PassedPixels.{no_pixels, more_pixels}
use Rattle.mf_rows.proofs.PassedTotals.{row_start, row_step}
use Rattle.mf_rows.proofs.walk.Walk.row_total.Goals as goal

pub sum_of_row-requires : goal.sum_of_row-requires
sum_of_row-requires c =
    let found = c.of_one_part.ensures in
    row_edges c.args.self.now c.in-Some.edges.now c.requires (rw c.in-Some.is at found.weights) (rw c.in-Some.is at found.sorted)

pub returns-in-Some-clause-total : goal.returns-in-Some-clause-total
returns-in-Some-clause-total c =
    let fits : FitsSigned w32 c.sum_of_row.result = search rules in
    let same = rw c.in-Some.is at c.of_one_part.ensures.weights in
    rw (to_z-of_z fits) (c.sum_of_row.ensures ∙ row_total_is c.args.self.now c.in-Some.edges.now c.requires same)

pub loop-self-init : goal.loop-self-init
loop-self-init c = record { total = sym (row_start _ _ _ (omega (arith, ints, c.args.self.now.reading.left))); passed = no_pixels c.args.self.now }

pub overflow_mul-total : goal.overflow_mul-total
overflow_mul-total c = let is = row_step _ _ c.pass_equal.ensures.passed in rw is.product is.product_fits

pub overflow_add-total : goal.overflow_add-total
overflow_add-total c =
    let is = row_step _ _ c.pass_equal.ensures.passed in
    let so_far = c.loop-self.invariant in
    rw (is.product, to_z-of_z is.product_fits, so_far.total, ← so_far.passed.weights, ← so_far.passed.row) is.sum_fits

pub loop-self-preserved : goal.loop-self-preserved
loop-self-preserved c =
    let is = row_step _ _ c.pass_equal.ensures.passed in
    let so_far = c.loop-self.invariant in
    record {
      total = rw (is.product, to_z-of_z is.product_fits, so_far.total, ← so_far.passed.weights, ← so_far.passed.row, to_z-of_z is.sum_fits) is.sum;
      passed = more_pixels _ _ _ so_far.passed c.pass_equal.ensures.passed;
    }
