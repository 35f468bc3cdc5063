use Rattle.std.proofs.Common.{◌≡◌, pos, ◌+ℤ◌, ◌-ℤ◌, to_z, to_z-of_z, w64, refl, ◌∙◌, arith}
use Rattle.std.proofs.lemmas.Int.{ints}
use Rattle.mf_geom.specs.Coordinates.{least_coordinate, greatest_coordinate}
use Rattle.mf_rows.proofs.FieldTotals.{total_of-picture_of}
use Rattle.mf_rows.proofs.PassedPixels.{outside}
use Rattle.mf_rows.proofs.PassedTotals.{IsRowsStep, all_rows, no_rows, rows_step}
use Rattle.mf_rows.proofs.walk.Walk.total.Goals as goal
use Rattle.mf_rows.proofs.walk.Walk.total.Goals.{After-from-in-loop-self}

pub loop-self-init : goal.loop-self-init
loop-self-init c =
    let end : c.args.self.now.y +ℤ pos 1 ≡ greatest_coordinate = omega (arith, ints, c.requires.row) in
    record { total = rw end (omega (arith, ints, all_rows _ (outside c.args.self.now.edges))); weights = refl; column = c.requires.column }

step : (c : After-from-in-loop-self) → IsRowsStep c.loop-self.self c.from.result c.from-in-loop-self.result (to_z w64 c.loop-self.total-bits)
step c =
    let s = c.loop-self.self in
    let row : c.from.result ≡ c.row_total.result = omega (arith, ints, c.from.ensures) in
    let height : c.from-in-loop-self.result ≡ s.y +ℤ pos 1 -ℤ s.bottom = omega (arith, ints, c.from-in-loop-self.ensures, s.reading.rows.low, s.reading.rows.order, s.reading.top) in
    rows_step s _ _ _ (row ∙ c.row_total.ensures.total) height (rw (← c.loop-self.invariant.weights) at c.loop-self.invariant.total)

pub overflow_mul-total : goal.overflow_mul-total
overflow_mul-total c = let is = step (goal.at.overflow_mul-total c).After-from-in-loop-self in rw is.product is.product_fits

pub overflow_add-total : goal.overflow_add-total
overflow_add-total c = let is = step (goal.at.overflow_add-total c).After-from-in-loop-self in rw (is.product, to_z-of_z is.product_fits) is.sum_fits

pub loop-self-preserved : goal.loop-self-preserved
loop-self-preserved c =
    let is = step (goal.at.loop-self-preserved c).After-from-in-loop-self in
    let so_far = c.loop-self.invariant in
    let passed = c.row_total.ensures.passed in
    let next : c.enter_row.new.self.y +ℤ pos 1 ≡ c.loop-self.self.bottom = omega (arith, ints, c.enter_row.ensures.row, passed.bottom) in
    record {
      total = rw (is.product, to_z-of_z is.product_fits, to_z-of_z is.sum_fits, next, ← so_far.weights) is.sum;
      weights = c.enter_row.ensures.weights ∙ passed.weights ∙ so_far.weights;
      column = c.enter_row.ensures.column;
    }

pub returns-then-self-le-FIELD_START : goal.returns-then-self-le-FIELD_START
returns-then-self-le-FIELD_START c =
    let is = step (goal.at.returns-then-self-le-FIELD_START c).After-from-in-loop-self in
    let last : c.loop-self.self.bottom ≡ least_coordinate = omega (arith, ints, c.if-self-le-FIELD_START.true, c.row_total.ensures.passed.bottom, c.loop-self.self.reading.rows.low) in
    let all = rw (last, no_rows, c.loop-self.invariant.weights) at is.sum in
    rw (is.product, to_z-of_z is.product_fits, to_z-of_z is.sum_fits, total_of-picture_of) (omega (arith, ints, all))
