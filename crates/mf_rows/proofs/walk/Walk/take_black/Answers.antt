use Rattle.std.proofs.Common.{pos, arith}
use Rattle.std.proofs.lemmas.Int.{ints}
use Rattle.mf_rows.proofs.BlackRuns.{black_passed, black_run, is_black, more_passed}
use Rattle.mf_rows.proofs.PassedPixels.{column_fits, inside, row_fits}
use Rattle.mf_rows.proofs.walk.Walk.take_black.Goals as goal

pub loop-self-smaller : goal.loop-self-smaller
loop-self-smaller c =
    let at = inside c.loop-self.self (λ is. omega (arith, ints, is)) in
    omega (arith, ints, c.pass_equal.ensures.further (omega (arith, ints, at.right)), c.pass_equal.new.self.reading.right)

pub loop-self-preserved : goal.loop-self-preserved
loop-self-preserved c =
    more_passed (pos 1) _ _ _ c.loop-self.invariant c.pass_equal.ensures.passed (is_black c.loop-self.self.weight (omega (arith, ints)))

pub returns-clause-next : goal.returns-clause-next
returns-clause-next c =
    let s = c.args.self.now in
    let t = c.loop-self.self in
    rw (c.abs_diff.ensures, row_fits t, column_fits s, column_fits t) (black_passed s t c.loop-self.invariant (omega (arith, ints)) (omega (arith, ints)))

pub returns-clause-run : goal.returns-clause-run
returns-clause-run c =
    let s = c.args.self.now in
    let t = c.loop-self.self in
    rw (c.abs_diff.ensures, row_fits t, column_fits s, column_fits t) (black_run s t c.loop-self.invariant (omega (arith, ints)) (omega (arith, ints)))
