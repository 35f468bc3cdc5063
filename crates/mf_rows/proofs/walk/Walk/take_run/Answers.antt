use Rattle.std.proofs.Common.{◌≡◌, to_z, of_z, w32, arith}
use Rattle.std.proofs.lemmas.Int.{ints}
use Rattle.mf_rows.proofs.PassedPixels.{column_fits, row_fits, run_passed}
use Rattle.mf_rows.proofs.walk.Walk.take_run.Goals as goal

pub returns : goal.returns
returns c =
    let from = c.args.self.now in
    let to = c.pass_equal.new.self in
    let weight : to_z w32 (of_z w32 from.weight) ≡ from.weight = omega (arith, ints) in
    rw (c.abs_diff.ensures, row_fits to, column_fits from, column_fits to, weight) (run_passed _ _ c.pass_equal.ensures.passed c.pass_equal.ensures.further c.pass_equal.ensures.next c.requires)
