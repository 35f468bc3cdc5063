use Rattle.std.proofs.Common.{◌≡◌, ◌+ℤ◌, pos, to_z, of_z, w32, arith}
use Rattle.std.proofs.lemmas.Int.{ints}
use Rattle.mf_gf.specs.Spelling.{distance}
use Rattle.mf_gf.proofs.SpelledRows.{all_put, one_more_put}
use Rattle.mf_gf.proofs.rows.put_runs.Goals as goal
use Rattle.mf_rows.specs.Order.{IsRun}

pub loop-run-preserved : goal.loop-run-preserved
loop-run-preserved c =
    let r = c.in-Some.run' in
    let run : IsRun r = c.in-Some.ensures.run in
    let so_far = c.loop-run.invariant in
    let end : to_z w32 (of_z w32 (to_z w32 (of_z w32 r.x) +ℤ to_z w32 r.len)) ≡ r.x +ℤ pos r.len = omega (arith, ints, run.left, run.right, run.some) in
    let white : c.abs_diff.result ≡ distance r.x (to_z w32 c.loop-run.column-bits) = omega (arith, ints, c.abs_diff.ensures, run.left, run.right, so_far.in_range) in
    let puts = rw white at c.put_stretch.ensures.held in
    rw end (one_more_put so_far _ r c.in-Some.ensures.next c.in-Some.ensures.row c.in-Some.ensures.black run puts c.put_stretch.ensures.room)

pub returns-clause-held : goal.returns-clause-held
returns-clause-held c =
    let column : to_z w32 (of_z w32 c.args.column) ≡ c.args.column = omega (arith, ints) in
    rw column at (all_put c.loop-run.invariant c.in_default.ensures.next)
