use Rattle.std.proofs.Common.{◌+ℤ◌, ◌≤ℤ◌, ◌<ℤ◌, to_z, of_z, w32, arith, rules}
use Rattle.std.proofs.lemmas.Int.{ints}
use Rattle.mf_rows.specs.Dots.{place}
use Rattle.mf_text_show.proofs.grid.weights.is_before.Goals as goal

pub returns-then-run-y : goal.returns-then-run-y
unfolding place
returns-then-run-y c =
    let r = c.args.run.now in
    let end = to_z w32 (of_z w32 (to_z w32 (of_z w32 r.x) +ℤ to_z w32 r.len)) in
    (λ test. omega (arith, ints), λ before. let left : end ≤ℤ to_z w32 (of_z w32 c.args.x) = omega (arith, ints) in search (rules, left.le))

pub returns : goal.returns
unfolding place
returns c = (
  λ test. omega (arith, ints),
  λ before. let above : to_z w32 (of_z w32 c.args.y) <ℤ to_z w32 (of_z w32 c.args.run.now.y) = omega (arith, ints) in grind arith,
)
