use Rattle.std.proofs.Common.{◌≡◌, ◌∙◌, ◌<ℤ◌, ℤ, pos, [], sym, to_z, of_z, w32, arith}
use Rattle.std.proofs.lemmas.Int.{ints}
use Rattle.std.proofs.lemmas.List.Elements.{All-nil}
use Rattle.mf_rows.specs.declared.run.Run.{Run}
use Rattle.mf_rows.specs.Dots.{place, weight_at}
use Rattle.mf_rows.specs.Order.{IsRun}
use Rattle.mf_rows.specs.Runs.{dots_of}
use Rattle.mf_rows.proofs.RunDots.{IsOnRun, weight_at-on_run, weight_at-off_run}
use Rattle.mf_text_show.proofs.grid.weights.weight_of_run.Goals as goal

-- the weight that a run gives to a pixel on it, and to one that is not
weight_on : (r : Run) (x y : ℤ) → IsRun r → IsOnRun r x y → r.weight ≡ weight_at (dots_of r) x y
weight_on r x y run on = sym (weight_at-on_run [] r x y (record { run = run; before = All-nil (λ d. place d.x d.y <ℤ place r.x r.y) }) on)

weight_off : (r : Run) (x y : ℤ) → (IsOnRun r x y → ⊥) → pos 0 ≡ weight_at (dots_of r) x y
unfolding weight_at
weight_off r x y off = sym (weight_at-off_run [] r x y off)

pub returns-then-run-x : goal.returns-then-run-x
unfolding place
returns-then-run-x c =
    let run = c.args.run.now in
    let weight : to_z w32 (of_z w32 run.weight) ≡ run.weight = omega (arith, ints) in
    weight ∙ weight_on run c.args.x c.args.y c.requires.run (omega (arith, ints))

pub returns : goal.returns
returns c = grind (arith, ints, weight_off)
