use Rattle.std.proofs.Common.{◌≡◌, ◌≤ℤ◌, ◌++◌, pos, ◌+ℤ◌, to_z, of_z, w32, ap, ◌∙◌, arith}
use Rattle.std.proofs.lemmas.Int.{ints}
use Rattle.mf_view_image.proofs.PathTexts.{one_more_path, all_paths, paths_are}
use Rattle.mf_view_image.proofs.svg_image.push_paths.Goals as goal

pub loop-weight-preserved : goal.loop-weight-preserved
loop-weight-preserved c =
    let w = to_z w32 c.loop-weight.weight-bits in
    let lawful = c.weights-least.ensures.lawful in
    let within : w ≤ℤ to_z w32 (of_z w32 c.weights-least.result.1) = omega (arith, ints, c.loop-weight-test.true, lawful.2, lawful.3) in
    let next : to_z w32 (of_z w32 (w +ℤ pos 1)) ≡ w +ℤ pos 1 = omega (arith, ints) in
    rw next (one_more_path within c.in_ok-push_path.ensures c.loop-weight.invariant)

pub returns : goal.returns
returns c =
    let w = to_z w32 c.loop-weight.weight-bits in
    let lawful = c.weights-least.ensures.lawful in
    let low : to_z w32 (of_z w32 c.weights-least.result.0) ≡ c.weights-least.result.0 = omega (arith, ints, lawful.0, lawful.1) in
    let high : to_z w32 (of_z w32 c.weights-least.result.1) ≡ c.weights-least.result.1 = omega (arith, ints, lawful.2, lawful.3) in
    let over : w ≡ to_z w32 (of_z w32 c.weights-least.result.1) +ℤ pos 1 =
    omega (arith, ints, c.loop-weight-test.false, c.loop-weight.invariant.order, lawful.2, lawful.3) in
    all_paths over c.loop-weight.invariant
    ∙ ap (λ all. c.args.text.now.items ++ all) (paths_are _ _ _ (low ∙ c.weights-least.ensures.least) (high ∙ c.weights-least.ensures.greatest))
