use Rattle.std.proofs.Common.{◌≡◌, pos, ◌+ℤ◌, ◌-ℤ◌, neg_ℤ, to_z, of_z, w32, arith}
use Rattle.std.proofs.lemmas.Int.{ints}
use Rattle.std.proofs.lemmas.List.{append_assoc}
use Rattle.std.proofs.lemmas.Result.{IfOk-equal}
use Rattle.mf_view_image.specs.Svg.{rectangle}
use Rattle.mf_view_image.proofs.svg_image.push_rectangle.Goals as goal

pub returns : goal.returns
unfolding rectangle
returns c =
    let r = c.args.run.now in
    let first : to_z w32 (of_z w32 r.x) ≡ r.x = omega (arith, ints) in
    let top : to_z w32 (of_z w32 (pos 0 -ℤ to_z w32 (of_z w32 (to_z w32 (of_z w32 r.y) +ℤ pos 1)))) ≡ neg_ℤ (r.y +ℤ pos 1) = omega (arith, ints) in
    let width : to_z w32 r.len ≡ pos r.len = omega (arith, ints) in
    IfOk-equal c.push_number-4.result _ _ _ c.push_number-4.ensures
    (grind (arith, ints, append_assoc))
