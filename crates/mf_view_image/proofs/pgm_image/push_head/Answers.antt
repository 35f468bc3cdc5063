use Rattle.std.proofs.Common.{◌≡◌, pos, to_z, of_z, w32, arith}
use Rattle.std.proofs.lemmas.Int.{ints}
use Rattle.std.proofs.lemmas.List.{append_assoc}
use Rattle.std.proofs.lemmas.Result.{IfOk-equal}
use Rattle.mf_rows.specs.Boxes.{extent}
use Rattle.mf_view_image.proofs.pgm_image.push_head.Goals as goal

pub returns : goal.returns
returns c =
    let b = c.args.bounds.now in
    let left : to_z w32 (of_z w32 b.min_x) ≡ b.min_x = omega (arith, ints) in
    let top : to_z w32 (of_z w32 b.max_y) ≡ b.max_y = omega (arith, ints) in
    let columns : c.extent-columns.result ≡ extent b.min_x b.max_x = omega (arith, ints, c.extent-columns.ensures) in
    let rows : c.extent-rows.result ≡ extent b.min_y b.max_y = omega (arith, ints, c.extent-rows.ensures) in
    let width : to_z w32 (extent b.min_x b.max_x) ≡ pos (extent b.min_x b.max_x) = omega (arith, ints, c.requires) in
    let height : to_z w32 (extent b.min_y b.max_y) ≡ pos (extent b.min_y b.max_y) = omega (arith, ints, c.requires) in
    IfOk-equal c.push_number-4.result _ _ _ c.push_number-4.ensures
    (grind (arith, ints, append_assoc))
