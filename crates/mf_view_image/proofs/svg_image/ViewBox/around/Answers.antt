use Rattle.std.proofs.Common.{◌≡◌, pos, ◌+ℤ◌, ◌-ℤ◌, ◌+◌, to_z, of_z, w32, neg_ℤ, arith}
use Rattle.std.proofs.lemmas.Int.{ints}
use Rattle.mf_rows.specs.Boxes.{extent}
use Rattle.mf_view_image.proofs.ImageBoxes.{view_box_numbers}
use Rattle.mf_view_image.proofs.svg_image.ViewBox.around.Goals as goal

pub returns-clause-value : goal.returns-clause-value
returns-clause-value c =
    let b = c.args.bounds.now in
    let columns : c.extent-columns.result ≡ extent b.min_x b.max_x = omega (arith, ints, c.extent-columns.ensures) in
    let rows : c.extent-rows.result ≡ extent b.min_y b.max_y = omega (arith, ints, c.extent-rows.ensures) in
    let left : to_z w32 (of_z w32 (to_z w32 (of_z w32 b.min_x) -ℤ pos 1)) ≡ b.min_x -ℤ pos 1 = omega (arith, ints) in
    let top : to_z w32 (of_z w32 (pos 0 -ℤ to_z w32 (of_z w32 (to_z w32 (of_z w32 b.max_y) +ℤ pos 2)))) ≡ neg_ℤ (b.max_y +ℤ pos 2) = omega (arith, ints) in
    let width : to_z w32 (of_z w32 (to_z w32 c.extent-columns.result +ℤ pos 2)) ≡ pos (extent b.min_x b.max_x + 2) =
    rw columns (omega (arith, ints, c.requires)) in
    let height : to_z w32 (of_z w32 (to_z w32 c.extent-rows.result +ℤ pos 2)) ≡ pos (extent b.min_y b.max_y + 2) =
    rw rows (omega (arith, ints, c.requires)) in
    grind (arith, ints)

pub returns-clause-numbers : goal.returns-clause-numbers
returns-clause-numbers c = rw (returns-clause-value c) (view_box_numbers c.args.bounds.now c.requires)
