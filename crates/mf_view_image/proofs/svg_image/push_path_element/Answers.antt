use Rattle.std.proofs.Common.{w32}
use Rattle.std.proofs.lemmas.Int.{to_z-of_z}
use Rattle.std.proofs.lemmas.List.{append_assoc}
use Rattle.mf_view_image.proofs.PathTexts.{path_of_some}
use Rattle.mf_view_image.proofs.svg_image.push_path_element.Goals as goal

pub returns : goal.returns
returns c =
    rw (path_of_some c.args.weight c.args.rectangles.now c.requires, c.in_ok-extend_from_slice-5.ensures.items, c.in_ok-extend_from_slice-4.ensures.items)
    (rw (c.in_ok-extend_from_slice-3.ensures.items, c.in_ok-extend_from_slice-2.ensures.items, c.as_bytes.ensures.value, c.color.ensures)
    (rw (c.in_ok-push_number.ensures, c.in_ok-extend_from_slice.ensures.items, to_z-of_z w32 c.args.weight c.ranges.weight) (simp append_assoc)))
