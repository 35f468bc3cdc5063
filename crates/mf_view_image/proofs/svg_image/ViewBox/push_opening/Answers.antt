use Rattle.std.proofs.lemmas.List.{append_assoc}
use Rattle.std.proofs.lemmas.Result.{IfOk-equal}
use Rattle.mf_view_image.specs.Svg.{grid, opening}
use Rattle.mf_view_image.proofs.ImageBoxes.{numbers_stay}
use Rattle.mf_view_image.proofs.svg_image.ViewBox.push_opening.Goals as goal

pub returns : goal.returns
unfolding opening grid
returns c =
    let (left, top, width, height) = numbers_stay c.args.self.now c.requires in
    IfOk-equal c.push_number-4.result _ _ _ c.push_number-4.ensures
    (rw (c.in_ok-push_number-3.ensures, c.in_ok-push_number-2.ensures, c.in_ok-push_number.ensures)
    (rw (c.in_ok-extend_from_slice.ensures.items, left, top, width, height) (simp append_assoc)))
