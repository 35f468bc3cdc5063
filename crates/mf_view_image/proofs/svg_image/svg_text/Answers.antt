use Rattle.std.proofs.lemmas.List.{append_assoc}
use Rattle.mf_view_image.specs.Svg.{image, svg_text}
use Rattle.mf_view_image.proofs.svg_image.svg_text.Goals as goal
use Rattle.std.proofs.Common.{arith}
use Rattle.std.proofs.lemmas.Int.{ints}

pub returns : goal.returns
unfolding image svg_text
returns c =
    rw (c.in_ok-extend_from_slice-3.ensures.items, c.in_ok-push_axes.ensures, c.in_ok-push_cover-2.ensures, c.in_ok-extend_from_slice-2.ensures.items)
    (grind (arith, ints, append_assoc))
