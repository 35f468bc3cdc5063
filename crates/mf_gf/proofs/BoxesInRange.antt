-- The ends of the box of a picture are coordinates that the field allows.
use Rattle.std.proofs.Common.{List, [], ◌∷◌, arith}
use Rattle.std.proofs.lemmas.Int.{ints}
use Rattle.mf_rows.specs.Boxes.{box_of_dots}
use Rattle.mf_rows.specs.Dots.{Dot, IsPicture}
use Rattle.mf_rows.proofs.BoxesOfDots.{least_box_of_dots, least_box_of_field}
use Rattle.mf_gf.specs.Boxes.{IsBoxInRange, box_of_pixels}
use Rattle.mf_gf.specs.Pixels.{black}
use Rattle.mf_gf.proofs.BlackDots.{black_picture}

pub box_in_range : (ds : List Dot) → IsPicture ds → IsBoxInRange (box_of_pixels ds)
unfolding box_of_pixels
box_in_range [] picture = omega (arith, ints)
box_in_range (d ∷ ds) picture = omega (arith, ints, least_box_of_field (d ∷ ds) (box_of_dots d ds) picture (least_box_of_dots d ds))

pub black_box_in_range : (ds : List Dot) → IsPicture ds → IsBoxInRange (box_of_pixels (black ds))
black_box_in_range ds picture = box_in_range (black ds) (black_picture ds picture)
