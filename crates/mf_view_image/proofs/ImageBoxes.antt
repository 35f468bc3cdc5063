-- The boxes of images.
use Rattle.std.proofs.Common.{◌≡◌, to_z, of_z, w32, ℤ, List, [], ◌∷◌, refl, sym, ⊎_elim, arith}
use Rattle.std.proofs.lemmas.Int.{ints}
use Rattle.mf_rows.specs.declared.bounds.Box4.{Box4}
use Rattle.mf_rows.specs.Bounds.{IsLeastBox}
use Rattle.mf_rows.specs.Dots.{Dot, IsPicture}
use Rattle.mf_rows.proofs.BoxesJoined.{box_of_some}
use Rattle.mf_rows.specs.Boxes.{IsBoxOfField, box_of_dots}
use Rattle.mf_rows.proofs.BoxesOfDots.{least_box_of_dots, least_box_of_field, same_least_box}
use Rattle.mf_view_image.specs.declared.svg_image.ViewBox.{ViewBox}
use Rattle.mf_view_image.specs.Boxes.{IsImageBox, IsTooLargeForImage, image_box, origin}
use Rattle.mf_view_image.specs.Svg.{HasImageNumbers, view_box_of}

least_is_image_box : (ds : List Dot) (b : Box4) → IsLeastBox ds b → b ≡ image_box ds
unfolding image_box
least_is_image_box [] b least = absurd (box_of_some b least)
least_is_image_box (d ∷ ds) b least = same_least_box (d ∷ ds) b (box_of_dots d ds) least (least_box_of_dots d ds)

-- the least box is that of the image
pub box_of_picture : (ds : List Dot) (b : Box4) → IsPicture ds → IsLeastBox ds b → IsImageBox ds b
box_of_picture ds b picture least = record { is = least_is_image_box ds b least; field = least_box_of_field ds b picture least }

-- the image of the blank picture has the box of the origin, and is not too large
pub box_of_blank : (ds : List Dot) → ds ≡ [] → IsImageBox ds origin
unfolding image_box
box_of_blank ds blank = grind (arith, ints)

pub blank_fits : (ds : List Dot) → ds ≡ [] → IsTooLargeForImage ds → ⊥
blank_fits ds blank large = ⊎_elim (λ wide. omega (arith, wide)) (λ high. omega (arith, high)) (rw (sym (box_of_blank ds blank).is) at large)

-- the box of an image lies in the field
pub box_is_of_field : (ds : List Dot) → IsPicture ds → IsBoxOfField (image_box ds)
unfolding image_box
box_is_of_field [] picture = (box_of_blank [] refl).field
box_is_of_field (d ∷ ds) picture = least_box_of_field (d ∷ ds) (box_of_dots d ds) picture (least_box_of_dots d ds)

-- ---- the numbers of a view box

pub view_box_numbers : (b : Box4) → IsBoxOfField b → HasImageNumbers (view_box_of b)
view_box_numbers b field = omega (arith, ints, field)

-- a number of an image stays itself as a value of 32 bits
abbrev StaysItself : ℤ → Type 0
StaysItself z = to_z w32 (of_z w32 z) ≡ z

pub numbers_stay : (v : ViewBox) → HasImageNumbers v → StaysItself v.left × StaysItself v.top × StaysItself v.width × StaysItself v.height
numbers_stay v has = (omega (arith, ints, has.left), omega (arith, ints, has.top), omega (arith, ints, has.width), omega (arith, ints, has.height))
