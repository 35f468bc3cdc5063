-- The box of an image: the least box of its picture.
use Rattle.std.specs.Prelude.{◌≡◌, ℕ, pos, List, [], ◌∷◌}
use Rattle.mf_rows.specs.declared.bounds.Box4.{Box4}
use Rattle.mf_rows.specs.Dots.{Dot}
use Rattle.mf_rows.specs.Boxes.{IsBoxOfField, IsLargerThan, box_of_dots}

-- the box of the pixel at the origin
abbrev pub origin : Box4
origin = record { min_x = pos 0; max_x = pos 0; min_y = pos 0; max_y = pos 0 }

-- the box of an image: the least box or, of the blank picture, that of the pixel at the origin
unfoldable pub image_box : List Dot → Box4
image_box [] = origin
image_box (d ∷ ds) = box_of_dots d ds

-- the greatest number of columns, and of rows, of an image (here as well as in the code, so that a wrong constant there is not proved)
abbrev pub greatest_image_side : ℕ
greatest_image_side = 4096

-- the box of the image of a picture has more columns or rows than an image may have
abbrev pub IsTooLargeForImage : List Dot → Type 0
IsTooLargeForImage ds = IsLargerThan greatest_image_side (image_box ds)

-- the box is that of a picture's image, and in the field
pub record IsImageBox (ds : List Dot) (b : Box4) : Type 0 where
  pub is : b ≡ image_box ds
  pub field : IsBoxOfField b
