-- The PGM image of a picture (Netpbm's portable graymap): the gray value of each pixel of its least box in a byte, rows in order from
-- the top.
use Rattle.std.specs.Prelude.{◌+◌, ◌-◌, ◌*◌, ◌+ℤ◌, ◌-ℤ◌, ℕ, ℤ, pos, negsuc, int_lt, min, List, [], ◌++◌, codes, length, if◌then◌else◌}
use Rattle.std.specs.Fmt.{signed_decimal}
use Rattle.std.specs.Int.RustNames.{unsigned_abs}
use Rattle.std.specs.Ordering.{int_eq}
use Rattle.mf_rows.specs.declared.bounds.Box4.{Box4}
use Rattle.mf_rows.specs.Dots.{Dot, weight_at}
use Rattle.mf_text_show.specs.Grid.{shown_at, shown_box}
use Rattle.mf_rows.specs.Boxes.{extent}
use Rattle.mf_view_image.specs.Boxes.{image_box}

-- the greatest gray value (Netpbm: maxval), which is white; the step between the gray values of 1, 2 and 3; and the number to which the
-- absolute values of negative weights are added
abbrev pub maxval : ℕ
maxval = 255

abbrev pub gray_step : ℕ
gray_step = 40

abbrev pub negative_base : ℕ
negative_base = 199

-- the gray value of a weight: 255 for 0; 120, 80 and 40 for 1, 2 and 3; 39 to 1 for 4 to 42, and 0 above; 200 to 253 for -1 to -54, and
-- 254 below
abbrev pub gray_value : ℤ → ℕ
gray_value w =
    if int_eq w (pos 0) then maxval
    else (if int_lt w (pos 0) then min (negative_base + unsigned_abs w) (maxval - 1)
    else (if int_lt w (pos 4) then gray_step * (4 - unsigned_abs w) else gray_step + 3 - unsigned_abs w))

-- the least and the greatest weight whose gray value no other weight has
abbrev pub least_distinct_weight : ℤ
least_distinct_weight = negsuc 53

abbrev pub greatest_distinct_weight : ℤ
greatest_distinct_weight = pos 42

-- what comes before the gray values: the left column and the top row, the numbers of columns and rows, and the greatest gray value
abbrev pub pgm_head : Box4 → List ℕ
pgm_head b =
    codes "P5\n# left " ++ signed_decimal b.min_x ++ codes " top " ++ signed_decimal b.max_y ++ codes "\n" ++ signed_decimal
    (pos (extent b.min_x b.max_x)) ++ codes " " ++ signed_decimal (pos (extent b.min_y b.max_y)) ++ codes "\n255\n"

-- the weight of the pixel in column i and row j of a box, both counted from 0, from the left and from the top, and the place of its gray
-- value in the image
abbrev pub weight_in_box : List Dot → Box4 → ℕ → ℕ → ℤ
weight_in_box ds b i j = weight_at ds (b.min_x +ℤ pos i) (b.max_y -ℤ pos j)

abbrev pub place_in_image : Box4 → ℕ → ℕ → ℕ
place_in_image b i j = length (pgm_head b) + (j * extent b.min_x b.max_x + i)

-- the gray values of the pixels of a box
abbrev pub box_bytes : List Dot → Box4 → List ℕ
box_bytes ds b = shown_box (shown_at gray_value ds) [] b

-- the PGM image of a picture
unfoldable pub pgm_bytes : List Dot → List ℕ
pgm_bytes ds = pgm_head (image_box ds) ++ box_bytes ds (image_box ds)
