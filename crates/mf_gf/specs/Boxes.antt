-- The boxes of characters.
use Rattle.std.specs.Prelude.{◌+◌, ◌*◌, ℕ, pos, ◌+ℤ◌, ◌-ℤ◌, List, [], ◌∷◌, Option, None, Some}
use Rattle.std.specs.Int.{int_max, int_min}
use Rattle.mf_geom.specs.Coordinates.{IsCoordinate}
use Rattle.mf_rows.specs.declared.bounds.Box4.{Box4}
use Rattle.mf_rows.specs.Boxes.{box_of_dots}
use Rattle.mf_rows.specs.Dots.{Dot}
use Rattle.mf_gf.specs.declared.boxes.CharacterBox.{CharacterBox}
use Rattle.mf_gf.specs.Numbers.{word_at, word_size}

-- the box of a character with no black pixel
abbrev pub no_box : CharacterBox
no_box = record { min_m = pos 0; max_m = pos 0; min_n = pos 0; max_n = pos 0 }

-- the box of a character whose pixels have this least box: its greatest m is one more than the last black column, where m is after the
-- last paint
abbrev pub character_box : Box4 → CharacterBox
character_box b = record { min_m = b.min_x; max_m = b.max_x +ℤ pos 1; min_n = b.min_y; max_n = b.max_y }

-- the least box around two boxes
abbrev pub join : CharacterBox → CharacterBox → CharacterBox
join a b = record {
  min_m = int_min a.min_m b.min_m;
  max_m = int_max a.max_m b.max_m;
  min_n = int_min a.min_n b.min_n;
  max_n = int_max a.max_n b.max_n;
}

-- the least box around an earlier box, if there is one, and another
abbrev pub widen : Option CharacterBox → CharacterBox → CharacterBox
widen None b = b
widen (Some before) b = join before b

-- the box of a set of pixels: that of the least box around them
unfoldable pub box_of_pixels : List Dot → CharacterBox
box_of_pixels [] = no_box
box_of_pixels (d ∷ ds) = character_box (box_of_dots d ds)

-- the box whose numbers are in the bytes from place i: least m, greatest m, least n and greatest n, four bytes each
abbrev pub box_at : ℕ → List ℕ → CharacterBox
box_at i bytes = record {
  min_m = word_at i bytes;
  max_m = word_at (i + word_size) bytes;
  min_n = word_at (i + 2 * word_size) bytes;
  max_n = word_at (i + 3 * word_size) bytes;
}

-- the ends of a box are coordinates
pub record IsBoxInRange (b : CharacterBox) : Type 0 where
  pub columns : IsCoordinate b.min_m × IsCoordinate b.max_m
  pub rows : IsCoordinate b.min_n × IsCoordinate b.max_n

-- the box of the pixels in a box: the last column is the one before the right end
abbrev pub pixel_box : CharacterBox → Box4
pixel_box b = record { min_x = b.min_m; max_x = b.max_m -ℤ pos 1; min_y = b.min_n; max_y = b.max_n }
