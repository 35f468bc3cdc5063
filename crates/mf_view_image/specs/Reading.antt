-- Reading images back. In an SVG image each rectangle of a path has the pixels of a run, whose weight is in the name of the path.
use Rattle.std.specs.Prelude.{ℕ, ◌==◌, ◌+◌, ◌-◌, ◌*◌, ◌/◌, nat_lt, Bool, true, false, ℤ, pos, neg_ℤ, ◌+ℤ◌, if◌then◌else◌}
use Rattle.std.specs.Prelude.{List, [], ◌∷◌, ◌++◌, codes, Option, None, Some, option_map}
use Rattle.std.specs.Char.{is_ascii_digit}
use Rattle.std.specs.Int.RustNames.{unsigned_abs}
use Rattle.mf_rows.specs.declared.bounds.Box4.{Box4}
use Rattle.mf_rows.specs.Boxes.{extent}
use Rattle.mf_rows.specs.Dots.{Dot}
use Rattle.mf_rows.specs.Runs.{equal_dots}
use Rattle.mf_text_show.specs.Grid.{digit_zero, line_feed, minus_sign}
use Rattle.mf_view_image.specs.Pgm.{gray_step, maxval, negative_base}

-- what comes after these first bytes of a text, if it begins with them
unfoldable pub rest_after : List ℕ → List ℕ → Option (List ℕ)
rest_after [] text = Some text
rest_after (p ∷ ps) [] = None
rest_after (p ∷ ps) (b ∷ bs) = if b == p then rest_after ps bs else None

-- what comes after the first byte c of a text, nothing where it has none
unfoldable pub after_first : ℕ → List ℕ → List ℕ
after_first c [] = []
after_first c (b ∷ bs) = if b == c then bs else after_first c bs

-- the number n, continued by the digits at the front of a text
unfoldable pub with_digits : ℕ → List ℕ → ℕ
with_digits n [] = n
with_digits n (b ∷ bs) = if is_ascii_digit b then with_digits (10 * n + (b - digit_zero)) bs else n

-- the number at the front of a text, 0 where it has none there
unfoldable pub number : List ℕ → ℤ
number [] = pos 0
number (b ∷ bs) = if b == minus_sign then neg_ℤ (pos (with_digits 0 bs)) else pos (with_digits 0 (b ∷ bs))

-- the weight of what comes after a line: the one that the line names, if it begins a path
abbrev pub named_weight : ℤ → Option (List ℕ) → ℤ
named_weight w None = w
named_weight w (Some text) = number text

-- a space, which comes before the upper edge of a rectangle, and `h`, which comes before its width
abbrev pub space : ℕ
space = 32

abbrev pub before_width : ℕ
before_width = 104

-- the dots of a rectangle, `M` and then its column, the upper edge of its row, and its width
abbrev pub dots_of_rectangle : ℤ → Option (List ℕ) → List Dot
dots_of_rectangle w None = []
dots_of_rectangle w (Some text) =
    equal_dots (neg_ℤ (number (after_first space text) +ℤ pos 1)) (number text) w (unsigned_abs (number (after_first before_width text)))

-- the dots that the lines of a text draw, from the start of a line on or from its middle; a path of weight w is open
unfoldable pub dots_in : Bool → ℤ → List ℕ → List Dot
dots_in starts w [] = []
dots_in true w (b ∷ bs) =
    dots_of_rectangle w (rest_after (codes "M") (b ∷ bs)) ++ dots_in (b == line_feed) (named_weight w (rest_after (codes "<path id=\"weight") (b ∷ bs))) bs
dots_in false w (b ∷ bs) = dots_in (b == line_feed) w bs

-- the dots of an image
abbrev pub read_svg : List ℕ → List Dot
read_svg text = dots_in true (pos 0) text

-- what a PGM image has: in its comment the left column and the top row, the numbers of columns and rows, the greatest gray value
-- (Netpbm: width, height, maxval), and the gray values
pub record Graymap : Type 0 where
  pub left : ℤ
  pub top : ℤ
  pub columns : ℤ
  pub rows : ℤ
  pub greatest : ℤ
  pub values : List ℕ

-- what a PGM image says from the left column, in its comment, on: the top row, after ` top `; in the next line the numbers of columns
-- and of rows; in the one after it the greatest gray value; and then the gray values
abbrev pub graymap_from : List ℕ → Graymap
graymap_from text =
    let lines = after_first line_feed text in
    record {
      left = number text;
      top = number (after_first space (after_first space text));
      columns = number lines;
      rows = number (after_first space lines);
      greatest = number (after_first line_feed lines);
      values = after_first line_feed (after_first line_feed lines);
    }

-- what the PGM image of a box with these gray values says
abbrev pub graymap_of : Box4 → List ℕ → Graymap
graymap_of b values = record {
  left = b.min_x;
  top = b.max_y;
  columns = pos (extent b.min_x b.max_x);
  rows = pos (extent b.min_y b.max_y);
  greatest = pos 255;
  values = values;
}

-- what a PGM image says, if the bytes begin as one: with P5 and the comment
abbrev pub read_pgm : List ℕ → Option Graymap
read_pgm bytes = option_map graymap_from (rest_after (codes "P5\n# left ") bytes)

-- the weight of a gray value, where no other weight has it
abbrev pub weight_of_gray_value : ℕ → ℤ
weight_of_gray_value k =
    if k == maxval then pos 0
    else (if nat_lt negative_base k then neg_ℤ (pos (k - negative_base))
    else (if nat_lt k gray_step then pos (gray_step + 3 - k) else pos (4 - k / gray_step)))
