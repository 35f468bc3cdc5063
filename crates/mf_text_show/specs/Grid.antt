-- The grid text of a picture: one character for each pixel of its least box, rows in order from the top.
use Rattle.std.specs.Prelude.{ℕ, zero, suc, ◌+◌, ◌*◌, ℤ, pos, ◌+ℤ◌, ◌-ℤ◌, int_lt, if◌then◌else◌}
use Rattle.std.specs.Prelude.{List, [], ◌∷◌, ◌++◌, get_or, codes, Option, None, Some, MatchOption}
use Rattle.std.specs.Int.RustNames.{unsigned_abs}
use Rattle.std.specs.Ordering.{int_eq}
use Rattle.mf_rows.specs.declared.bounds.Box4.{Box4}
use Rattle.mf_rows.specs.Boxes.{IsLargerThan, box_of, extent}
use Rattle.mf_rows.specs.Dots.{Dot, weight_at}

-- the characters of a grid: those of weight 0 and of weights beyond the greatest digit, `0` and the one before `a`, from which the
-- others are counted, and the end of a line
abbrev pub full_stop : ℕ
full_stop = 46

abbrev pub plus_sign : ℕ
plus_sign = 43

abbrev pub minus_sign : ℕ
minus_sign = 45

abbrev pub digit_zero : ℕ
digit_zero = 48

abbrev pub before_a : ℕ
before_a = 96

abbrev pub line_feed : ℕ
line_feed = 10

-- the greatest weight that has a digit
abbrev pub greatest_digit : ℕ
greatest_digit = 9

-- the character of a weight: `.` for 0, `1` to `9` for themselves, `+` above 9, `a` to `i` for -1 to -9, and `-` below -9
abbrev pub grid_character : ℤ → ℕ
grid_character w =
    if int_eq w (pos 0) then full_stop
    else (if int_lt (pos greatest_digit) w then plus_sign
    else (if int_lt w (pos 0 -ℤ pos greatest_digit) then minus_sign
    else (if int_lt (pos 0) w then digit_zero + unsigned_abs w else before_a + unsigned_abs w)))

-- the number with which `show` shows the weight of the pixel of a picture in row y and column x
abbrev pub shown_at : (ℤ → ℕ) → List Dot → ℤ → ℤ → ℕ
shown_at show ds y x = show (weight_at ds x y)

-- the numbers of n columns from column x on
unfoldable pub shown_row : (ℤ → ℕ) → ℤ → ℕ → List ℕ
shown_row f x zero = []
shown_row f x (suc n) = f x ∷ shown_row f (x +ℤ pos 1) n

-- the lines of n rows from row y downwards
unfoldable pub shown_rows : (ℤ → List ℕ) → ℤ → ℕ → List ℕ
shown_rows line y zero = []
shown_rows line y (suc n) = line y ++ shown_rows line (y -ℤ pos 1) n

-- the line of row y of a box: the numbers of its pixels, and this end
abbrev pub shown_line : (ℤ → ℤ → ℕ) → List ℕ → Box4 → ℤ → List ℕ
shown_line f end b y = shown_row (f y) b.min_x (extent b.min_x b.max_x) ++ end

-- the lines of all rows of a box
abbrev pub shown_box : (ℤ → ℤ → ℕ) → List ℕ → Box4 → List ℕ
shown_box f end b = shown_rows (shown_line f end b) b.max_y (extent b.min_y b.max_y)

-- the characters of n pixels of row y, from column x on
abbrev pub row_text : List Dot → ℤ → ℤ → ℕ → List ℕ
row_text ds y x n = shown_row (shown_at grid_character ds y) x n

-- the lines of all rows of a box
abbrev pub box_text : List Dot → Box4 → List ℕ
box_text ds b = shown_box (shown_at grid_character ds) (codes "\n") b

-- byte i of line j of the text of a box, both counted from 0: a line has a byte for each column, and then the line feed
abbrev pub byte_in_line : List Dot → Box4 → ℕ → ℕ → ℕ
byte_in_line ds b j i = get_or (box_text ds b) (j * (extent b.min_x b.max_x + 1) + i) 0

-- the grid text of a picture with this least box, or `blank` where it has none
abbrev pub grid_text_in : List Dot → Option Box4 → List ℕ
grid_text_in ds None = codes "blank\n"
grid_text_in ds (Some b) = box_text ds b

-- the grid text of a picture
unfoldable pub grid_text : List Dot → List ℕ
grid_text ds = grid_text_in ds (box_of ds)

-- the greatest number of columns, and of rows, of a grid
abbrev pub greatest_grid_side : ℕ
greatest_grid_side = 128

-- the least box of a picture is wider or higher than a grid may be
abbrev pub IsTooLargeForGrid : List Dot → Type 0
IsTooLargeForGrid ds = MatchOption (box_of ds) ⊥ (IsLargerThan greatest_grid_side)
