-- Tiles: the characters of a frame, each of which shows two cells, one above the other.
use Rattle.std.specs.Prelude.{ℕ, ◌==◌, ◌&&◌, ◌||◌, Bool, ℤ, pos, List, [], ◌∷◌, ◌++◌, codes, if◌then◌else◌}
use Rattle.std.specs.Ordering.{int_eq}
use Rattle.mf_view_frame.specs.declared.shade.Shade.{Shade}
use Rattle.mf_view_frame.specs.declared.shade.Shade.TheVariants.{Blank, Negative, One, Two, More}
use Rattle.mf_view_frame.specs.declared.tile.Style.{Style}
use Rattle.mf_view_frame.specs.declared.tile.Style.TheVariants.{Colored, Plain}
use Rattle.mf_view_frame.specs.Cells.{depth, is_dark}

-- the UTF-8 bytes of the characters ▀, ▄, █, ░, ▏ and ▁
abbrev pub upper_half : List ℕ
upper_half = 226 ∷ 150 ∷ 128 ∷ []

abbrev pub lower_half : List ℕ
lower_half = 226 ∷ 150 ∷ 132 ∷ []

abbrev pub full_block : List ℕ
full_block = 226 ∷ 150 ∷ 136 ∷ []

abbrev pub light_shade : List ℕ
light_shade = 226 ∷ 150 ∷ 145 ∷ []

abbrev pub left_border : List ℕ
left_border = 226 ∷ 150 ∷ 143 ∷ []

abbrev pub lower_border : List ℕ
lower_border = 226 ∷ 150 ∷ 129 ∷ []

-- the escape character, which begins each control sequence (ECMA-48)
abbrev pub escape : List ℕ
escape = 27 ∷ []

-- whether a shade is that of weight 0, and whether it is that of negative weights
abbrev pub is_blank_shade : Shade → Bool
is_blank_shade a = depth a == depth Blank

abbrev pub is_negative : Shade → Bool
is_negative a = depth a == depth Negative

-- whether a tile is next to an axis: that of y is the left border of column 0, that of x the lower border of line 0
abbrev pub is_at_axis : ℤ → ℤ → Bool
is_at_axis column line = int_eq column (pos 0) || int_eq line (pos 0)

-- what marks the axis in a tile without dark cells, a space where it is at none
abbrev pub axis_mark : ℤ → ℤ → List ℕ
axis_mark column line =
    if int_eq column (pos 0) then left_border
    else (if int_eq line (pos 0) then lower_border else codes " ")

-- a tile of no dark cell, without colors: that one of its cells is negative, or else the axis
abbrev pub light_tile : Shade → Shade → ℤ → ℤ → List ℕ
light_tile upper lower column line = if is_negative upper || is_negative lower then light_shade else axis_mark column line

-- a tile without colors: its dark halves, or else what a light tile shows
abbrev pub plain_tile : Shade → Shade → ℤ → ℤ → List ℕ
plain_tile upper lower column line =
    if is_dark upper then (if is_dark lower then full_block else upper_half)
    else (if is_dark lower then lower_half else light_tile upper lower column line)

-- the number of the color of a shade, among the 256 colors of a terminal
abbrev pub color_of : Shade → List ℕ
color_of Blank = codes "255"
color_of Negative = codes "208"
color_of One = codes "238"
color_of Two = codes "25"
color_of More = codes "16"

-- the number of the color of an axis
abbrev pub axis_color : List ℕ
axis_color = codes "250"

-- what sets the color of a character and that of its background
abbrev pub colors : List ℕ → List ℕ → List ℕ
colors foreground background = escape ++ codes "[38;5;" ++ foreground ++ codes ";48;5;" ++ background ++ codes "m"

-- a tile in colors: its upper half in the foreground and its lower half in the background, or the axis where both are blank and it is at
-- one
abbrev pub colored_tile : Shade → Shade → ℤ → ℤ → List ℕ
colored_tile upper lower column line =
    if (is_blank_shade upper && is_blank_shade lower) && is_at_axis column line then colors axis_color (color_of Blank) ++ axis_mark column line
    else (colors (color_of upper) (color_of lower) ++ upper_half)

-- a tile of a style, whose upper and lower cell have these shades
abbrev pub tile : Style → Shade × Shade → ℤ → ℤ → List ℕ
tile Plain cells column line = plain_tile cells.0 cells.1 column line
tile Colored cells column line = colored_tile cells.0 cells.1 column line

-- the start of a line: in colors, what erases the line that stood there. (At the end of a line that is as wide as the terminal,
-- it would erase the last character.)
abbrev pub line_start : Style → List ℕ
line_start Plain = []
line_start Colored = escape ++ codes "[K"

-- the end of a line of tiles, after which the colors are those of the terminal again
abbrev pub tile_end : Style → List ℕ
tile_end Plain = codes "\n"
tile_end Colored = escape ++ codes "[0m\n"
