-- Frames: what a picture looks like on a canvas.
use Rattle.std.specs.Prelude.{ℕ, zero, suc, ◌-◌, ℤ, pos, ◌+ℤ◌, ◌*ℤ◌, List, [], ◌++◌, codes}
use Rattle.std.specs.Fmt.{decimal, signed_decimal}
use Rattle.std.specs.Option.{option_map_or}
use Rattle.mf_rows.specs.declared.bounds.Box4.{Box4}
use Rattle.mf_rows.specs.Dots.{Dot, total_of}
use Rattle.mf_rows.specs.Boxes.{box_of}
use Rattle.mf_view_frame.specs.declared.shade.Shade.{Shade}
use Rattle.mf_view_frame.specs.declared.tile.Style.{Style}
use Rattle.mf_view_frame.specs.declared.tile.Style.TheVariants.{Colored, Plain}
use Rattle.mf_view_frame.specs.declared.window.Window.{Window}
use Rattle.mf_view_frame.specs.Canvases.{Size, picture_lines}
use Rattle.mf_view_frame.specs.Cells.{cell_shade}
use Rattle.mf_view_frame.specs.Tiles.{tile, tile_end, line_start}
use Rattle.mf_view_frame.specs.Windows.{window_of}

-- the tile of column i in line k, where f has the shades of cells: those of rows 2 * k + 1 and 2 * k
abbrev pub tile_at : Style → (ℤ → ℤ → Shade) → ℤ → ℤ → List ℕ
tile_at style f k i = tile style (f i ((pos 2 *ℤ k) +ℤ pos 1), f i (pos 2 *ℤ k)) i k

-- n tiles of a line from column i on
unfoldable pub tiles : (ℤ → List ℕ) → ℤ → ℕ → List ℕ
tiles tile_in i zero = []
tiles tile_in i (suc n) = tile_in i ++ tiles tile_in (i +ℤ pos 1) n

-- line k of a window
abbrev pub window_line : Style → (ℤ → ℤ → Shade) → Window → ℤ → List ℕ
window_line style f w k = line_start style ++ tiles (tile_at style f k) w.column w.columns ++ tile_end style

-- the n lowest lines of a window, from the highest of them downwards
unfoldable pub lowest_lines : Style → (ℤ → ℤ → Shade) → Window → ℕ → List ℕ
lowest_lines style f w zero = []
lowest_lines style f w (suc n) = window_line style f w (w.line +ℤ pos n) ++ lowest_lines style f w n

-- all lines of a window
abbrev pub window_lines : Style → (ℤ → ℤ → Shade) → Window → List ℕ
window_lines style f w = lowest_lines style f w w.lines

-- an empty line
abbrev pub empty_line : Style → List ℕ
empty_line style = line_start style ++ codes "\n"

-- n empty lines
unfoldable pub empty_lines : Style → ℕ → List ℕ
empty_lines style zero = []
empty_lines style (suc n) = empty_line style ++ empty_lines style n

-- the empty lines above n lines of a picture: none in a plain frame, and as many as make a colored one as high as its canvas
abbrev pub empty_lines_above : Style → Size → ℕ → List ℕ
empty_lines_above Plain canvas n = []
empty_lines_above Colored canvas n = empty_lines Colored (picture_lines canvas - n)

-- the line with the revision and the total weight
abbrev pub heading : Style → ℕ → ℤ → List ℕ
heading style revision total = line_start style ++ codes "revision " ++ decimal revision ++ codes "  totalweight " ++ signed_decimal total ++ codes "\n"

-- two numbers, the ends of a range
abbrev pub range : ℤ → ℤ → List ℕ
range first last = signed_decimal first ++ codes ".." ++ signed_decimal last

-- the line with a box and its scale
abbrev pub measures : Style → Box4 → ℤ → List ℕ
measures style b s =
    line_start style ++ codes "columns " ++ range b.min_x b.max_x ++ codes "  rows " ++ range b.min_y b.max_y
    ++ codes "  scale " ++ signed_decimal s ++ codes "\n"

-- the lines of a picture with this window, after the empty lines above them
abbrev pub picture_text : Style → Size → List Dot → Window → List ℕ
picture_text style canvas ds w = empty_lines_above style canvas w.lines ++ window_lines style (cell_shade w.scale ds) w

-- the frame of this picture, which is blank
unfoldable pub blank_frame : Style → Size → ℕ → List Dot → List ℕ
blank_frame style canvas revision ds = empty_lines_above style canvas 0 ++ heading style revision (total_of ds) ++ line_start style ++ codes "blank  scale 1\n"

-- the frame of a picture, by its least box
unfoldable pub frame_text : Style → Size → ℕ → List Dot → List ℕ
frame_text style canvas revision ds =
    option_map_or
    (λ b. picture_text style canvas ds (window_of canvas b) ++ heading style revision (total_of ds) ++ measures style b (window_of canvas b).scale)
    (box_of ds) (blank_frame style canvas revision ds)
