-- The SVG image of a picture (Scalable Vector Graphics 1.1): for each weight a path of rectangles, one for each maximal run.
-- Pixel (x, y) is the unit square with (x, -(y + 1)) at its upper left corner, since y points down in SVG.
use Rattle.std.specs.Prelude.{ℕ, ◌+◌, zero, suc, ℤ, pos, neg_ℤ, ◌≤ℤ◌, ◌+ℤ◌, ◌-ℤ◌, int_lt, if◌then◌else◌}
use Rattle.std.specs.Prelude.{List, [], ◌∷◌, ◌++◌, codes, flat_map, fold, map}
use Rattle.std.specs.Int.{int_max, int_min}
use Rattle.std.specs.Fmt.{signed_decimal}
use Rattle.std.specs.Ordering.{int_eq}
use Rattle.mf_rows.specs.declared.bounds.Box4.{Box4}
use Rattle.mf_rows.specs.declared.run.Run.{Run}
use Rattle.mf_rows.specs.Dots.{Dot}
use Rattle.mf_rows.specs.Runs.{runs_of}
use Rattle.mf_rows.specs.Boxes.{extent}
use Rattle.mf_view_image.specs.declared.svg_image.ViewBox.{ViewBox}
use Rattle.mf_view_image.specs.Boxes.{image_box}

-- the rectangle of a run: a line of a path
unfoldable pub rectangle : Run → List ℕ
rectangle r =
    codes "M" ++ signed_decimal r.x ++ codes " " ++ signed_decimal (neg_ℤ (r.y +ℤ pos 1)) ++ codes "h" ++ signed_decimal (pos r.len) ++ codes "v1h-"
    ++ signed_decimal (pos r.len) ++ codes "z\n"

-- the rectangle of a run that has this weight, and nothing for another run
abbrev pub rectangle_of : ℤ → Run → List ℕ
rectangle_of w r = if int_eq r.weight w then rectangle r else []

-- the color of a weight: orange for negative ones, dark gray for 1 (and for 0, which no path has), blue for 2, and black for 3 and more
abbrev pub color : ℤ → List ℕ
color w =
    if int_lt w (pos 0) then codes "#f80"
    else (if int_lt w (pos 2) then codes "#444"
    else (if int_lt w (pos 3) then codes "#05a" else codes "#000"))

-- the path of a weight with these rectangles, or nothing where there is none
abbrev pub path_of_weight : ℤ → List ℕ → List ℕ
path_of_weight w [] = []
path_of_weight w (b ∷ bs) = codes "<path id=\"weight" ++ signed_decimal w ++ codes "\" fill=\"" ++ color w ++ codes "\" d=\"\n" ++ (b ∷ bs) ++ codes "\"/>\n"

-- the paths of n weights from w on: each has the rectangles of the runs of its weight
unfoldable pub paths_from : List Run → ℤ → ℕ → List ℕ
paths_from rs w zero = []
paths_from rs w (suc n) = path_of_weight w (flat_map (rectangle_of w) rs) ++ paths_from rs (w +ℤ pos 1) n

-- the weights of runs
abbrev pub weights_of : List Run → List ℤ
weights_of rs = map (λ r. r.weight) rs

-- the least weight of a picture with these runs, and the greatest one; pixels outside the runs have weight 0
abbrev pub least_weight_of : List Run → ℤ
least_weight_of rs = fold int_min (pos 0) (weights_of rs)

abbrev pub greatest_weight_of : List Run → ℤ
greatest_weight_of rs = fold int_max (pos 0) (weights_of rs)

-- the paths of all weights, the least first
unfoldable pub paths : List Run → List ℕ
paths rs = paths_from rs (least_weight_of rs) (extent (least_weight_of rs) (greatest_weight_of rs))

-- the view box of a box: the box with a margin of one pixel
abbrev pub view_box_of : Box4 → ViewBox
view_box_of b = record {
  left = b.min_x -ℤ pos 1;
  top = neg_ℤ (b.max_y +ℤ pos 2);
  width = pos (extent b.min_x b.max_x + 2);
  height = pos (extent b.min_y b.max_y + 2);
}

-- the end of the line with the size of the image, and the pattern of the grid
unfoldable pub grid : List ℕ
grid =
    codes "\">\n<pattern id=\"grid\" width=\"1\" height=\"1\" patternUnits=\"userSpaceOnUse\">"
    ++ codes "<path d=\"M0 0h1M0 0v1\" stroke=\"#999\" stroke-width=\".06\"/></pattern>\n"

-- the first two lines: the size of the image, and the pattern of the grid
unfoldable pub opening : ViewBox → List ℕ
opening v =
    codes "<svg xmlns=\"http://www.w3.org/2000/svg\" viewBox=\"" ++ signed_decimal v.left ++ codes " " ++ signed_decimal v.top ++ codes " "
    ++ signed_decimal v.width ++ codes " " ++ signed_decimal v.height ++ grid

-- a rectangle over the whole view box that is filled with this
unfoldable pub cover : ViewBox → List ℕ → List ℕ
cover v fill =
    codes "<rect x=\"" ++ signed_decimal v.left ++ codes "\" y=\"" ++ signed_decimal v.top ++ codes "\" width=\"" ++ signed_decimal v.width
    ++ codes "\" height=\"" ++ signed_decimal v.height ++ codes "\" fill=\"" ++ fill ++ codes "\"/>\n"

-- the axes: x = 0, as high as the view box, and y = 0, as wide; one that does not meet the view box lies outside of it
unfoldable pub axes : ViewBox → List ℕ
axes v =
    codes "<path d=\"M0 " ++ signed_decimal v.top ++ codes "v" ++ signed_decimal v.height ++ codes "M" ++ signed_decimal v.left ++ codes " 0h"
    ++ signed_decimal v.width ++ codes "\" stroke=\"#c00\" stroke-width=\".12\"/>\n"

-- no number of an image is farther from 0 than this
abbrev pub greatest_number : ℕ
greatest_number = 40000

-- an image may have this number
pub record IsImageNumber (z : ℤ) : Type 0 where
  pub least : neg_ℤ (pos greatest_number) ≤ℤ z
  pub greatest : z ≤ℤ pos greatest_number

-- an image may have the numbers of this view box
pub record HasImageNumbers (v : ViewBox) : Type 0 where
  pub left : IsImageNumber v.left
  pub top : IsImageNumber v.top
  pub width : IsImageNumber v.width
  pub height : IsImageNumber v.height

-- the image of runs in a view box: paper, the paths, and over them the grid and the axes
unfoldable pub image : ViewBox → List Run → List ℕ
image v rs =
    opening v ++ cover v (codes "#fff") ++ codes "<g shape-rendering=\"crispEdges\">\n" ++ paths rs ++ codes "</g>\n" ++ cover v (codes "url(#grid)") ++ axes v
    ++ codes "</svg>\n"

-- the SVG image of a picture
unfoldable pub svg_text : List Dot → List ℕ
svg_text ds = image (view_box_of (image_box ds)) (runs_of ds)
