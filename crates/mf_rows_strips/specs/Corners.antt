-- Corners: each adds its weight to all pixels at or to the right of its column and below its height.
use Rattle.std.specs.Prelude.{◌≡◌, ◌≤◌, ◌<◌, ◌*◌, ◌⊎◌, ◌&&◌, ℤ, pos, ◌+ℤ◌, ◌-ℤ◌, ◌≤ℤ◌, ◌<ℤ◌, int_le, int_lt, All, List, [], ◌∷◌, ◌++◌, length, if◌then◌else◌}
use Rattle.mf_geom.specs.Coordinates.{least_coordinate, greatest_coordinate, IsCoordinate}
use Rattle.mf_geom.specs.Field.{IsInField}
use Rattle.mf_geom.specs.Lawful.{most_points}
use Rattle.mf_rows_edges.specs.LawfulWeights.{greatest_weight, IsInReach, IsLawfulWeight}
use Rattle.mf_rows_edges.specs.declared.edge.Edge.{Edge}
use Rattle.mf_rows_edges.specs.Edges.{AreEdgesFrom, weight_in}
use Rattle.mf_rows_edges.specs.Merging.{AreEdgesBefore}
use Rattle.mf_rows_strips.specs.declared.corner.Corner.{Corner}
use Rattle.mf_rows_strips.specs.Strips.{EdgeStrip, last_row, weight_in_strips}

-- what a corner adds to the pixel (x, y)
unfoldable pub added_by : Corner → ℤ → ℤ → ℤ
added_by k x y = if int_le k.x x && int_lt y k.y then k.weight else pos 0

-- what corners add to the pixel (x, y)
unfoldable pub added_by_all : List Corner → ℤ → ℤ → ℤ
added_by_all [] x y = pos 0
added_by_all (k ∷ ks) x y = added_by k x y +ℤ added_by_all ks x y

-- the greatest weight of a corner, which is that of a contour
abbrev pub greatest_corner_weight : ℤ
greatest_corner_weight = pos 3

-- a corner may have this weight
abbrev pub IsCornerWeight : ℤ → Type 0
IsCornerWeight w = IsInReach greatest_corner_weight w

-- a corner is a point in range with such a weight
pub record IsCorner (k : Corner) : Type 0 where
  pub column : IsCoordinate k.x
  pub height : IsCoordinate k.y
  pub weight : IsCornerWeight k.weight

-- at most twice as many corners as a cycle may have points, which add nothing to the right of the field (what they add below it
-- is left out, as no pixel is there)
pub record AreCorners (ks : List Corner) : Type 0 where
  pub few : length ks ≤ 2 * most_points
  pub corners : All IsCorner ks
  pub closed : (y : ℤ) → added_by_all ks greatest_coordinate y ≡ pos 0

-- a corner is at a point in range, and has any weight
pub record IsCornerInRange (k : Corner) : Type 0 where
  pub column : IsCoordinate k.x
  pub height : IsCoordinate k.y

-- corners at points in range, which add a lawful weight to each pixel, and nothing to those to the right of the field
pub record AreSweptCorners (ks : List Corner) : Type 0 where
  pub in_range : All IsCornerInRange ks
  pub lawful : (x y : ℤ) → IsLawfulWeight (added_by_all ks x y)
  pub closed : (y : ℤ) → added_by_all ks greatest_coordinate y ≡ pos 0

-- strips have the weight f x y at each pixel (x, y) of the field
pub record HaveFieldStripWeights (f : ℤ → ℤ → ℤ) (ss : List EdgeStrip) : Type 0 where
  pub weights : (x y : ℤ) → IsInField x y → weight_in_strips ss x y ≡ f x y

-- ---- corners from the top down, and from left to right at each height

-- a corner is at (x, y), to the right of it at its height, or anywhere below its height
pub record IsPast (x y : ℤ) (k : Corner) : Type 0 where
  pub height : k.y ≤ℤ y
  pub column : k.y ≡ y → x ≤ℤ k.x

-- sorted corners, the first of them past (x, y)
abbrev pub AreSortedFrom : ℤ → ℤ → List Corner → Type 0
AreSortedFrom x y [] = Unit {0}
AreSortedFrom x y (k ∷ ks) = IsCornerInRange k × IsPast x y k × AreSortedFrom k.x k.y ks

-- the first corner is at this height
abbrev pub BeginAtHeight : ℤ → List Corner → Type 0
BeginAtHeight y [] = ⊥
BeginAtHeight y (k ∷ ks) = k.y ≡ y

-- the first corner, if there is one, has no row of the field below it
abbrev pub BeginBelowField : List Corner → Type 0
BeginBelowField [] = Unit {0}
BeginBelowField (k ∷ ks) = k.y ≤ℤ least_coordinate

-- the edges `new` to the left of the column of corner k, and an edge e there, whose weight may be 0, have the weights of the
-- edges es and the edge d, greater by the weight of k from its column on
pub record IsJoined (es : List Edge) (d : Edge) (k : Corner) (new : List Edge) (e : Edge) : Type 0 where
  pub edges : AreEdgesBefore e.x new
  pub column : e.x ≡ k.x
  pub weights : (x : ℤ) → weight_in (e ∷ new) x ≡ weight_in (d ∷ es) x +ℤ (if int_le k.x x then k.weight else pos 0)

-- the corners at one height are split off: they change the rows below it by these edges
pub record IsSplitHeight (top : ℤ) (ks : List Corner) (changes : List Edge) (others : List Corner) : Type 0 where
  pub edges : AreEdgesFrom least_coordinate changes
  pub weights : (x y : ℤ) → y <ℤ top → added_by_all ks x y ≡ weight_in changes x +ℤ added_by_all others x y
  pub sorted : AreSortedFrom least_coordinate (top -ℤ pos 1) others
  pub fewer : length others < length ks

-- a number that may be a reach
pub record IsReach (reach : ℤ) : Type 0 where
  pub least : pos 0 ≤ℤ reach
  pub most : reach ≤ℤ greatest_weight

-- strips go on with such rows below height `top`: with a strip more, or with the last one where its rows are such
abbrev pub ContinueWith : ℤ → List Edge → List EdgeStrip → List EdgeStrip → Type 0
ContinueWith top es before after = (after ≡ before ++ record { top = top; edges = es } ∷ []) ⊎ ((es ≡ last_row before) × (after ≡ before))
