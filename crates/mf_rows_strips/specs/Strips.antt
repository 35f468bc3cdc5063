-- Strips: equal rows of edges. A strip has the rows below its height, down to the height of the next one.
use Rattle.std.specs.Prelude.{◌≡◌, ℤ, pos, ◌+ℤ◌, ◌-ℤ◌, ◌≤ℤ◌, ◌<ℤ◌, int_lt, All, List, [], ◌∷◌, if◌then◌else◌}
use Rattle.std.specs.Coded.{Unit-prop}
use Rattle.std.proofs.Props.{props}
use Rattle.mf_geom.specs.Coordinates.{least_coordinate, greatest_coordinate}
use Rattle.mf_geom.specs.Field.{IsInField}
use Rattle.mf_rows_edges.specs.declared.edge.Edge.{Edge}
use Rattle.mf_rows_edges.specs.Edges.{AreEdges, AreEdgesFrom, weight_in}
use Rattle.mf_rows_edges.specs.LawfulWeights.{IsLawfulWeight, greatest_weight}
use Rattle.mf_rows_edges.specs.Reaches.{StaysInReach, StaysInReach-prop}

-- the height below which a strip begins, and the edges of each of its rows
pub record EdgeStrip : Type 0 where
  pub top : ℤ
  pub edges : List Edge

-- the edges of row y: those of the last strip that begins above it, and of the row above all of them where none does
unfoldable pub row_in : List Edge → List EdgeStrip → ℤ → List Edge
row_in above [] y = above
row_in above (s ∷ ss) y = if int_lt y s.top then row_in s.edges ss y else above

-- the edges of the last of these strips, none where there is no strip
abbrev pub last_row : List EdgeStrip → List Edge
last_row [] = []
last_row (s ∷ []) = s.edges
last_row (s ∷ t ∷ ss) = last_row (t ∷ ss)

-- the weight of the pixel (x, y) in strips
unfoldable pub weight_in_strips : List EdgeStrip → ℤ → ℤ → ℤ
weight_in_strips ss x y = weight_in (row_in [] ss y) x

-- a strip does not begin below the field, its row is lawful, and no weight of it exceeds the reach in absolute value
pub record IsStrip (reach : ℤ) (s : EdgeStrip) : Type 0 where
  pub bottom : least_coordinate ≤ℤ s.top
  pub edges : AreEdges s.edges
  pub reached : StaysInReach reach s.edges

-- lawful strips from the top down, the first of them at height `top` or below
abbrev pub AreStripsFrom : ℤ → ℤ → List EdgeStrip → Type 0
AreStripsFrom top reach [] = Unit {0}
AreStripsFrom top reach (s ∷ ss) = IsStrip reach s × (s.top ≤ℤ top) × AreStripsFrom (s.top -ℤ pos 1) reach ss

-- the strips of the field, with a lawful reach: the rows below it are blank, so the last strip is
pub record AreStrips (reach : ℤ) (ss : List EdgeStrip) : Type 0 where
  pub strips : AreStripsFrom greatest_coordinate reach ss
  pub closed : row_in [] ss (least_coordinate -ℤ pos 1) ≡ []
  pub least : pos 0 ≤ℤ reach
  pub most : reach ≤ℤ greatest_weight

-- each strip begins above height `low`
abbrev pub AreAbove : ℤ → List EdgeStrip → Type 0
AreAbove low ss = All (λ s. low <ℤ s.top) ss

-- strips that are being written, the next of which begins at height `low` or below
pub record AreStripsDownTo (low reach : ℤ) (ss : List EdgeStrip) : Type 0 where
  pub strips : AreStripsFrom greatest_coordinate reach ss
  pub above : AreAbove low ss

-- strips have the weight f x y at each pixel (x, y)
pub record HaveStripWeights (f : ℤ → ℤ → ℤ) (ss : List EdgeStrip) : Type 0 where
  pub weights : (x y : ℤ) → weight_in_strips ss x y ≡ f x y

-- at some pixel of the field, f gives a weight that is not lawful
pub record IsUnlawfulSomewhere (f : ℤ → ℤ → ℤ) : Type 0 where
  pub x : ℤ
  pub y : ℤ
  pub in_field : IsInField x y
  pub unlawful : IsLawfulWeight (f x y) → ⊥

-- ---- these facts have at most one proof

pub AreEdgesFrom-prop : (low : ℤ) (es : List Edge) → IsProp (AreEdgesFrom low es)
AreEdgesFrom-prop low [] = Unit-prop
AreEdgesFrom-prop low (e ∷ es) = hlevel (props, AreEdgesFrom-prop (e.x +ℤ pos 1) es)

AreStripsFrom-prop : (top reach : ℤ) (ss : List EdgeStrip) → IsProp (AreStripsFrom top reach ss)
AreStripsFrom-prop top reach [] = Unit-prop
AreStripsFrom-prop top reach (s ∷ ss) = hlevel (props, AreEdgesFrom-prop, StaysInReach-prop, AreStripsFrom-prop (s.top -ℤ pos 1) reach ss)

pub AreStrips-prop : (reach : ℤ) (ss : List EdgeStrip) → IsProp (AreStrips reach ss)
AreStrips-prop reach ss = hlevel (props, AreStripsFrom-prop)
