-- The strips that code lends and keeps, as their heights and edges.
use Rattle.std.specs.Prelude.{◌≡◌, ◌⊎◌, ◌+◌, ◌<◌, ℤ, pos, ◌+ℤ◌, ◌-ℤ◌, List, Option, Some, None, [], ◌∷◌, length}
use Rattle.std.specs.Arc.{arc_value}
use Rattle.std.specs.declared.alloc.Global.{Global}
use Rattle.std.specs.declared.sync.Arc.{Arc}
use Rattle.mf_rows_strips.specs.declared.part.Part.{Part}
use Rattle.mf_rows_strips.specs.declared.side.Side.{Side}
use Rattle.mf_rows_strips.specs.declared.strips.Strip.{Strip}
use Rattle.mf_rows_strips.specs.declared.strips.Strips.{Strips}
use Rattle.mf_rows_strips.specs.Heads.{strips_at}
use Rattle.mf_rows_strips.specs.Strips.{EdgeStrip, weight_in_strips}
use Rattle.mf_rows_strips.specs.Sums.{IsFrom}

-- a strip as its height and edges
abbrev pub edge_strip : Strip → EdgeStrip
edge_strip s = record { top = s.top; edges = s.edges.now }

-- the strips of a slice
abbrev pub strips_of : Strips → List EdgeStrip
strips_of s = strips_at s.edges.now s.heads.now

-- the strips of a part
abbrev pub strips_in : Part → List EdgeStrip
strips_in p = strips_at p.edges.items p.heads.items

-- the weight of the pixel (x, y) in a part
abbrev pub weight_in_part : Part → ℤ → ℤ → ℤ
weight_in_part p = weight_in_strips (strips_in p)

-- the height of the first strip, where there is one
abbrev pub first_top : List EdgeStrip → Option ℤ
first_top [] = None
first_top (s ∷ ss) = Some s.top

-- the strip that begins at height `top` was passed, or none was, as all begin below it
abbrev pub HasPassed : ℤ → Side → Side → Type 0
HasPassed top old new =
    (strips_of old.strips ≡ record { top = top; edges = new.row.now } ∷ strips_of new.strips) ⊎ ((new ≡ old) × IsFrom (strips_of old.strips) (top -ℤ pos 1))

-- the strips of two sides that begin at height `top` were passed, at least one
pub record HavePassed (top : ℤ) (s s' t t' : Side) : Type 0 where
  pub left : HasPassed top s s'
  pub right : HasPassed top t t'
  pub fewer : length (strips_of s'.strips) + length (strips_of t'.strips) < length (strips_of s.strips) + length (strips_of t.strips)

-- the weight of the pixel (x, y) in a pile of parts: the sum of its weights in all of them
unfoldable pub weight_in_parts : List (Arc Part Global) → ℤ → ℤ → ℤ
weight_in_parts [] x y = pos 0
weight_in_parts (p ∷ ps) x y = weight_in_part (arc_value p) x y +ℤ weight_in_parts ps x y
