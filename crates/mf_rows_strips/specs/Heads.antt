-- Heads: the edges of all strips stand in one list, and a head says which of them are a strip's.
use Rattle.std.specs.Prelude.{◌+◌, ◌≤◌, All, List, take, drop, map, length}
use Rattle.std.proofs.Props.{props}
use Rattle.mf_rows_edges.specs.declared.edge.Edge.{Edge}
use Rattle.mf_rows_strips.specs.declared.strips.Head.{Head}
use Rattle.mf_rows_strips.specs.Strips.{EdgeStrip}

-- the strip of a head
abbrev pub strip_at : List Edge → Head → EdgeStrip
strip_at es h = record { top = h.top; edges = take h.count (drop h.start es) }

-- the strips of heads
abbrev pub strips_at : List Edge → List Head → List EdgeStrip
strips_at es hs = map (strip_at es) hs

-- the edges of a head are there
pub record IsHead (es : List Edge) (h : Head) : Type 0 where
  pub there : h.start + h.count ≤ length es

-- all of these are heads
abbrev pub AreHeads : List Edge → List Head → Type 0
AreHeads es hs = All (IsHead es) hs

-- this fact has at most one proof
pub AreHeads-prop : (es : List Edge) (hs : List Head) → IsProp (AreHeads es hs)
AreHeads-prop es hs = hlevel props
