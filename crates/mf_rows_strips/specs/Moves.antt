-- Strips whose columns and rows move, in terms of their weights: f x y is the weight of the pixel (x, y).
use Rattle.std.specs.Prelude.{◌≢◌, ℕ, ◌-◌, ℤ, pos, List, Option, Some, None, if◌then◌else◌}
use Rattle.std.specs.Int.{int_wrapping_add, int_wrapping_mul, int_wrapping_neg}
use Rattle.std.specs.Int.Width.{w32}
use Rattle.mf_geom.specs.Coordinates.{is_coordinate}
use Rattle.mf_rows_edges.specs.declared.edge.Edge.{Edge}
use Rattle.mf_rows_edges.specs.declared.stretch.Stretch.{Stretch}
use Rattle.mf_rows_edges.specs.Axes.{target_of, StaysInside}
use Rattle.mf_rows_strips.specs.declared.strips.Head.{Head}
use Rattle.mf_rows_strips.specs.Strips.{EdgeStrip, weight_in_strips}

-- the weights f after the columns move: column x comes from column `source x`
abbrev pub moved_columns : (ℤ → ℤ) → (ℤ → ℤ → ℤ) → ℤ → ℤ → ℤ
moved_columns source f x y = f (source x) y

-- the weights f after the rows move: row y comes from row `source y`
abbrev pub moved_rows : (ℤ → ℤ) → (ℤ → ℤ → ℤ) → ℤ → ℤ → ℤ
moved_rows source f x y = f x (source y)

-- the stretches of columns and of rows take all pixels of nonzero weight to pixels of the field
pub record StripsStayInside (columns rows : Stretch) (ss : List EdgeStrip) : Type 0 where
  pub across : (x y : ℤ) → weight_in_strips ss x y ≢ pos 0 → StaysInside columns x
  pub up : (x y : ℤ) → weight_in_strips ss x y ≢ pos 0 → StaysInside rows y

-- an edge of a reflected row: its column and its weight are negated, and each stays as it is where 32 bits do not hold the negated number
abbrev pub reflected_edge : Edge → Edge
reflected_edge e = record { x = int_wrapping_neg w32 e.x; weight = int_wrapping_neg w32 e.weight }

-- the head of a strip after the list of all edges, of length n, is reversed
abbrev pub reversed_head : ℕ → Head → Head
reversed_head n h = record { top = h.top; count = h.count; start = n - h.start - h.count }

-- an edge whose column is stretched, which stands at some column where 32 bits do not hold that
abbrev pub stretched_edge : Stretch → Edge → Edge
stretched_edge s e = record { x = int_wrapping_add w32 (int_wrapping_mul w32 e.x s.factor) s.offset; weight = e.weight }

-- the head of a strip whose rows are stretched, if it then begins in the field
abbrev pub stretched_head : Stretch → Head → Option Head
stretched_head s h =
    if is_coordinate (target_of s h.top) then Some (record { top = target_of s h.top; count = h.count; start = h.start }) else None
