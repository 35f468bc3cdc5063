-- Shifts, scales, turns (The METAFONTbook, chapters 13 and 15) and reflections in the line between columns, or rows, -1 and 0.
-- They move the unit squares of the pixels with the plane: the new weight of a pixel is the old weight of the pixel whose moved
-- square contains it (the law `squares_move_with_the_plane`).
use Rattle.std.specs.Prelude.{◌≢◌, ◌&&◌, Bool, ℤ, pos, nat_abs, ◌+ℤ◌, int_lt, if◌then◌else◌}
use Rattle.mf_geom.specs.Coordinates.{IsCoordinate, is_coordinate}
use Rattle.mf_rows_edges.specs.Axes.{opposite, source_of, target_of}
use Rattle.mf_rows_edges.specs.declared.stretch.Stretch.{Stretch}
use Rattle.mf_rows.specs.Moves.{moved_columns, moved_rows, turned_once}
use Rattle.mf_ops.specs.declared.quarter.TurnCount.{TurnCount}
use Rattle.mf_ops.specs.declared.quarter.TurnCount.TheVariants.{Once, Twice, Thrice}

-- the two factors of a scale: x for columns, y for rows
pub record Factors : Type 0 where
  pub x : ℤ
  pub y : ℤ

-- f may be a factor of a scale: it is in -4095..4095, as a coordinate is, and not 0
pub record IsFactor (f : ℤ) : Type 0 where
  pub range : IsCoordinate f
  pub nonzero : f ≢ pos 0

-- both factors of a scale are lawful
pub record AreFactors (s : Factors) : Type 0 where
  pub columns : IsFactor s.x
  pub rows : IsFactor s.y

-- a shift of an axis by d, and a scale of it by f (which may be negative), as stretches
abbrev pub shift_by : ℤ → Stretch
shift_by d = record { factor = pos 1; offset = d }

abbrev pub scale_by : ℤ → Stretch
scale_by f = record { factor = f; offset = pos 0 }

-- the column, or row, p, or the opposite one on the other side of 0 where it changes sides
abbrev pub on_side : Bool → ℤ → ℤ
on_side changes p = if changes then opposite p else p

-- the weights f after the columns, the rows, both or neither change sides
abbrev pub reflection : Bool → Bool → (ℤ → ℤ → ℤ) → ℤ → ℤ → ℤ
reflection columns rows f = moved_columns (on_side columns) (moved_rows (on_side rows) f)

-- the column, or row, p whose scaled part of the axis, between p * f and (p + 1) * f, contains column, or row, q: a negative
-- factor reflects, and its absolute value stretches
unfoldable pub scale_source : ℤ → ℤ → ℤ
scale_source f q = on_side (int_lt f (pos 0)) (source_of (scale_by (pos (nat_abs f))) q)

-- the weights f after one, two or three turns by 90 degrees counterclockwise
abbrev pub turn_by : TurnCount → (ℤ → ℤ → ℤ) → ℤ → ℤ → ℤ
turn_by Once f = turned_once f
turn_by Twice f = turned_once (turned_once f)
turn_by Thrice f = turned_once (turned_once (turned_once f))

-- the angle of a turn, in degrees
abbrev pub degrees : TurnCount → ℤ
degrees Once = pos 90
degrees Twice = pos 180
degrees Thrice = pos 270

-- whether a stretch takes column, or row, p to a part of the field, that is, whether both of its ends keep a coordinate: the fact
-- `StaysInside` as a value, since a refusal is computed
abbrev pub stays_inside : Stretch → ℤ → Bool
stays_inside s p = is_coordinate (target_of s p) && is_coordinate (target_of s (p +ℤ pos 1))
