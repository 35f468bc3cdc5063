-- Why a list of points is not a cycle, and why a cycle fails the turning check: `IsFault`, as functions that compute.
use Rattle.std.specs.Prelude.{ℕ, zero, suc, Bool, not, ◌&&◌, pos, ◌+ℤ◌, ◌*ℤ◌, List, length, Option, None, Some, option_map, int_lt, nat_lt, if◌then◌else◌}
use Rattle.std.specs.Option.{option_or}
use Rattle.std.specs.Ordering.{int_eq}
use Rattle.mf_geom.specs.Lawful.{fewest_points, most_points}
use Rattle.mf_geom.specs.Coordinates.{is_coordinate}
use Rattle.mf_geom.specs.declared.point.Point.{Point}
use Rattle.mf_geom.specs.declared.cycle.CycleFault.{CycleFault}
use Rattle.mf_geom.specs.declared.cycle.CycleFault.TheVariants.{TooFewPoints, TooManyPoints, PointOutOfRange, NotRectilinear, Backtracks, TurningZero}
use Rattle.mf_geom.specs.Path.{Segment, point_at, segment_at, segment_into, across, up}
use Rattle.mf_geom.specs.Turning.{turning}

-- the first place below n that passes the test
unfoldable pub first_place : ℕ → (ℕ → Bool) → Option ℕ
first_place zero test = None
first_place (suc n) test = option_or (first_place n test) (if test n then Some n else None)

-- The next three tests say of a point and of segments what `IsInRange`, `IsRectilinear` and `IsReversal` say as facts: a fault is
-- computed from values, and proofs about cycles cite the parts of the facts. The law `one_fault` compares the two.

-- whether a point is out of range
unfoldable pub is_out_of_range : Point → Bool
is_out_of_range p = not (is_coordinate p.x && is_coordinate p.y)

-- whether the ends of a segment differ in both coordinates or in none
unfoldable pub is_not_rectilinear : Segment → Bool
is_not_rectilinear e = if int_eq (across e) (pos 0) then int_eq (up e) (pos 0) else not (int_eq (up e) (pos 0))

-- whether the path turns straight back from the first segment to the second: for segments parallel to an axis that is where
-- their scalar product is negative
unfoldable pub is_reversal : Segment → Segment → Bool
is_reversal a b = int_lt ((across a *ℤ across b) +ℤ (up a *ℤ up b)) (pos 0)

-- the first point that is out of range
abbrev pub first_out_of_range : List Point → Option ℕ
first_out_of_range ps = first_place (length ps) (λ i. is_out_of_range (point_at ps i))

-- the first segment that is not rectilinear
abbrev pub first_not_rectilinear : List Point → Option ℕ
first_not_rectilinear ps = first_place (length ps) (λ i. is_not_rectilinear (segment_at ps i))

-- the first vertex at which the path turns straight back
abbrev pub first_reversal : List Point → Option ℕ
first_reversal ps = first_place (length ps) (λ i. is_reversal (segment_into ps i) (segment_at ps i))

-- why a list of points is not a cycle, if it is not: all points are checked for one fault before any is checked for the next
unfoldable pub form_fault : List Point → Option CycleFault
form_fault ps =
    if nat_lt (length ps) fewest_points then Some TooFewPoints
    else (if nat_lt most_points (length ps) then Some TooManyPoints
    else option_or (option_map PointOutOfRange (first_out_of_range ps)) (option_map NotRectilinear (first_not_rectilinear ps)))

-- the fault that the turning number alone gives, if any
abbrev pub fault_from_turning : List Point → Option CycleFault
fault_from_turning ps = if int_eq (turning ps) (pos 0) then Some TurningZero else None

-- why a cycle fails the turning check, if it does: its vertices are checked before its turning number
abbrev pub turning_fault : List Point → Option CycleFault
turning_fault ps = option_or (option_map Backtracks (first_reversal ps)) (fault_from_turning ps)
