-- Which lists of points are cycles, which cycles pass the turning check, and why any other list is refused.
use Rattle.std.specs.Prelude.{◌≡◌, ◌≢◌, ℕ, ◌<◌, ◌≤◌, pos, List, length}
use Rattle.mf_geom.specs.declared.point.Point.{Point}
use Rattle.mf_geom.specs.declared.cycle.CycleFault.{CycleFault}
use Rattle.mf_geom.specs.declared.cycle.CycleFault.TheVariants.{TooFewPoints, TooManyPoints, PointOutOfRange, NotRectilinear, Backtracks, TurningZero}
use Rattle.mf_geom.specs.Path.{point_at, segment_at, segment_into, IsInRange, IsRectilinear, IsReversal}
use Rattle.mf_geom.specs.Turning.{turning}

-- the fewest points of a cycle
abbrev pub fewest_points : ℕ
fewest_points = 2

-- the most points of a cycle
abbrev pub most_points : ℕ
most_points = 4096

-- the list has neither too few nor too many points
pub record HasLawfulLength (ps : List Point) : Type 0 where
  pub least : fewest_points ≤ length ps
  pub greatest : length ps ≤ most_points

-- the list has a lawful length, and each of its points is in range
pub record StaysInRange (ps : List Point) : Type 0 where
  pub sized : HasLawfulLength ps
  pub in_range : (i : ℕ) → i < length ps → IsInRange (point_at ps i)

-- the list is a cycle: its points are in range, and each segment is rectilinear
pub record IsRectilinearCycle (ps : List Point) : Type 0 where
  pub range : StaysInRange ps
  pub rectilinear : (i : ℕ) → i < length ps → IsRectilinear (segment_at ps i)

-- the list is a cycle that turns straight back at no vertex
pub record NeverReverses (ps : List Point) : Type 0 where
  pub rectilinear : IsRectilinearCycle ps
  pub onward : (i : ℕ) → i < length ps → IsReversal (segment_into ps i) (segment_at ps i) → ⊥

-- the list is a cycle that passes the turning check: it never turns straight back, and its turning number is not 0
pub record PassesCheck (ps : List Point) : Type 0 where
  pub onward : NeverReverses ps
  pub turns : turning ps ≢ pos 0

-- i is the first place below n for which P holds
pub record IsFirst (n : ℕ) (P : ℕ → Type 0) (i : ℕ) : Type 0 where
  pub below : i < n
  pub here : P i
  pub none_before : (k : ℕ) → k < i → P k → ⊥

-- the list is refused with this fault: the first that applies, in the order of the cases, at the first place where it
-- does; the last two are from the turning check, and a cycle may have them
unfoldable pub IsFault : List Point → CycleFault → Type 0
IsFault ps TooFewPoints = length ps < fewest_points
IsFault ps TooManyPoints = most_points < length ps
IsFault ps (PointOutOfRange i) = HasLawfulLength ps × IsFirst (length ps) (λ k. ¬ IsInRange (point_at ps k)) i
IsFault ps (NotRectilinear i) = StaysInRange ps × IsFirst (length ps) (λ k. ¬ IsRectilinear (segment_at ps k)) i
IsFault ps (Backtracks i) = IsRectilinearCycle ps × IsFirst (length ps) (λ k. IsReversal (segment_into ps k) (segment_at ps k)) i
IsFault ps TurningZero = NeverReverses ps × (turning ps ≡ pos 0)
