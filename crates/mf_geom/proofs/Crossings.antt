-- The winding number as a count: how often, and in which direction, a cycle crosses the ray that leads
-- left from the centre of the pixel.
use Rattle.std.proofs.Common.{◌≡◌, ℕ, ◌<◌, Bool, ℤ, pos, ◌+ℤ◌, ◌-ℤ◌, ◌*ℤ◌, int_lt, int_div, ◌<ℤ◌, ◌≤ℤ◌, if◌then◌else◌, List, length, ◌∙◌, ap, inl, inr, arith}
use Rattle.std.proofs.lemmas.Int.{ints}
use Rattle.mf_geom.specs.declared.point.Point.{Point}
use Rattle.mf_geom.specs.Path.{Segment, point_at, next_place, segment_at, across, up, IsRectilinear}
use Rattle.mf_geom.specs.Crossing.{unit_step, crossing, crossing_at}
use Rattle.mf_geom.specs.Lawful.{IsRectilinearCycle}
use Rattle.mf_geom.specs.Sum.{sum_below}
use Rattle.mf_geom.specs.Winding.{Quadrant, right_up, left_up, left_down, right_down, quadrant, quarter, quarter_along, quarter_at, winding}
use Rattle.mf_geom.proofs.Products.{mul-self, int_div-mul}
use Rattle.mf_geom.proofs.Sums.{next_place-below, sum_below-same, sum_below-zero, sum_below-mul, sum_below-differences, sum_below-mul_and_differences}

-- the quarter turns from the ray to a quadrant, counterclockwise
abbrev quarters_to : Quadrant → ℤ
quarters_to left_down = pos 0
quarters_to right_down = pos 1
quarters_to right_up = pos 2
quarters_to left_up = pos 3

-- the quadrant to the right of the centre or not, and above it or not
abbrev corner : Bool → Bool → Quadrant
corner right above = if right then (if above then right_up else right_down) else (if above then left_up else left_down)

-- the unit step from its test: 0 where that answers true, and else 1
abbrev step_of_test : Bool → ℤ
step_of_test beyond = if beyond then pos 0 else pos 1

quarter-level : (right right' above : Bool) → quarter (corner right above) (corner right' above)
    ≡ pos 4 *ℤ (step_of_test right *ℤ (step_of_test above -ℤ step_of_test above)) +ℤ (quarters_to (corner right' above) -ℤ quarters_to (corner right above))
quarter-level right right' above = grind (arith, ints)

-- a segment that is parallel to an axis leads to the same quadrant or to a neighbouring one, so its quarter turns are the
-- difference of the two quadrants, except for the jump at the ray
quarter_along-crossing : (x y : ℤ) (e : Segment) → IsRectilinear e
    → quarter_along x y e ≡ pos 4 *ℤ crossing x y e +ℤ (quarters_to (quadrant x y e.to) -ℤ quarters_to (quadrant x y e.from))
unfolding quarter_along crossing unit_step quadrant IsRectilinear across up
quarter_along-crossing x y e (inl level) =
    let same_height : e.to.y ≡ e.from.y = let rise = level.1 in omega (arith, ints) in
    rw same_height (quarter-level (int_lt x e.from.x) (int_lt x e.to.x) (int_lt y e.from.y))
quarter_along-crossing x y e (inr upright) = grind (arith, ints)

-- round a cycle, the differences of the quadrants add up to 0
pub quarters-crossings : (ps : List Point) (x y : ℤ) → IsRectilinearCycle ps
    → sum_below (length ps) (quarter_at ps x y) ≡ pos 4 *ℤ sum_below (length ps) (crossing_at ps x y)
unfolding quarter_at crossing_at segment_at
quarters-crossings ps x y cycle =
    sum_below-mul_and_differences ps (pos 4) (quarter_at ps x y) (crossing_at ps x y) (λ i. quarters_to (quadrant x y (point_at ps i)))
    (λ i below. quarter_along-crossing x y (segment_at ps i) (cycle.rectilinear i below))

-- the winding number counts the crossings
pub winding-crossings : (ps : List Point) (x y : ℤ) → IsRectilinearCycle ps → winding ps x y ≡ sum_below (length ps) (crossing_at ps x y)
unfolding winding
winding-crossings ps x y cycle =
    ap (λ s. int_div s (pos 4)) (quarters-crossings ps x y cycle) ∙ int_div-mul 4 (sum_below (length ps) (crossing_at ps x y)) (omega arith)

pub unit_step-reached : (x a : ℤ) → a ≤ℤ x → unit_step x a ≡ pos 1
unfolding unit_step
unit_step-reached x a at_most = grind (arith, ints)

pub unit_step-beyond : (x a : ℤ) → x <ℤ a → unit_step x a ≡ pos 0
unfolding unit_step
unit_step-beyond x a beyond = grind (arith, ints)

-- a cycle that lies on one side of the pixel's column crosses the ray upwards as often as downwards
pub crossings-beside : (ps : List Point) (x y side : ℤ) → ((i : ℕ) → i < length ps → unit_step x (point_at ps i).x ≡ side)
    → sum_below (length ps) (crossing_at ps x y) ≡ pos 0
unfolding crossing_at crossing segment_at
crossings-beside ps x y side same_side =
    let place : ℕ → ℤ = λ i. unit_step y (point_at ps i).y in
    let steps : ℕ → ℤ = λ i. place (next_place ps i) -ℤ place i in
    sum_below-same (length ps) (crossing_at ps x y) (λ i. side *ℤ steps i) (λ i below. ap (λ s. s *ℤ steps i) (same_side i below))
    ∙ sum_below-mul (length ps) side steps
    ∙ ap (λ s. side *ℤ s) (sum_below-differences ps place)
    ∙ omega (arith, ints)

-- a cycle that lies on one side of the pixel's row never crosses the ray
pub crossings-over : (ps : List Point) (x y side : ℤ) → ((i : ℕ) → i < length ps → unit_step y (point_at ps i).y ≡ side)
    → sum_below (length ps) (crossing_at ps x y) ≡ pos 0
unfolding crossing_at crossing segment_at
crossings-over ps x y side same_side =
    sum_below-same (length ps) (crossing_at ps x y) (λ i. pos 0) (λ i below.
    let from = same_side i below in
    let to = same_side (next_place ps i) (next_place-below ps i below) in
    (λ t. unit_step x (point_at ps i).x *ℤ (to t -ℤ from t)) ∙ mul-self (unit_step x (point_at ps i).x) side)
    ∙ sum_below-zero (length ps)
