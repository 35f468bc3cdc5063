-- The area of a rectilinear cycle is the sum of its winding numbers over the field.
use Rattle.std.proofs.Common.{◌≡◌, ℕ, zero, suc, ◌-◌, ℤ, pos, ◌+ℤ◌, ◌-ℤ◌, ◌*ℤ◌, ◌≤ℤ◌, nat_abs, int_div, List, length, sym, ◌∙◌, ap, inl, inr, arith}
use Rattle.std.proofs.lemmas.Int.{ints}
use Rattle.std.proofs.lemmas.Bool.{cases_lt}
use Rattle.mf_geom.specs.Coordinates.{least_coordinate, greatest_coordinate, field_size, greatest_length}
use Rattle.mf_geom.specs.declared.check.Check.{Check}
use Rattle.mf_geom.specs.declared.point.Point.{Point}
use Rattle.mf_geom.specs.Area.{shoelace_at, area}
use Rattle.mf_geom.specs.Crossing.{unit_step, crossing, crossing_at}
use Rattle.mf_geom.specs.Field.{sum_over_field}
use Rattle.mf_geom.specs.Lawful.{IsRectilinearCycle}
use Rattle.mf_geom.specs.Path.{Segment, point_at, next_place, segment_at, across, up, IsInRange, IsRectilinear}
use Rattle.mf_geom.specs.Sum.{sum_below}
use Rattle.mf_geom.specs.Winding.{winding, filling_weight, contour}
use Rattle.mf_geom.proofs.Crossings.{unit_step-reached, unit_step-beyond, winding-crossings}
use Rattle.mf_geom.proofs.Products.{mul-sub, mul-self, sub-mul, int_div-mul}
use Rattle.mf_geom.proofs.Sums.{next_place-below, sum_below-same, sum_below-sub, sum_below-mul_and_differences}
use Rattle.mf_geom.proofs.Sums.{sum_over_field-mul, sum_over_field-product, sum_over_field-sum}

-- of the n numbers from a on, n - k are at least a + k
sum_below-unit_step_after : (n k : ℕ) (a : ℤ) → sum_below n (λ i. unit_step (a +ℤ pos i) (a +ℤ pos k)) ≡ pos (n - k)
unfolding sum_below
sum_below-unit_step_after zero k a = omega (arith, ints)
sum_below-unit_step_after (suc n) k a = grind (arith, ints, unit_step-beyond, unit_step-reached, cases_lt, sum_below-unit_step_after n k a)

-- of the n numbers from a on, those from p on are at least p
sum_below-unit_step : (n : ℕ) (a p : ℤ) → a ≤ℤ p → p ≤ℤ (a +ℤ pos n) → sum_below n (λ i. unit_step (a +ℤ pos i) p) ≡ (a +ℤ pos n) -ℤ p
sum_below-unit_step n a p from to =
    let k = nat_abs (p -ℤ a) in
    let further : p ≡ a +ℤ pos k = omega (arith, ints) in
    (λ t. sum_below n (λ i. unit_step (a +ℤ pos i) (further t))) ∙ sum_below-unit_step_after n k a ∙ omega (arith, ints)

pub sum_below-unit_step_in_field : (p : ℤ) → least_coordinate ≤ℤ p → p ≤ℤ greatest_coordinate
    → sum_below field_size (λ i. unit_step (least_coordinate +ℤ pos i) p) ≡ greatest_coordinate -ℤ p
sum_below-unit_step_in_field p = sum_below-unit_step field_size least_coordinate p

-- what a segment adds to the sum of the winding numbers: the area between it and the right side of the field, positive
-- where the segment leads down
abbrev area_beside : Segment → ℤ
area_beside e = (greatest_coordinate -ℤ e.from.x) *ℤ (e.from.y -ℤ e.to.y)

sum_over_field-crossing : (e : Segment) → IsInRange e.from → IsInRange e.to → sum_over_field (λ x y. crossing x y e) ≡ area_beside e
unfolding crossing
sum_over_field-crossing e from to =
    let columns = sum_below-unit_step_in_field e.from.x from.x.least from.x.greatest in
    let rows_from = sum_below-unit_step_in_field e.from.y from.y.least from.y.greatest in
    let rows_to = sum_below-unit_step_in_field e.to.y to.y.least to.y.greatest in
    let unit_step_at : ℤ → ℕ → ℤ = λ p j. unit_step (least_coordinate +ℤ pos j) p in
    let rows = sum_below-sub field_size (unit_step_at e.to.y) (unit_step_at e.from.y) in
    let height : sum_below field_size (unit_step_at e.to.y) -ℤ sum_below field_size (unit_step_at e.from.y) ≡ e.from.y -ℤ e.to.y = omega (arith, ints) in
    sum_over_field-product (λ x. unit_step x e.from.x) (λ y. unit_step y e.to.y -ℤ unit_step y e.from.y)
    ∙ (λ t. columns t *ℤ (rows ∙ height) t)

-- what remains of a segment's part of the shoelace sum, as a value at each of its ends
abbrev remainder : Point → ℤ
remainder p = greatest_length *ℤ p.y -ℤ p.x *ℤ p.y

-- a segment's part of the shoelace sum is twice its area_beside plus a difference between its ends
shoelace-area_beside : (e : Segment) → IsRectilinear e
    → e.from.x *ℤ e.to.y -ℤ e.to.x *ℤ e.from.y ≡ pos 2 *ℤ area_beside e +ℤ (remainder e.to -ℤ remainder e.from)
unfolding IsRectilinear across up
shoelace-area_beside e (inl level) =
    let same_height : e.to.y ≡ e.from.y = let rise = level.1 in omega (arith, ints) in
    rw same_height (let flat = mul-self (greatest_coordinate -ℤ e.from.x) e.from.y in omega (arith, ints))
shoelace-area_beside e (inr upright) =
    let same_column : e.to.x ≡ e.from.x = let run = upright.0 in omega (arith, ints) in
    let x = e.from.x in
    let parts = mul-sub (greatest_coordinate -ℤ x) e.from.y e.to.y in
    rw same_column (omega (arith, ints, parts, sub-mul greatest_coordinate x e.from.y, sub-mul greatest_coordinate x e.to.y))

-- round a cycle, the differences add up to 0
shoelace-strips : (ps : List Point) → IsRectilinearCycle ps
    → sum_below (length ps) (shoelace_at ps) ≡ pos 2 *ℤ sum_below (length ps) (λ i. area_beside (segment_at ps i))
unfolding shoelace_at segment_at
shoelace-strips ps cycle =
    sum_below-mul_and_differences ps (pos 2) (shoelace_at ps) (λ i. area_beside (segment_at ps i)) (λ i. remainder (point_at ps i))
    (λ i below. shoelace-area_beside (segment_at ps i) (cycle.rectilinear i below))

area-strips : (ps : List Point) → IsRectilinearCycle ps → area ps ≡ sum_below (length ps) (λ i. area_beside (segment_at ps i))
unfolding area
area-strips ps cycle =
    ap (λ s. int_div s (pos 2)) (shoelace-strips ps cycle) ∙ int_div-mul 2 (sum_below (length ps) (λ i. area_beside (segment_at ps i))) (omega arith)

pub shoelace_is_area : (ps : List Point) → IsRectilinearCycle ps → sum_below (length ps) (shoelace_at ps) ≡ pos 2 *ℤ area ps
shoelace_is_area ps cycle = shoelace-strips ps cycle ∙ ap (λ n. pos 2 *ℤ n) (sym (area-strips ps cycle))

pub sum_over_field-winding : (ps : List Point) → IsRectilinearCycle ps → sum_over_field (winding ps) ≡ area ps
unfolding crossing_at segment_at
sum_over_field-winding ps cycle =
    let in_range = cycle.range.in_range in
    (λ t. sum_over_field (λ x y. winding-crossings ps x y cycle t))
    ∙ sum_over_field-sum (length ps) (λ x y. crossing_at ps x y)
    ∙ sum_below-same (length ps) (λ i. sum_over_field (λ x y. crossing_at ps x y i)) (λ i. area_beside (segment_at ps i))
    (λ i below. sum_over_field-crossing (segment_at ps i) (in_range i below) (in_range (next_place ps i) (next_place-below ps i below)))
    ∙ sym (area-strips ps cycle)

-- the weight is a factor of the sum, and the other factor is the sum of the winding numbers, the area
pub sum_over_field-contour : (ps : List Point) (w : ℤ) (check : Check) → IsRectilinearCycle ps
    → sum_over_field (contour ps w check) ≡ filling_weight check ps w *ℤ area ps
unfolding contour
sum_over_field-contour ps w check cycle =
    let weight = filling_weight check ps w in
    sum_over_field-mul weight (winding ps) ∙ ap (λ s. weight *ℤ s) (sum_over_field-winding ps cycle)
