-- The turns of a path, from the headings of its segments.
use Rattle.std.proofs.Common.{◌≡◌, ◌≢◌, ◌⊎◌, ℕ, zero, suc, ◌*◌, ◌<◌, Bool, ℤ, pos, negsuc, ◌+ℤ◌, ◌-ℤ◌, ◌*ℤ◌}
use Rattle.std.proofs.Common.{int_lt, int_div, ◌<ℤ◌, if◌then◌else◌, List, length, refl, sym, ◌∙◌, ap, inl, inr, arith}
use Rattle.std.specs.Int.{int_signum}
use Rattle.std.proofs.lemmas.Int.{ints}
use Rattle.std.proofs.lemmas.Bool.Decides.{nat_tests}
use native.Mathlib.Nat.{mul-pos}
use Rattle.mf_geom.specs.declared.point.Point.{Point}
use Rattle.mf_geom.specs.Lawful.{NeverReverses}
use Rattle.mf_geom.specs.Path.{Segment, next_place, previous_place, segment_at, segment_into, across, up, IsRectilinear, IsReversal}
use Rattle.mf_geom.specs.Sum.{sum_below}
use Rattle.mf_geom.specs.Turning.{turn, turn_at, turning}
use Rattle.mf_geom.proofs.Products.{int_div-mul}
use Rattle.mf_geom.proofs.Sums.{next_place-below, sum_below-next_place, sum_below-mul_and_differences}

-- 1 to the right or up, and -1 to the left or down
abbrev side : Bool → ℤ
side forward = if forward then pos 1 else negsuc 0

suc-mul-suc : (m n : ℕ) → 0 < suc m * suc n
suc-mul-suc m n = mul-pos (omega arith) (omega arith)

-- the sign of a product is the product of the signs
signum-product : (a b : ℤ) → a ≢ pos 0 → b ≢ pos 0 → int_signum (a *ℤ b) ≡ side (int_lt (pos 0) a) *ℤ side (int_lt (pos 0) b)
signum-product (pos zero) b a_apart b_apart = absurd (a_apart refl)
signum-product a (pos zero) a_apart b_apart = absurd (b_apart refl)
signum-product (pos (suc m)) (pos (suc n)) a_apart b_apart = let positive = suc-mul-suc m n in grind (arith, ints)
signum-product (pos (suc m)) (negsuc n) a_apart b_apart = let positive = suc-mul-suc m n in grind (arith, ints)
signum-product (negsuc m) (pos (suc n)) a_apart b_apart = let positive = suc-mul-suc m n in grind (arith, ints)
signum-product (negsuc m) (negsuc n) a_apart b_apart = let positive = suc-mul-suc m n in grind (arith, ints)

-- the heading of a segment that leads a to the right and b up, where it is rectilinear, in quarter turns from the right
abbrev heading : ℤ → ℤ → ℤ
heading a b = if int_lt (pos 0) a then pos 0 else (if int_lt a (pos 0) then pos 2 else (if int_lt (pos 0) b then pos 1 else pos 3))

-- the whole turns to add to a difference of headings to get the turn: 1 from down to right, -1 from right to down, else
-- 0
abbrev jump : ℤ → ℤ
jump d = if int_lt d (negsuc 1) then pos 1 else (if int_lt (pos 2) d then negsuc 0 else pos 0)

-- the turn from a heading to the same or a neighbouring one, by their difference
abbrev bend : ℤ → ℤ
bend d = pos 4 *ℤ jump d +ℤ d

-- where a product is not negative, its factors have the same sign
same_side : (a b : ℤ) → a ≢ pos 0 → b ≢ pos 0 → ((a *ℤ b) <ℤ pos 0 → ⊥) → side (int_lt (pos 0) a) *ℤ side (int_lt (pos 0) b) ≢ negsuc 0
same_side a b a_apart b_apart onward opposite = grind (arith, ints, signum-product)

-- the turn from one rectilinear segment to the next is the difference of their headings, except for the jump between right
-- and down
cross-bend : (a b c d : ℤ) → ((a ≢ pos 0) × (b ≡ pos 0)) ⊎ ((a ≡ pos 0) × (b ≢ pos 0))
    → ((c ≢ pos 0) × (d ≡ pos 0)) ⊎ ((c ≡ pos 0) × (d ≢ pos 0)) → ((a *ℤ c +ℤ b *ℤ d) <ℤ pos 0 → ⊥)
    → int_signum (a *ℤ d -ℤ b *ℤ c) ≡ bend (heading c d -ℤ heading a b)
cross-bend a b c d (inl from) (inl to) onward =
    let kept = rw (from.1, to.1) at onward in rw (from.1, to.1) (grind (arith, ints, same_side a c from.0 to.0))
cross-bend a b c d (inl from) (inr to) onward = rw (from.1, to.0) (grind (arith, ints, signum-product a d from.0 to.1))
cross-bend a b c d (inr from) (inl to) onward = rw (from.0, to.1) (grind (arith, ints, signum-product b c from.1 to.0))
cross-bend a b c d (inr from) (inr to) onward =
    let kept = rw (from.0, to.0) at onward in rw (from.0, to.0) (grind (arith, ints, same_side b d from.1 to.1))

-- the heading of a segment
abbrev heading_of : Segment → ℤ
heading_of e = heading (across e) (up e)

turn-bend : (e f : Segment) → IsRectilinear e → IsRectilinear f → (IsReversal e f → ⊥) → turn e f ≡ bend (heading_of f -ℤ heading_of e)
unfolding turn IsRectilinear
turn-bend e f from to onward =
    cross-bend (across e) (up e) (across f) (up f) from to (λ opposite. onward record { opposite = opposite })

previous_place-next_place : (ps : List Point) (i : ℕ) → i < length ps → previous_place ps (next_place ps i) ≡ i
unfolding previous_place next_place
previous_place-next_place ps i below = grind (arith, nat_tests)

-- the turn at the end of a segment
turn_at-next_place : (ps : List Point) (i : ℕ) → NeverReverses ps → i < length ps
    → turn_at ps (next_place ps i) ≡ bend (heading_of (segment_at ps (next_place ps i)) -ℤ heading_of (segment_at ps i))
unfolding turn_at segment_into
turn_at-next_place ps i never below = grind (arith, ints, next_place-below, previous_place-next_place, turn-bend)

-- round a cycle the differences of the headings add up to 0
pub turns_are_turning : (ps : List Point) → NeverReverses ps → sum_below (length ps) (turn_at ps) ≡ pos 4 *ℤ turning ps
unfolding turning
turns_are_turning ps never =
    let headings : ℕ → ℤ = λ i. heading_of (segment_at ps i) in
    let jumps : ℕ → ℤ = λ i. jump (headings (next_place ps i) -ℤ headings i) in
    let whole : sum_below (length ps) (turn_at ps) ≡ pos 4 *ℤ sum_below (length ps) jumps =
    sym (sum_below-next_place ps (turn_at ps))
    ∙ sum_below-mul_and_differences ps (pos 4) (λ i. turn_at ps (next_place ps i)) jumps headings (λ i below. turn_at-next_place ps i never below) in
    let divided = ap (λ s. int_div s (pos 4)) whole ∙ int_div-mul 4 (sum_below (length ps) jumps) (omega arith) in
    whole ∙ ap (λ n. pos 4 *ℤ n) (sym divided)
