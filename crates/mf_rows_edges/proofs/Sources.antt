-- Where a pixel of a stretched axis comes from.
use Rattle.std.proofs.Common.{◌≡◌, ◌+◌, ◌*◌, ◌≤◌, mul-le-mul_right, ℤ, pos, negsuc, ◌+ℤ◌, ◌-ℤ◌, ◌*ℤ◌, ◌≤ℤ◌, ◌<ℤ◌, arith}
use Rattle.std.specs.Int.{int_div_euclid}
use Rattle.std.proofs.lemmas.Int.{ints, by_lt_z}
use Rattle.mf_geom.proofs.Products.{mul-add}
use Rattle.mf_rows_edges.specs.declared.stretch.Stretch.{Stretch}
use Rattle.mf_rows_edges.specs.Axes.{IsStretch, target_of, source_of}
use borrow.Author.Differences.{up, down}

-- multiplying by a factor that is not negative keeps the order
pub mul-le : (a b f : ℤ) → pos 0 ≤ℤ f → a ≤ℤ b → (a *ℤ f) ≤ℤ (b *ℤ f)
mul-le a b (pos n) sign le =
    let parts : up a + down b ≤ up b + down a = omega (arith, ints) in
    let times : (up a + down b) * n ≤ (up b + down a) * n = mul-le-mul_right n parts in
    omega (arith, ints)
mul-le a b (negsuc n) sign le = absurd (omega (arith, ints))

pub mul-next : (a f : ℤ) → (a +ℤ pos 1) *ℤ f ≡ (a *ℤ f) +ℤ f
mul-next a f = omega (arith, ints, mul-add f a (pos 1))

-- the dividend is between the quotient times the divisor and the next multiple
pub quotient-within : (d f : ℤ) → pos 1 ≤ℤ f → ((int_div_euclid d f *ℤ f) ≤ℤ d) × (d <ℤ ((int_div_euclid d f *ℤ f) +ℤ f))
quotient-within (pos a) (pos n) positive = (omega (arith, ints), omega (arith, ints))
quotient-within (negsuc a) (pos n) positive = (omega (arith, ints), omega (arith, ints))
quotient-within d (negsuc n) positive = absurd (omega (arith, ints))

-- stretched points keep their order
pub target_of-le : (s : Stretch) (a b : ℤ) → IsStretch s → a ≤ℤ b → target_of s a ≤ℤ target_of s b
target_of-le s a b stretch le = omega (arith, ints, mul-le a b s.factor (omega (arith, ints, stretch.least)) le)

-- the next point lands a factor further
pub target_of-next : (s : Stretch) (p : ℤ) → target_of s (p +ℤ pos 1) ≡ target_of s p +ℤ s.factor
target_of-next s p = omega (arith, ints, mul-next p s.factor)

pub target_of-lt : (s : Stretch) (a b : ℤ) → IsStretch s → a <ℤ b → target_of s a <ℤ target_of s b
target_of-lt s a b stretch lt =
    omega (arith, ints, target_of-next s a, target_of-le s (a +ℤ pos 1) b stretch (omega (arith, ints)), stretch.least, stretch)

-- the column that becomes q is at or to the right of p exactly where the stretch takes p to q or further left
pub source_of-reached : (s : Stretch) (p q : ℤ) → IsStretch s → p ≤ℤ source_of s q → target_of s p ≤ℤ q
unfolding source_of
source_of-reached s p q stretch le =
    omega (arith, ints, quotient-within (q -ℤ s.offset) s.factor stretch.least, mul-le p (source_of s q) s.factor (omega (arith, ints, stretch.least)) le)

pub source_of-from : (s : Stretch) (p q : ℤ) → IsStretch s → target_of s p ≤ℤ q → p ≤ℤ source_of s q
unfolding source_of
source_of-from s p q stretch le =
    by_lt_z (source_of s q) p
    (λ lt.
    let within = quotient-within (q -ℤ s.offset) s.factor stretch.least in
    let product = mul-le (source_of s q +ℤ pos 1) p s.factor (omega (arith, ints, stretch.least)) (omega (arith, ints)) in
    let next = mul-next (source_of s q) s.factor in
    absurd (omega (arith, ints)))
    (λ ge. ge)

-- so a column comes from the one whose stretched part has it, and from no other
pub source_of-is : (s : Stretch) (p q : ℤ) → IsStretch s → target_of s p ≤ℤ q → q <ℤ target_of s (p +ℤ pos 1) → source_of s q ≡ p
source_of-is s p q stretch start after =
    let from = source_of-from s p q stretch start in
    by_lt_z p (source_of s q)
    (λ lt. let next = source_of-reached s (p +ℤ pos 1) q stretch (omega (arith, ints)) in absurd (omega (arith, ints)))
    (λ ge. omega (arith, ints))
