-- Which column, or row, a scale takes to the part of the axis that contains a given one.
use Rattle.std.proofs.Common.{◌≡◌, ◌↔◌, ℕ, zero, suc, ℤ, pos, negsuc, ◌+ℤ◌, ◌-ℤ◌, ◌*ℤ◌, ◌≤ℤ◌, ◌<ℤ◌, nat_abs, refl, ap, ◌∙◌, arith}
use Rattle.std.specs.Int.{int_max, int_min}
use Rattle.std.proofs.lemmas.Bool.{cond-false}
use Rattle.std.proofs.lemmas.Int.{ints, clamps, by_lt_z}
use Rattle.mf_rows_edges.specs.declared.stretch.Stretch.{Stretch}
use Rattle.mf_rows_edges.specs.Axes.{IsStretch, target_of, source_of, opposite}
use Rattle.mf_rows_edges.proofs.Sources.{mul-next, target_of-next, source_of-reached, source_of-from, source_of-is}
use Rattle.mf_ops.specs.Moves.{IsFactor, scale_by, scale_source}

-- a scale by f takes column, or row, p onto q: the part of the axis between p * f and (p + 1) * f contains q
pub record ScalesOnto (f p q : ℤ) : Type 0 where
  pub start : int_min (p *ℤ f) ((p +ℤ pos 1) *ℤ f) ≤ℤ q
  pub end : (q +ℤ pos 1) ≤ℤ int_max (p *ℤ f) ((p +ℤ pos 1) *ℤ f)

-- a scale by a positive factor is a stretch
pub scale_source-positive : (n : ℕ) (q : ℤ) → scale_source (pos n) q ≡ source_of (scale_by (pos n)) q
unfolding scale_source
scale_source-positive n q = cond-false _ (opposite (source_of (scale_by (pos n)) q)) (source_of (scale_by (pos n)) q) (grind (arith, ints))

-- under a negative factor, p is the source where under the opposite factor the one opposite to p is
pub scale_source-negative : (n : ℕ) (q : ℤ) → scale_source (negsuc n) q ≡ opposite (source_of (scale_by (pos (suc n))) q)
unfolding scale_source
scale_source-negative n q = refl

pub start-negative : (n : ℕ) (p : ℤ) → p *ℤ negsuc n ≡ (opposite p +ℤ pos 1) *ℤ pos (suc n)
start-negative n p = grind (arith, ints)

pub end-negative : (n : ℕ) (p : ℤ) → (p +ℤ pos 1) *ℤ negsuc n ≡ opposite p *ℤ pos (suc n)
end-negative n p = grind (arith, ints)

-- so the part of p is the part of the opposite column under the opposite factor
ScalesOnto-negative : (n : ℕ) (p q : ℤ) → ScalesOnto (pos (suc n)) (opposite p) q ↔ ScalesOnto (negsuc n) p q
ScalesOnto-negative n p q = grind (arith, ints, start-negative, end-negative, clamps)

-- the part of the source of q begins at q or before it, and ends after it
pub source_of-start : (s : Stretch) (q : ℤ) → IsStretch s → target_of s (source_of s q) ≤ℤ q
source_of-start s q stretch = source_of-reached s (source_of s q) q stretch (omega (arith, ints))

pub source_of-end : (s : Stretch) (q : ℤ) → IsStretch s → q <ℤ (target_of s (source_of s q) +ℤ s.factor)
source_of-end s q stretch =
    let next = target_of-next s (source_of s q) in
    by_lt_z q (target_of s (source_of s q) +ℤ s.factor)
    (λ inside. inside)
    (λ after. let further = source_of-from s (source_of s q +ℤ pos 1) q stretch (rw next after) in absurd (omega (arith, ints)))

covered-positive : (f q : ℤ) → IsStretch (scale_by f) → ScalesOnto f (source_of (scale_by f) q) q
covered-positive f q stretch =
    let least = stretch.least in
    let start = source_of-start (scale_by f) q stretch in
    let end = source_of-end (scale_by f) q stretch in
    let next = target_of-next (scale_by f) (source_of (scale_by f) q) in
    record { start = omega (arith, ints, clamps); end = omega (arith, ints, clamps) }

only-positive : (f p q : ℤ) → IsStretch (scale_by f) → ScalesOnto f p q → source_of (scale_by f) q ≡ p
only-positive f p q stretch has =
    let least = stretch.least in
    let next = target_of-next (scale_by f) p in
    source_of-is (scale_by f) p q stretch (omega (arith, ints, clamps)) (omega (arith, ints, clamps))

-- the scale by the absolute value of a factor, which is a stretch
abbrev pub by_size : ℤ → Stretch
by_size f = scale_by (pos (nat_abs f))

pub IsStretch-size : (f : ℤ) → IsFactor f → IsStretch (by_size f)
IsStretch-size (pos zero) is_factor = absurd (is_factor.nonzero refl)
IsStretch-size (pos (suc n)) is_factor = let greatest = is_factor.range.greatest in record { least = omega (arith, ints); greatest = omega (arith, ints) }
IsStretch-size (negsuc n) is_factor = let least = is_factor.range.least in record { least = omega (arith, ints); greatest = omega (arith, ints) }

pub opposite-opposite : (p : ℤ) → opposite (opposite p) ≡ p
opposite-opposite p = omega (arith, ints)

-- the part of the source contains the column
pub scale_source-covered : (f q : ℤ) → IsFactor f → ScalesOnto f (scale_source f q) q
scale_source-covered (pos n) q factor = rw (scale_source-positive n q) (covered-positive (pos n) q (IsStretch-size (pos n) factor))
scale_source-covered (negsuc n) q factor =
    let p = source_of (scale_by (pos (suc n))) q in
    let back = opposite-opposite p in
    let covered = covered-positive (pos (suc n)) q (IsStretch-size (negsuc n) factor) in
    rw (scale_source-negative n q) ((ScalesOnto-negative n (opposite p) q).0 (rw back covered))

-- no other part contains it
pub scale_source-only : (f p q : ℤ) → IsFactor f → ScalesOnto f p q → scale_source f q ≡ p
scale_source-only (pos n) p q factor has = scale_source-positive n q ∙ only-positive (pos n) p q (IsStretch-size (pos n) factor) has
scale_source-only (negsuc n) p q factor has =
    let only = only-positive (pos (suc n)) (opposite p) q (IsStretch-size (negsuc n) factor) ((ScalesOnto-negative n p q).1 has) in
    scale_source-negative n q ∙ ap opposite only ∙ opposite-opposite p

-- a reflection takes a column to the other side of 0
pub scale_source-reflection : (q : ℤ) → scale_source (negsuc 0) q ≡ opposite q
scale_source-reflection q =
    let one : IsFactor (negsuc 0) = grind (arith, ints) in
    scale_source-only (negsuc 0) (opposite q) q one record { start = omega (arith, ints, clamps); end = omega (arith, ints, clamps) }

-- the part of p is not empty: it has a first and a last column
ends-apart : (f p : ℤ) → IsFactor f → (int_min (p *ℤ f) ((p +ℤ pos 1) *ℤ f) +ℤ pos 1) ≤ℤ int_max (p *ℤ f) ((p +ℤ pos 1) *ℤ f)
ends-apart f p factor = grind (arith, ints, mul-next, by_lt_z, clamps)

pub ScalesOnto-first : (f p : ℤ) → IsFactor f → ScalesOnto f p (int_min (p *ℤ f) ((p +ℤ pos 1) *ℤ f))
ScalesOnto-first f p factor = record { start = omega (arith, ints); end = ends-apart f p factor }

pub ScalesOnto-last : (f p : ℤ) → IsFactor f → ScalesOnto f p (int_max (p *ℤ f) ((p +ℤ pos 1) *ℤ f) -ℤ pos 1)
ScalesOnto-last f p factor = let apart = ends-apart f p factor in record { start = omega (arith, ints); end = omega (arith, ints) }
