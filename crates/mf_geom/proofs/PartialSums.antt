-- Sums in loops: what has been added up so far, and how far it may be from 0.
use Rattle.std.proofs.Common.{◌≡◌, ℕ, ◌+◌, ◌*◌, ℤ, pos, neg_ℤ, ◌+ℤ◌, ◌≤ℤ◌, refl, arith, add-one}
use Rattle.std.proofs.lemmas.Int.{ints}
use Rattle.mf_geom.specs.Sum.{sum_below}

-- t is the sum f 0 + .. + f (n - 1), and at most m * n in absolute value, as each term is at most m
pub record IsSumTo (m : ℕ) (f : ℕ → ℤ) (n : ℕ) (t : ℤ) : Type 0 where
  pub value : t ≡ sum_below n f
  pub least : neg_ℤ (pos (m * n)) ≤ℤ t
  pub greatest : t ≤ℤ pos (m * n)

pub IsSumTo-none : (m : ℕ) (f : ℕ → ℤ) → IsSumTo m f 0 (pos 0)
unfolding sum_below
IsSumTo-none m f = record { value = refl; least = omega (arith, ints); greatest = omega (arith, ints) }

pub IsSumTo-more : {m : ℕ} {f : ℕ → ℤ} {n : ℕ} {t : ℤ} → IsSumTo m f n t → neg_ℤ (pos m) ≤ℤ f n → f n ≤ℤ pos m → IsSumTo m f (n + 1) (t +ℤ f n)
unfolding sum_below
IsSumTo-more so_far least greatest = record { value = rw (add-one, so_far.value); least = omega (arith, ints); greatest = omega (arith, ints) }
