-- The gray values of weights, read back.
use Rattle.std.proofs.Common.{◌≡◌, ℕ, zero, suc, ◌+◌, ◌-◌, ◌<◌, ℤ, pos, negsuc, neg_ℤ, ◌≤ℤ◌, ◌<ℤ◌, refl, arith}
use Rattle.std.specs.Int.RustNames.{unsigned_abs}
use Rattle.std.proofs.lemmas.Int.{ints}
use Rattle.mf_view_image.specs.Pgm.{gray_step, gray_value, greatest_distinct_weight, least_distinct_weight, maxval, negative_base}
use Rattle.mf_view_image.specs.Reading.{weight_of_gray_value}

gray_value-dark : (w : ℤ) → pos 4 ≤ℤ w → gray_value w ≡ gray_step + 3 - unsigned_abs w
gray_value-dark w least = grind (arith, ints)

gray_value-light : (w : ℤ) → least_distinct_weight ≤ℤ w → w <ℤ pos 0 → gray_value w ≡ negative_base + unsigned_abs w
gray_value-light w least greatest = grind (arith, ints)

weight-dark : (k : ℕ) → k < gray_step → weight_of_gray_value k ≡ pos (gray_step + 3 - k)
weight-dark k dark = grind (arith, ints)

weight-light : (k : ℕ) → negative_base < k → k < maxval → weight_of_gray_value k ≡ neg_ℤ (pos (k - negative_base))
weight-light k light below = grind (arith, ints)

pub weight_of_its_gray_value : (w : ℤ) → least_distinct_weight ≤ℤ w → w ≤ℤ greatest_distinct_weight → weight_of_gray_value (gray_value w) ≡ w
weight_of_its_gray_value (negsuc n) least greatest = grind (arith, ints, gray_value-light, weight-light)
weight_of_its_gray_value (pos zero) least greatest = refl
weight_of_its_gray_value (pos (suc zero)) least greatest = refl
weight_of_its_gray_value (pos (suc (suc zero))) least greatest = refl
weight_of_its_gray_value (pos (suc (suc (suc zero)))) least greatest = refl
weight_of_its_gray_value (pos (suc (suc (suc (suc n))))) least greatest = grind (arith, ints, gray_value-dark, weight-dark)
