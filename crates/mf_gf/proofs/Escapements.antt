-- Escapements that are a whole number of pixels.
use Rattle.std.proofs.Common.{◌≡◌, ◌%◌, true, ℕ, ℤ, pos, negsuc, Some, ap, arith}
use Rattle.std.specs.Ordering.{int_eq}
use Rattle.std.proofs.lemmas.Bool.{and_parts, cond-true}
use Rattle.std.proofs.lemmas.Int.{ints}
use Rattle.std.proofs.lemmas.Option.{cond_some}
use Rattle.mf_gf.specs.Files.{IsShortDx, short_dx}
use Rattle.mf_gf.specs.Format.{unity}

pub short_dx_is : (dx : ℤ) (pixels : ℕ) → short_dx dx ≡ Some pixels → IsShortDx dx pixels
short_dx_is (pos n) pixels short = grind (arith, ints, cond_some, and_parts)
short_dx_is (negsuc n) pixels short = absurd (cc)

-- an escapement that is not negative passes the test of whole pixels if nothing is left over
passes_whole : (n : ℕ) → n % unity ≡ 0 → int_eq (pos (n % unity)) (pos 0) ≡ true
passes_whole n none = ap (λ r. int_eq (pos r) (pos 0)) none

pub is_short_dx : (dx : ℤ) (pixels : ℕ) → IsShortDx dx pixels → short_dx dx ≡ Some pixels
is_short_dx (pos n) pixels short = grind (arith, ints, passes_whole, cond-true)
is_short_dx (negsuc n) pixels short = absurd (omega (arith, ints, short.whole))
