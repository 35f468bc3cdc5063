use Rattle.std.proofs.Common.{◌≡◌, ◌≤◌, ℤ, negsuc, pos, neg_ℤ, ◌*ℤ◌, ◌≤ℤ◌, arith, w32, to_z, of_z}
use Rattle.std.proofs.Math.Nat.{mul-le-mul}
use Rattle.std.proofs.lemmas.Int.{ints, to_z-of_z, unsigned_abs-mul, fits_signed_from_abs, fits_signed_mul}
use Rattle.std.specs.Int.RustNames.{unsigned_abs}
use Rattle.mf_geom.specs.Coordinates.{field_size, greatest_length}
use Rattle.mf_geom.proofs.segment.product.Goals as goal

size-at_most : (a : ℤ) → neg_ℤ greatest_length ≤ℤ a → a ≤ℤ greatest_length → unsigned_abs a ≤ field_size
size-at_most (pos n) least greatest = omega (arith, ints)
size-at_most (negsuc n) least greatest = omega (arith, ints)

from_size : (a : ℤ) → unsigned_abs a ≤ 67076100 → (negsuc 67076099 ≤ℤ a) × (a ≤ℤ pos 67076100)
from_size (pos n) size = (omega (arith, ints), omega (arith, ints))
from_size (negsuc n) size = (omega (arith, ints), omega (arith, ints))

product-size : (a b : ℤ) → unsigned_abs a ≤ field_size → unsigned_abs b ≤ field_size → unsigned_abs (a *ℤ b) ≤ 67076100
product-size a b a_size b_size = rw unsigned_abs-mul (mul-le-mul a_size b_size)

pub overflow_mul-result : goal.overflow_mul-result
overflow_mul-result c =
    let a_size = size-at_most c.args.a c.requires.a_least c.requires.a_greatest in
    let b_size = size-at_most c.args.b c.requires.b_least c.requires.b_greatest in
    simp (to_z-of_z w32 c.args.a c.ranges.a, to_z-of_z w32 c.args.b c.ranges.b)
    (fits_signed_mul w32 c.args.a c.args.b field_size field_size a_size b_size (omega arith))

pub returns : goal.returns
returns c =
    let a = c.args.a in
    let b = c.args.b in
    let size = product-size a b (size-at_most a c.requires.a_least c.requires.a_greatest) (size-at_most b c.requires.b_least c.requires.b_greatest) in
    let bounds = from_size (a *ℤ b) size in
    let value : to_z w32 (of_z w32 (to_z w32 (of_z w32 a) *ℤ to_z w32 (of_z w32 b))) ≡ a *ℤ b =
    simp (to_z-of_z w32 a c.ranges.a, to_z-of_z w32 b c.ranges.b) (to_z-of_z w32 (a *ℤ b) (fits_signed_from_abs w32 (a *ℤ b) (omega (arith, size)))) in
    record { value = value; least = rw value bounds.0; greatest = rw value bounds.1 }
