use Rattle.std.proofs.Common.{◌≡◌, ◌≤◌, ℤ, pos, negsuc, ◌+ℤ◌, ◌*ℤ◌, ◌≤ℤ◌, int_le, true, false, FitsSigned, to_z, of_z, w32, w64, IsTrue, ◌↔◌, arith, rules}
use Rattle.std.proofs.Math.Nat.{mul-le-mul}
use Rattle.std.proofs.lemmas.Bool.{both_ways}
use Rattle.std.proofs.lemmas.Int.{ints, to_z-of_z, unsigned_abs-mul, fits_signed_from_abs}
use Rattle.std.specs.Int.RustNames.{unsigned_abs}
use Rattle.mf_geom.specs.Coordinates.{least_coordinate, greatest_coordinate, IsCoordinate}
use Rattle.mf_rows_edges.specs.Axes.{target_of}
use Rattle.mf_rows_edges.proofs.EdgeChanges.{size-at_most}
use Rattle.mf_ops.proofs.transform.stays_in_range.Goals.{After-from-3}
use Rattle.mf_ops.proofs.transform.stays_in_range.Goals as goal

size-fits : (f : ℤ) → FitsSigned w32 f → unsigned_abs f ≤ 2147483648
size-fits (pos n) fits = omega (arith, ints, fits.sfits)
size-fits (negsuc n) fits = omega (arith, ints, fits.sfits)

from_size : (a : ℤ) → unsigned_abs a ≤ 8793945538560 → (negsuc 8793945538559 ≤ℤ a) × (a ≤ℤ pos 8793945538560)
from_size (pos n) size = (omega (arith, ints), omega (arith, ints))
from_size (negsuc n) size = (omega (arith, ints), omega (arith, ints))

fits-between : (a : ℤ) → negsuc 8796093022207 ≤ℤ a → a ≤ℤ pos 8796093022208 → FitsSigned w64 a
fits-between (pos n) least greatest = record { sfits = omega (arith, ints) }
fits-between (negsuc n) least greatest = record { sfits = omega (arith, ints) }

not_left : (x : ℤ) → int_le least_coordinate x ≡ true → IsTrue (int_le x greatest_coordinate) ↔ IsCoordinate x
not_left x passes = (λ test. record { least = grind (arith, ints); greatest = grind (arith, ints) }, λ point. grind (arith, ints))

left : (x : ℤ) → int_le least_coordinate x ≡ false → IsTrue (int_le least_coordinate x) ↔ IsCoordinate x
left x fails = (λ test. absurd (both_ways _ fails test), λ point. grind (arith, ints))

-- the code reads the point as an integer, and computes with it in 64 bits
module _ (c : After-from-3) where
  abbrev factor : ℤ
  factor = c.args.stretch.now.factor

  abbrev product : ℤ
  product = to_z w64 (of_z w64 (to_z w64 (of_z w64 c.from.result) *ℤ to_z w64 (of_z w64 c.from-2.result)))

  abbrev moved : ℤ
  moved = target_of c.args.stretch.now c.args.point

  factor-fits : FitsSigned w32 factor
  factor-fits = search rules

  offset-fits : FitsSigned w32 c.args.stretch.now.offset
  offset-fits = search rules

  product-size : unsigned_abs (c.args.point *ℤ factor) ≤ 8793945538560
  product-size = rw unsigned_abs-mul (mul-le-mul (size-at_most c.args.point c.requires.least c.requires.greatest) (size-fits factor factor-fits))

  product-is : product ≡ c.args.point *ℤ factor
  product-is =
      let point : to_z w64 (of_z w64 c.from.result) ≡ c.args.point = omega (arith, ints, c.from.ensures, c.requires.least, c.requires.greatest) in
      let times : to_z w64 (of_z w64 c.from-2.result) ≡ factor = omega (arith, ints, c.from-2.ensures, factor-fits.sfits) in
      rw (point, times) (to_z-of_z w64 (c.args.point *ℤ factor) (fits_signed_from_abs w64 (c.args.point *ℤ factor) (omega (arith, product-size))))

  sum-is : product +ℤ to_z w64 (of_z w64 c.from-3.result) ≡ moved
  sum-is =
      let offset : to_z w64 (of_z w64 c.from-3.result) ≡ c.args.stretch.now.offset = omega (arith, ints, c.from-3.ensures, offset-fits.sfits) in
      λ t. product-is t +ℤ offset t

  sum-fits : FitsSigned w64 moved
  sum-fits =
      let size = from_size (c.args.point *ℤ factor) product-size in
      fits-between moved (omega (arith, ints, size.0, offset-fits.sfits)) (omega (arith, ints, size.1, offset-fits.sfits))

  new-is : to_z w64 (of_z w64 (product +ℤ to_z w64 (of_z w64 c.from-3.result))) ≡ moved
  new-is = rw sum-is (to_z-of_z w64 moved sum-fits)

pub overflow_add-new : goal.overflow_add-new
overflow_add-new c = let sum = (goal.at.overflow_add-new c).After-from-3 in rw (sum-is sum) (sum-fits sum)

pub returns-then-new : goal.returns-then-new
returns-then-new c = let new = new-is (goal.at.returns-then-new c).After-from-3 in rw new (not_left _ (rw new at c.if-new.true))

pub returns-else-new : goal.returns-else-new
returns-else-new c = let new = new-is (goal.at.returns-else-new c).After-from-3 in rw new (left _ (rw new at c.if-new.false))
