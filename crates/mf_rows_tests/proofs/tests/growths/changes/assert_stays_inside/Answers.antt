use Rattle.std.proofs.Common.{◌≤◌, ℤ, pos, negsuc, ◌+ℤ◌, ◌*ℤ◌, ◌≤ℤ◌, ◌<ℤ◌, List, to_z, of_z, w32, arith}
use Rattle.std.proofs.Math.Nat.{mul-le-mul}
use Rattle.std.proofs.lemmas.Int.{ints, unsigned_abs-mul}
use Rattle.std.specs.Int.RustNames.{unsigned_abs}
use Rattle.mf_geom.specs.Coordinates.{IsCoordinate}
use Rattle.mf_rows.specs.Bounds.{IsLeastBox}
use Rattle.mf_rows.specs.declared.bounds.Box4.{Box4}
use Rattle.mf_rows_edges.specs.declared.stretch.Stretch.{Stretch}
use Rattle.mf_rows.specs.Dots.{Dot, IsPicture}
use Rattle.mf_rows_edges.specs.Axes.{StaysInside, target_of}
use Rattle.mf_rows.specs.Moves.{PixelsStayInside}
use Rattle.mf_rows.proofs.BoundsInField.{bounds_in_field}
use Rattle.mf_rows_tests.proofs.tests.growths.changes.assert_stays_inside.Goals as goal

size-point : (p : ℤ) → negsuc 999 ≤ℤ p → p ≤ℤ pos 1000 → unsigned_abs p ≤ 1000
size-point (pos n) least greatest = omega (arith, ints)
size-point (negsuc n) least greatest = omega (arith, ints)

size-factor : (f : ℤ) → pos 1 ≤ℤ f → f ≤ℤ pos 3 → unsigned_abs f ≤ 3
size-factor (pos n) least greatest = omega (arith, ints)
size-factor (negsuc n) least greatest = omega (arith, ints)

from_size : (a : ℤ) → unsigned_abs a ≤ 3000 → (negsuc 2999 ≤ℤ a) × (a ≤ℤ pos 3000)
from_size (pos n) size = (omega (arith, ints), omega (arith, ints))
from_size (negsuc n) size = (omega (arith, ints), omega (arith, ints))

-- a small stretch
record IsSmall (s : Stretch) : Type 0 where
  factor_least : pos 1 ≤ℤ s.factor
  factor_greatest : s.factor ≤ℤ pos 3
  offset_least : negsuc 999 ≤ℤ s.offset
  offset_greatest : s.offset ≤ℤ pos 1000

-- it takes no place near 0 out of the field
point_stays : (s : Stretch) (p : ℤ) → IsSmall s → negsuc 999 ≤ℤ p → p ≤ℤ pos 1000 → IsCoordinate (target_of s p)
point_stays s p small least greatest =
    let size : unsigned_abs (p *ℤ s.factor) ≤ 3000 =
    rw unsigned_abs-mul (mul-le-mul (size-point p least greatest) (size-factor s.factor small.factor_least small.factor_greatest)) in
    let product = from_size (p *ℤ s.factor) size in
    record { least = omega (arith, ints, product.0, small.offset_least); greatest = omega (arith, ints, product.1, small.offset_greatest) }

column_stays : (s : Stretch) (p : ℤ) → IsSmall s → negsuc 999 ≤ℤ p → p ≤ℤ pos 999 → StaysInside s p
column_stays s p small least greatest = record {
  start = point_stays s p small least (omega (arith, ints));
  end = point_stays s (p +ℤ pos 1) small (omega (arith, ints)) (omega (arith, ints));
}

column_between : (s : Stretch) (a p b : ℤ) → IsSmall s → negsuc 999 ≤ℤ a → a ≤ℤ p → p ≤ℤ b → b ≤ℤ pos 999 → StaysInside s p
column_between s a p b small least from to greatest = column_stays s p small (omega (arith, ints)) (omega (arith, ints))

-- the sides of the least box are read back from 32 bits
module _ (ds : List Dot) (b : Box4) (picture : IsPicture ds) (box : IsLeastBox ds b) where
  module _ (columns rows : Stretch) (small_columns : IsSmall columns) (small_rows : IsSmall rows)
      (from_left : negsuc 999 ≤ℤ to_z w32 (of_z w32 b.min_x)) (to_right : to_z w32 (of_z w32 b.max_x) <ℤ pos 1000)
      (from_bottom : negsuc 999 ≤ℤ to_z w32 (of_z w32 b.min_y)) (to_top : to_z w32 (of_z w32 b.max_y) <ℤ pos 1000) where
    stays_inside : PixelsStayInside columns rows ds
    stays_inside =
        let (least, greatest) = bounds_in_field ds b picture box in
        let first_column : negsuc 999 ≤ℤ b.min_x = omega (arith, ints, from_left, least.left, least.right) in
        let last_column : b.max_x ≤ℤ pos 999 = omega (arith, ints, to_right, greatest.left, greatest.right) in
        let first_row : negsuc 999 ≤ℤ b.min_y = omega (arith, ints, from_bottom, least.bottom, least.top) in
        let last_row : b.max_y ≤ℤ pos 999 = omega (arith, ints, to_top, greatest.bottom, greatest.top) in
        record {
          across = λ k d lt. let within = box.within k d lt in column_between columns b.min_x _ b.max_x small_columns first_column within.left
              within.right last_column;
          up = λ k d lt. let within = box.within k d lt in column_between rows b.min_y _ b.max_y small_rows first_row within.bottom within.top last_row;
        }

pub returns-clause-inside : goal.returns-clause-inside
returns-clause-inside g c =
    let columns : IsSmall c.args.columns.now = record {
      factor_least = c.assert_small.ensures.factor_least;
      factor_greatest = c.assert_small.ensures.factor_greatest;
      offset_least = c.assert_small.ensures.offset_least;
      offset_greatest = c.assert_small.ensures.offset_greatest;
    } in
    let rows : IsSmall c.args.rows.now = record {
      factor_least = c.assert_small-2.ensures.factor_least;
      factor_greatest = c.assert_small-2.ensures.factor_greatest;
      offset_least = c.assert_small-2.ensures.offset_least;
      offset_greatest = c.assert_small-2.ensures.offset_greatest;
    } in
    let box : IsLeastBox c.args.picture.now c.expect-bounds.result = rw c.expect-bounds.ensures at c.bounds.ensures.least in
    stays_inside c.args.picture.now c.expect-bounds.result c.bounds.ensures.lawful box c.args.columns.now c.args.rows.now columns rows
    (omega (arith, ints)) (omega (arith, ints)) (omega (arith, ints)) (omega (arith, ints))
