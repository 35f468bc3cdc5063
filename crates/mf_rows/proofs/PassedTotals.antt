-- The total weight of the pixels that a walk has passed.
use Rattle.std.proofs.Common.{◌≡◌, ℕ, zero, suc, ◌+◌, ◌*◌, ◌<◌, ◌≤◌, ℤ, pos, ◌+ℤ◌, ◌-ℤ◌, ◌*ℤ◌, ◌≤ℤ◌, ◌<ℤ◌, add-zero, add-suc, FitsSigned, to_z, of_z, w32, w64, refl, sym, ap, ◌∙◌, arith}
use lib.IntN.{+ℤ_idr}
use Rattle.std.specs.Int.RustNames.{unsigned_abs}
use Rattle.std.proofs.lemmas.Int.{ints}
use Rattle.mf_geom.specs.Coordinates.{least_coordinate, greatest_coordinate, field_size}
use Rattle.mf_geom.specs.Field.{IsInField, sum_over_field}
use Rattle.mf_geom.specs.Sum.{sum_below}
use Rattle.mf_geom.proofs.Products.{mul-add}
use Rattle.mf_geom.proofs.Sums.{sum_below-next}
use Rattle.mf_rows_edges.specs.LawfulWeights.{IsLawfulWeight, greatest_weight}
use Rattle.mf_rows_strips.specs.RowEdges.{AreSameRows, weights_of}
use Rattle.mf_rows.specs.declared.walk.Walk.{Walk}
use Rattle.mf_rows.specs.Remaining.{HasPassed}
use Rattle.mf_rows.specs.Totals.{sum_from, row_total, rows_total}
use Rattle.mf_rows.proofs.PassedPixels.{column_fits, lawful_weight, outside, weight_here}

-- ---- sums

-- k equal terms at the end of a sum
sum_below-equal : (m k : ℕ) (w : ℤ) (f : ℕ → ℤ) → ((i : ℕ) → i < k → f (m + i) ≡ w) → sum_below (m + k) f ≡ sum_below m f +ℤ w *ℤ pos k
unfolding sum_below
sum_below-equal m zero w f equal = rw add-zero (omega (arith, ints))
sum_below-equal m (suc k) w f equal =
    let next : pos (suc k) ≡ pos k +ℤ pos 1 = omega (arith, ints) in
    rw (add-suc, next) (omega (arith, ints, sum_below-equal m k w f (λ i lt. equal i (omega arith)), equal k (omega arith), mul-add w (pos k) (pos 1)))

pub sum_from-equal : (low x e w : ℤ) (f : ℤ → ℤ) → low ≤ℤ x → x ≤ℤ e → ((z : ℤ) → x ≤ℤ z → z <ℤ e → f z ≡ w) → sum_from low e f ≡ sum_from low x f +ℤ w *ℤ (e -ℤ x)
unfolding sum_from
sum_from-equal low x e w f from order equal =
    let m = unsigned_abs (x -ℤ low) in
    let k = unsigned_abs (e -ℤ x) in
    let all : unsigned_abs (e -ℤ low) ≡ m + k = omega (arith, ints) in
    let width : e -ℤ x ≡ pos k = omega (arith, ints) in
    rw (all, width) (sum_below-equal m k w (λ i. f (low +ℤ pos i)) (λ i lt. equal (low +ℤ pos (m + i)) (omega (arith, ints)) (omega (arith, ints))))

-- a sum of n numbers, none of which exceeds m in absolute value
sum_below-bound : (m n : ℕ) (f : ℕ → ℤ) → ((i : ℕ) → unsigned_abs (f i) ≤ m) → unsigned_abs (sum_below n f) ≤ m * n
unfolding sum_below
sum_below-bound m zero f terms = omega arith
sum_below-bound m (suc n) f terms = omega (arith, ints, sum_below-bound m n f terms, terms n)

pub sum_from-bound : (m : ℕ) (low high : ℤ) (f : ℤ → ℤ) → ((z : ℤ) → unsigned_abs (f z) ≤ m) → unsigned_abs (sum_from low high f) ≤ m * unsigned_abs (high -ℤ low)
unfolding sum_from
sum_from-bound m low high f terms = sum_below-bound m (unsigned_abs (high -ℤ low)) (λ i. f (low +ℤ pos i)) (λ i. terms (low +ℤ pos i))

-- ---- rows

module _ (f : ℤ → ℤ → ℤ) where
  pub row_start : (y x : ℤ) → x ≡ least_coordinate -ℤ pos 1 → row_total f y x ≡ pos 0
  unfolding row_total sum_from sum_below
  row_start y x start = rw start refl

  -- pixels of one weight more
  row_more : (y x e w : ℤ) → (least_coordinate -ℤ pos 1) ≤ℤ x → x ≤ℤ e → ((z : ℤ) → x ≤ℤ z → z <ℤ e → f z y ≡ w)
      → row_total f y e ≡ row_total f y x +ℤ w *ℤ (e -ℤ x)
  unfolding row_total
  row_more y x e w = sum_from-equal (least_coordinate -ℤ pos 1) x e w (λ z. f z y)

  -- equal rows more
  rows_more : (bottom y : ℤ) → AreSameRows f bottom y
      → rows_total f (y +ℤ pos 1) ≡ rows_total f bottom +ℤ row_total f y greatest_coordinate *ℤ (y +ℤ pos 1 -ℤ bottom)
  unfolding rows_total row_total sum_from
  rows_more bottom y rows =
      sum_from-equal least_coordinate bottom (y +ℤ pos 1) (row_total f y greatest_coordinate) (λ y. row_total f y greatest_coordinate) rows.low (omega (arith, ints, rows.order))
      (λ v low high t. sum_below (suc field_size) (λ i. rows.same (least_coordinate -ℤ pos 1 +ℤ pos i) v low (omega (arith, ints)) t))

  pub no_rows : rows_total f least_coordinate ≡ pos 0
  unfolding rows_total sum_from sum_below
  no_rows = refl

  -- the column to the left of the field adds nothing
  whole_row : ((x y : ℤ) → (IsInField x y → ⊥) → f x y ≡ pos 0) → (y : ℤ) → row_total f y greatest_coordinate ≡ sum_below field_size (λ i. f (least_coordinate +ℤ pos i) y)
  unfolding row_total sum_from sum_below
  whole_row outside y =
      let weight = λ (i : ℕ). f (least_coordinate -ℤ pos 1 +ℤ pos i) y in
      let column : (i : ℕ) → least_coordinate -ℤ pos 1 +ℤ pos (i + 1) ≡ least_coordinate +ℤ pos i = λ i. omega (arith, ints) in
      let first : weight 0 ≡ pos 0 = outside (least_coordinate -ℤ pos 1) y (λ inside. omega (arith, ints, inside.left)) in
      sym (sum_below-next field_size weight)
      ∙ ap (λ s. sum_below field_size (λ i. weight (i + 1)) +ℤ s) first
      ∙ +ℤ_idr (sum_below field_size (λ i. weight (i + 1)))
      ∙ (λ t. sum_below field_size (λ i. f (column i t) y))

  pub all_rows : ((x y : ℤ) → (IsInField x y → ⊥) → f x y ≡ pos 0) → rows_total f greatest_coordinate ≡ sum_over_field f
  unfolding rows_total sum_from sum_over_field
  all_rows outside = λ t. sum_below field_size (λ j. whole_row outside (least_coordinate +ℤ pos j) t)

-- ---- bounds

-- the greatest total of a row
abbrev pub greatest_row : ℕ
greatest_row = unsigned_abs greatest_weight * (field_size + 1)

module _ (f : ℤ → ℤ → ℤ) (lawful : (x y : ℤ) → IsLawfulWeight (f x y)) where
  row_bound : (y x : ℤ) → (least_coordinate -ℤ pos 1) ≤ℤ x → x ≤ℤ greatest_coordinate → unsigned_abs (row_total f y x) ≤ greatest_row
  unfolding row_total
  row_bound y x left right =
      omega (arith, ints, sum_from-bound (unsigned_abs greatest_weight) (least_coordinate -ℤ pos 1) x (λ z. f z y) (λ z. let w = lawful z y in omega (arith, ints)))

  rows_bound : (h : ℤ) → least_coordinate ≤ℤ h → h ≤ℤ greatest_coordinate → unsigned_abs (rows_total f h) ≤ greatest_row * field_size
  unfolding rows_total
  rows_bound h low high =
      omega (arith, ints, sum_from-bound greatest_row least_coordinate h (λ y. row_total f y greatest_coordinate) (λ y. row_bound y greatest_coordinate (omega (arith, ints)) (omega (arith, ints))))

-- ---- the steps of the code

-- steps between bounded totals fit
pub row_fits : (old new change : ℤ) → new ≡ old +ℤ change → unsigned_abs old ≤ greatest_row → unsigned_abs new ≤ greatest_row
    → FitsSigned w32 change × FitsSigned w32 (old +ℤ change)
row_fits old new change more from to = (omega (arith, ints), omega (arith, ints))

rows_fit : (old new change total all : ℤ) → new ≡ old +ℤ change → total +ℤ new ≡ all → unsigned_abs old ≤ greatest_row * field_size
    → unsigned_abs new ≤ greatest_row * field_size → unsigned_abs all ≤ greatest_row * field_size → FitsSigned w64 change × FitsSigned w64 (total +ℤ change)
rows_fit old new change total all more so_far from to whole = (omega (arith, ints), omega (arith, ints))

-- pixels of one weight more
pub record IsRowStep (s t : Walk) : Type 0 where
  pub product : to_z w32 (of_z w32 s.weight) *ℤ to_z w32 (of_z w32 (to_z w32 (of_z w32 t.x) -ℤ to_z w32 (of_z w32 s.x))) ≡ s.weight *ℤ (t.x -ℤ s.x)
  pub product_fits : FitsSigned w32 (s.weight *ℤ (t.x -ℤ s.x))
  pub sum_fits : FitsSigned w32 (row_total (weights_of s.edges) s.y s.x +ℤ s.weight *ℤ (t.x -ℤ s.x))
  pub sum : row_total (weights_of s.edges) s.y s.x +ℤ s.weight *ℤ (t.x -ℤ s.x) ≡ row_total (weights_of s.edges) s.y t.x

pub row_step : (s t : Walk) → HasPassed s t → IsRowStep s t
row_step s t passed =
    let here = s.reading in
    let lawful = lawful_weight s.edges s.x s.y in
    let weight = weight_here s in
    let w : to_z w32 (of_z w32 s.weight) ≡ s.weight = omega (arith, ints) in
    let width : to_z w32 (of_z w32 (t.x -ℤ s.x)) ≡ t.x -ℤ s.x = omega (arith, ints, here.left, here.right, t.reading.left, t.reading.right) in
    let more = row_more (weights_of s.edges) s.y s.x t.x s.weight here.left passed.order passed.same in
    let old = row_bound (weights_of s.edges) (lawful_weight s.edges) s.y s.x here.left here.right in
    let new = row_bound (weights_of s.edges) (lawful_weight s.edges) s.y t.x t.reading.left t.reading.right in
    let fits = row_fits _ _ _ more old new in
    record {
      product = rw (column_fits s, column_fits t, w, width) refl;
      product_fits = fits.0;
      sum_fits = fits.1;
      sum = sym more;
    }

-- equal rows more
pub record IsRowsStep (s : Walk) (row height total : ℤ) : Type 0 where
  pub product : to_z w64 (of_z w64 row) *ℤ to_z w64 (of_z w64 height) ≡ row *ℤ height
  pub product_fits : FitsSigned w64 (row *ℤ height)
  pub sum_fits : FitsSigned w64 (total +ℤ row *ℤ height)
  pub sum : (total +ℤ row *ℤ height) +ℤ rows_total (weights_of s.edges) s.bottom ≡ sum_over_field (weights_of s.edges)

pub rows_step : (s : Walk) (row height total : ℤ) → row ≡ row_total (weights_of s.edges) s.y greatest_coordinate → height ≡ s.y +ℤ pos 1 -ℤ s.bottom
    → total +ℤ rows_total (weights_of s.edges) (s.y +ℤ pos 1) ≡ sum_over_field (weights_of s.edges) → IsRowsStep s row height total
rows_step s row height total row_is height_is so_far =
    let f = weights_of s.edges in
    let lawful = lawful_weight s.edges in
    let low = s.reading.rows.low in
    let order = s.reading.rows.order in
    let top = s.reading.top in
    let more : rows_total f (s.y +ℤ pos 1) ≡ rows_total f s.bottom +ℤ row *ℤ height = rw (row_is, height_is) (rows_more f s.bottom s.y s.reading.rows) in
    let old = rows_bound f lawful (s.y +ℤ pos 1) (omega (arith, ints, low, order)) (omega (arith, ints, top)) in
    let new = rows_bound f lawful s.bottom low (omega (arith, ints, order, top)) in
    let whole = rows_bound f lawful greatest_coordinate (omega (arith, ints)) (omega (arith, ints)) in
    let all = all_rows f (outside s.edges) in
    let own = row_bound f lawful s.y greatest_coordinate (omega (arith, ints)) (omega (arith, ints)) in
    let r : to_z w64 (of_z w64 row) ≡ row = omega (arith, ints, row_is, own) in
    let h : to_z w64 (of_z w64 height) ≡ height = omega (arith, ints, height_is, low, order, top) in
    let fits = rows_fit _ _ _ total _ more so_far new old (rw all at whole) in
    record {
      product = rw (r, h) refl;
      product_fits = fits.0;
      sum_fits = fits.1;
      sum = omega (arith, ints, more, so_far);
    }
