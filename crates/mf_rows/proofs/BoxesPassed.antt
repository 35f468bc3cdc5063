-- The least box of the pixels that a walk has passed.
use Rattle.std.proofs.Common.{◌≡◌, Bool, true, false, ℤ, pos, ◌+ℤ◌, ◌-ℤ◌, ◌≤ℤ◌, ◌<ℤ◌, Option, None, Some, refl, sym, ap, ◌∙◌, arith}
use Rattle.std.specs.Int.{int_min}
use Rattle.std.proofs.lemmas.Bool.{cond-true, cond-false, false≢true, false_from_ne_true}
use Rattle.std.proofs.lemmas.Int.{ints, clamps, by_lt_z}
use Rattle.mf_geom.specs.Coordinates.{least_coordinate, greatest_coordinate}
use Rattle.mf_geom.specs.Field.{IsInField}
use Rattle.mf_rows_edges.specs.declared.edge.Edge.{Edge}
use Rattle.mf_rows_edges.specs.LawfulWeights.{IsLawfulWeight}
use Rattle.mf_rows_strips.specs.PartEdges.{AreEnds}
use Rattle.mf_rows_strips.specs.RowEdges.{weight_left, weights_of}
use Rattle.mf_rows.specs.declared.bounds.Box4.{Box4}
use Rattle.mf_rows.specs.declared.bounds.Pixels.{Pixels}
use Rattle.mf_rows.specs.declared.bounds.Pixels.TheVariants.{Nonzero, Black}
use Rattle.mf_rows.specs.declared.walk.Walk.{Walk}
use Rattle.mf_rows.specs.Bounds.{AreBounds, AreColumns, IsBoxRound, IsIn, among, from_row, is_among, with_box}
use Rattle.mf_rows.specs.Remaining.{HasPassed, HasPassedRow}
use Rattle.mf_rows.proofs.BoxesJoined.{either_min, either_max, within_first, within_second}
use Rattle.mf_rows.proofs.LeastBoxes.{same_bounds}
use Rattle.mf_rows.proofs.PassedPixels.{lawful_weight, left_of_field, outside, weight_here}
use Rattle.mf_rows.proofs.PicturePiles.{by_field}

by_in : {P : Type 0} (b : Box4) (x y : ℤ) → (IsIn b x y → P) → ((IsIn b x y → ⊥) → P) → P
by_in b x y inside outside = grind (arith, ints, by_lt_z)

-- the pixels at which g is true, and those of a box among which are two of its corners
module _ (g h : ℤ → ℤ → Bool) (b : Box4) (first : h b.min_x b.min_y ≡ true) (last : h b.max_x b.max_y ≡ true)
    (old : (x y : ℤ) → g x y ≡ true → h x y ≡ true) (others : (x y : ℤ) → h x y ≡ true → (IsIn b x y → ⊥) → g x y ≡ true) where
  grown : (bounds : Option Box4) → AreBounds g bounds → IsBoxRound h (with_box bounds b)
  grown None before = record {
    within = λ x y found. by_in b x y (λ inside. inside) (λ out. absurd (false≢true (sym (before x y) ∙ others x y found out)));
    left = (b.min_y, first);
    right = (b.max_y, last);
    bottom = (b.min_x, first);
    top = (b.max_x, last);
  }
  grown (Some a) before =
      let at_column = λ (x : ℤ). (y : ℤ) × (h x y ≡ true) in
      let at_row = λ (y : ℤ). (x : ℤ) × (h x y ≡ true) in
      record {
        within = λ x y found. by_in b x y (within_second a b x y) (λ out. within_first a b x y (before.within x y (others x y found out)));
        left = either_min at_column a.min_x b.min_x (before.left.0, old _ _ before.left.1) (b.min_y, first);
        right = either_max at_column a.max_x b.max_x (before.right.0, old _ _ before.right.1) (b.max_y, last);
        bottom = either_min at_row a.min_y b.min_y (before.bottom.0, old _ _ before.bottom.1) (b.min_x, first);
        top = either_max at_row a.max_y b.max_y (before.top.0, old _ _ before.top.1) (b.max_x, last);
      }

-- ---- rows

module _ (f : ℤ → ℤ → Bool) (inside : (x y : ℤ) → f x y ≡ true → IsInField x y) where
  at_or_above : (h x y : ℤ) → h ≤ℤ y → from_row h f x y ≡ f x y
  unfolding from_row
  at_or_above h x y le = cond-false _ false (f x y) (grind (arith, ints))

  below : (h x y : ℤ) → y <ℤ h → from_row h f x y ≡ false
  unfolding from_row
  below h x y lt = cond-true _ false (f x y) (grind (arith, ints))

  none : (x y : ℤ) → (IsInField x y → ⊥) → f x y ≡ false
  none x y out = false_from_ne_true (f x y) (λ found. out (inside x y found))

  pub none_at_start : AreBounds (from_row greatest_coordinate f) None
  none_at_start = λ x y. by_lt_z y greatest_coordinate (below _ x y)
      (λ le. at_or_above _ x y le ∙ none x y (λ within. omega (arith, ints, within.top)))

  pub all_rows : (bounds : Option Box4) → AreBounds (from_row least_coordinate f) bounds → AreBounds f bounds
  all_rows bounds = same_bounds _ _ bounds (λ x y. by_lt_z y least_coordinate
      (λ lt. below _ x y lt ∙ sym (none x y (λ within. omega (arith, ints, within.bottom)))) (at_or_above _ x y))

  module _ (bottom y first last : ℤ) (order : bottom ≤ℤ y) (rows : (x v : ℤ) → bottom ≤ℤ v → v ≤ℤ y → f x v ≡ f x y)
      (columns : AreColumns f y greatest_coordinate first last) where
    -- a pixel of these rows lies between the columns
    within : (u v : ℤ) → bottom ≤ℤ v → v ≤ℤ y → f u v ≡ true → (first ≤ℤ u) × (u ≤ℤ last)
    within u v low high found = columns.within u (omega (arith, ints, (inside u v found).right)) (sym (rows u v low high) ∙ found)

    pub blank_rows : greatest_coordinate ≤ℤ first → (bounds : Option Box4) → AreBounds (from_row (y +ℤ pos 1) f) bounds → AreBounds (from_row bottom f) bounds
    blank_rows over bounds = same_bounds _ _ bounds (λ u v. by_lt_z v bottom
        (λ lt. below _ u v (omega (arith, ints)) ∙ sym (below _ u v lt))
        (λ low. by_lt_z y v
        (λ above. at_or_above _ u v (omega (arith, ints)) ∙ sym (at_or_above _ u v low))
        (λ high. below _ u v (omega (arith, ints)) ∙ sym (at_or_above _ u v low ∙ false_from_ne_true (f u v)
        (λ found. omega (arith, ints, (within u v low high found).0, (inside u v found).right))))))

    pub more_rows : first <ℤ greatest_coordinate → (bounds : Option Box4) → AreBounds (from_row (y +ℤ pos 1) f) bounds
        → IsBoxRound (from_row bottom f) (with_box bounds (record { min_x = first; max_x = last; min_y = bottom; max_y = y }))
    more_rows some = grown (from_row (y +ℤ pos 1) f) (from_row bottom f) (record { min_x = first; max_x = last; min_y = bottom; max_y = y })
        (at_or_above _ first bottom (omega (arith, ints)) ∙ rows first bottom (omega (arith, ints)) order ∙ (columns.ends some).0)
        (at_or_above _ last y order ∙ (columns.ends some).1)
        (λ u v found. by_lt_z v (y +ℤ pos 1)
        (λ lt. absurd (false≢true (sym (below _ u v lt) ∙ found)))
        (λ above. at_or_above _ u v (omega (arith, ints)) ∙ sym (at_or_above _ u v above) ∙ found))
        (λ u v found out. by_lt_z v bottom
        (λ lt. absurd (false≢true (sym (below _ u v lt) ∙ found)))
        (λ low. by_lt_z y v
        (λ above. at_or_above _ u v (omega (arith, ints)) ∙ sym (at_or_above _ u v low) ∙ found)
        (λ high.
        let columns = within u v low high (sym (at_or_above _ u v low) ∙ found) in
        absurd (out (record { left = columns.0; right = columns.1; bottom = low; top = high })))))

-- ---- the pixels of a walk

zero_is_none : (p : Pixels) → is_among p (pos 0) ≡ false
zero_is_none Nonzero = refl
zero_is_none Black = refl

module _ (p : Pixels) (s : Walk) where
  -- a pixel that counts lies in the field
  pub in_field : (x y : ℤ) → among p (weights_of s.edges) x y ≡ true → IsInField x y
  unfolding among
  in_field x y found = by_field x y (λ inside. inside) (λ out. absurd (false≢true (sym (zero_is_none p) ∙ sym (ap (is_among p) (outside s.edges x y out)) ∙ found)))

  pub same_rows : (x v : ℤ) → s.bottom ≤ℤ v → v ≤ℤ s.y → among p (weights_of s.edges) x v ≡ among p (weights_of s.edges) x s.y
  unfolding among
  same_rows x v low high = ap (is_among p) (s.reading.rows.same x v low high)

  pub no_columns : (x : ℤ) → x <ℤ least_coordinate → AreColumns (among p (weights_of s.edges)) s.y x greatest_coordinate greatest_coordinate
  no_columns x start = record {
    within = λ z lt found. let left = (in_field z s.y found).left in absurd (omega (arith, ints));
    ends = λ lt. absurd (omega (arith, ints, lt));
  }

-- a row of which nothing was passed yet, whose first and last edge are known
module _ (s : Walk) (e f : Edge) (start : s.x <ℤ least_coordinate) (ends : AreEnds (weight_left s.edges) e f) where
  left_is : (z : ℤ) → weights_of s.edges z s.y ≡ weight_left s.edges z
  left_is z = by_lt_z z s.x
      (λ lt. left_of_field s.edges z s.y (omega (arith, ints)) ∙ sym (s.reading.before z (omega (arith, ints))))
      (λ le. omega (arith, ints, s.reading.after z le, weight_here s, left_of_field s.edges s.x s.y start))

  first_is : weights_of s.edges e.x s.y ≡ e.weight
  first_is = left_is e.x ∙ ends.begins

  last_is : weights_of s.edges (f.x -ℤ pos 1) s.y ≡ pos 0 -ℤ f.weight
  last_is = left_is (f.x -ℤ pos 1) ∙ ends.ends

  pub first_lawful : IsLawfulWeight e.weight
  first_lawful = rw first_is at (lawful_weight s.edges e.x s.y)

  pub last_lawful : IsLawfulWeight (pos 0 -ℤ f.weight)
  last_lawful = rw last_is at (lawful_weight s.edges (f.x -ℤ pos 1) s.y)

  module _ (p : Pixels) where
    none_at : (z : ℤ) → weight_left s.edges z ≡ pos 0 → among p (weights_of s.edges) z s.y ≡ true → ⊥
    unfolding among
    none_at z zero found = false≢true (sym (zero_is_none p) ∙ sym (ap (is_among p) (left_is z ∙ zero)) ∙ found)

    pub row_columns : is_among p e.weight ≡ true → is_among p (pos 0 -ℤ f.weight) ≡ true
        → AreColumns (among p (weights_of s.edges)) s.y greatest_coordinate e.x (f.x -ℤ pos 1)
    unfolding among
    row_columns first last = record {
      within = λ z _ found. (
        by_lt_z z e.x (λ lt. absurd (none_at z (ends.left z lt) found)) (λ le. le),
        by_lt_z z f.x (λ lt. omega (arith, ints)) (λ le. absurd (none_at z (ends.right z le) found)),
      );
      ends = λ _. (ap (is_among p) first_is ∙ first, ap (is_among p) last_is ∙ last);
    }

-- columns of one weight more, in the row of the walk r
module _ (p : Pixels) (r s t : Walk) (row : HasPassedRow r s) (passed : HasPassed s t) (first last : ℤ)
    (so_far : AreColumns (among p (weights_of r.edges)) r.y s.x first last) where
  here : (z : ℤ) → s.x ≤ℤ z → z <ℤ t.x → among p (weights_of r.edges) z r.y ≡ is_among p s.weight
  unfolding among
  here z left right = rw (← row.weights, ← row.row) (ap (is_among p) (passed.same z left right))

  pub columns_kept : is_among p s.weight ≡ false → AreColumns (among p (weights_of r.edges)) r.y t.x first last
  columns_kept is = record {
    within = λ z lt found. by_lt_z z s.x (λ before. so_far.within z before found)
        (λ after. absurd (false≢true (sym is ∙ sym (here z after lt) ∙ found)));
    ends = so_far.ends;
  }

  pub columns_grown : is_among p s.weight ≡ true → s.x <ℤ t.x → AreColumns (among p (weights_of r.edges)) r.y t.x (int_min first s.x) (t.x -ℤ pos 1)
  columns_grown is some = record {
    within = λ z lt found. by_lt_z z s.x
        (λ before. let columns = so_far.within z before found in grind (arith, ints, clamps))
        (λ after. grind (arith, ints, clamps));
    ends = λ lt. (
      either_min (λ z. z <ℤ greatest_coordinate → among p (weights_of r.edges) z r.y ≡ true) first s.x (λ lt. (so_far.ends lt).0)
          (λ _. here s.x (omega (arith, ints)) some ∙ is) lt,
      here (t.x -ℤ pos 1) (omega (arith, ints, some)) (omega (arith, ints)) ∙ is,
    );
  }
