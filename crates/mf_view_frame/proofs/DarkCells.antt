-- Dark cells have pixels of positive weight.
use Rattle.std.proofs.Common.{◌≡◌, ◌⊎◌, ⊎_elim, ◌≤◌, ◌&&◌, true, inl, inr, ℤ, pos, ◌+ℤ◌, ◌<ℤ◌, List, [], ◌∷◌, refl, arith}
use Rattle.std.specs.Ordering.{int_eq}
use Rattle.std.proofs.lemmas.Bool.{cases_Bool, false≢true, cond-false, cond_both, and_parts}
use Rattle.std.proofs.lemmas.Bool.Decides.{Decides-int_eq, Decides-ltb}
use Rattle.std.proofs.lemmas.Int.{ints}
use Rattle.mf_rows.specs.Dots.{Dot, AreDotsFrom, place, weight_at}
use Rattle.mf_rows.proofs.DotsLemmas.{weight_at-before, weight_at-elsewhere, weight_at-here}
use Rattle.mf_view_frame.specs.declared.shade.Shade.{Shade}
use Rattle.mf_view_frame.specs.Cells.{cell_of, cell_shade, darker, depth, is_dark, shade_of, HasPositivePixel}
use Rattle.mf_view_frame.proofs.Darkness.{by_dot, depth-darker, in_cell, shade-elsewhere, shade-here}

-- ---- shades

deep_from_dark : (a : Shade) → is_dark a ≡ true → 2 ≤ depth a
deep_from_dark a dark = (Decides-ltb 1 (depth a)).0 dark

dark_from_deep : (a : Shade) → 2 ≤ depth a → is_dark a ≡ true
dark_from_deep a deep = (Decides-ltb 1 (depth a)).1 deep

dark-left : (a b : Shade) → is_dark a ≡ true → is_dark (darker a b) ≡ true
dark-left a b dark = dark_from_deep (darker a b) (omega (arith, deep_from_dark a dark, depth-darker a b))

dark-right : (a b : Shade) → is_dark b ≡ true → is_dark (darker a b) ≡ true
dark-right a b dark = dark_from_deep (darker a b) (omega (arith, deep_from_dark b dark, depth-darker a b))

dark_either : (a b : Shade) → is_dark (darker a b) ≡ true → (is_dark a ≡ true) ⊎ (is_dark b ≡ true)
dark_either a b = grind (arith, ints, cond_both)

-- ---- cells

pub pixel_of_dark : (s low : ℤ) (ds : List Dot) (i j : ℤ) → AreDotsFrom low ds → is_dark (cell_shade s ds i j) ≡ true → HasPositivePixel s ds i j
unfolding cell_shade
pixel_of_dark s low [] i j dots dark = absurd (false≢true dark)
pixel_of_dark s low (d ∷ ds) i j dots dark =
    let others : is_dark (cell_shade s ds i j) ≡ true → HasPositivePixel s (d ∷ ds) i j =
    λ rest. grind (arith, ints, weight_at-before, weight_at-elsewhere, dots, pixel_of_dark s (place d.x d.y +ℤ pos 1) ds i j dots.2 rest) in
    elim (cases_Bool (int_eq (cell_of s d.x) i && int_eq (cell_of s d.y) j)) [
      | inl test ↦
          (let here = (in_cell s d.x d.y i j).0 test in
          ⊎_elim (λ own. record {
            x = d.x;
            y = d.y;
            column = here.0;
            row = here.1;
            positive = rw (weight_at-here d ds d.x d.y (record { column = refl; row = refl })) (grind (arith, ints, own));
          }) others (dark_either (shade_of d.weight) (cell_shade s ds i j) (rw (shade-here s d ds i j here.0 here.1) at dark)))
      | inr failed ↦ grind (arith, ints, shade-elsewhere, false≢true, in_cell)
    ]

dark_at : (s : ℤ) (ds : List Dot) (i j x y : ℤ) → cell_of s x ≡ i → cell_of s y ≡ j → pos 0 <ℤ weight_at ds x y → is_dark (cell_shade s ds i j) ≡ true
unfolding weight_at
dark_at s [] i j x y at_i at_j positive = absurd (omega (arith, ints))
dark_at s (d ∷ ds) i j x y at_i at_j positive =
    elim (cases_Bool (int_eq d.x x && int_eq d.y y)) [
      | inl test ↦
          (let parts = and_parts (int_eq d.x x) (int_eq d.y y) test in
          let column = (Decides-int_eq d.x x).0 parts.0 in
          let row = (Decides-int_eq d.y y).0 parts.1 in
          grind (arith, ints, weight_at-here, shade-here, dark-left))
      | inr failed ↦
          (let rest = dark_at s ds i j x y at_i at_j (rw (cond-false _ d.weight (weight_at ds x y) failed) at positive) in
          by_dot s d ds i j (λ shade. is_dark shade ≡ true) (dark-right (shade_of d.weight) (cell_shade s ds i j) rest) rest)
    ]

pub dark_from_pixel : (s : ℤ) (ds : List Dot) (i j : ℤ) → HasPositivePixel s ds i j → is_dark (cell_shade s ds i j) ≡ true
dark_from_pixel s ds i j pixel = dark_at s ds i j pixel.x pixel.y pixel.column pixel.row pixel.positive
