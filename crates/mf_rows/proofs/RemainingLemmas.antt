-- The pixels that a walk has left, as it passes pixels of one weight, and blank rows.
use Rattle.std.proofs.Common.{◌≡◌, ◌≢◌, false, ℕ, zero, suc, ◌+◌, ◌≤◌, ℤ, pos, ◌+ℤ◌, ◌-ℤ◌, ◌≤ℤ◌, ◌<ℤ◌, List, [], ◌∷◌, ◌++◌, drop, refl, sym, ap, ◌∙◌, subst, if◌then◌else◌, arith}
use Rattle.std.specs.Int.RustNames.{unsigned_abs}
use Rattle.std.specs.Ordering.{int_eq}
use Rattle.std.proofs.lemmas.Bool.{cond_both}
use Rattle.std.proofs.lemmas.Int.{ints, by_lt_z}
use Rattle.std.proofs.lemmas.List.{append_assoc}
use Rattle.mf_geom.specs.Coordinates.{least_coordinate, greatest_coordinate, last_in_field, field_size}
use Rattle.mf_rows.specs.declared.run.Run.{Run}
use Rattle.mf_rows.specs.Reading.{AreBlankBelow}
use Rattle.mf_rows.specs.Dots.{Dot, weight_at}
use Rattle.mf_rows.specs.Remaining.{dots_from}
use Rattle.mf_rows.specs.Runs.{equal_dots, runs_of, run_from, AreMaximal}
use Rattle.mf_rows.specs.Weights.{row_of, rows_of, picture_of}
use Rattle.mf_rows.proofs.DotsLemmas.{weight_at-here}
use Rattle.mf_rows.proofs.MaximalRuns.{runs_of-equal_dots}
use Rattle.mf_rows.proofs.RunsLemmas.{runs_of-first, more_after, maximal_runs_of}
use Rattle.mf_rows.proofs.WeightsLemmas.{weight_at-row}

-- ---- columns of one weight

-- columns of weight 0 give no dots, those of another weight equal ones
row_of-same : (f : ℤ → ℤ → ℤ) (y x w : ℤ) (k n : ℕ) → ((z : ℤ) → x ≤ℤ z → z <ℤ (x +ℤ pos k) → f z y ≡ w)
    → row_of f y x (k + n) ≡ (if int_eq w (pos 0) then [] else equal_dots y x w k) ++ row_of f y (x +ℤ pos k) n
unfolding row_of equal_dots
row_of-same f y x w zero n same = grind (arith, ints, cond_both)
row_of-same f y x w (suc k) n same =
    let more : suc k + n ≡ suc (k + n) = omega arith in
    let here : x +ℤ pos 1 +ℤ pos k ≡ x +ℤ pos (suc k) = omega (arith, ints) in
    let others = row_of-same f y (x +ℤ pos 1) w k n (λ z left right. same z (omega (arith, ints)) (omega (arith, ints))) in
    rw (more, same x (omega (arith, ints)) (omega (arith, ints)), ← here) (grind (arith, cond_both, others))

-- a run before dots that do not continue it cannot be longer
maximal_before : (r : Run) (ds : List Dot) → weight_at ds (r.x +ℤ pos r.len) r.y ≢ r.weight → AreMaximal (r ∷ runs_of ds)
unfolding runs_of run_from
maximal_before r [] apart = tt
maximal_before r (d ∷ ds) apart =
    let others : AreMaximal (run_from d (more_after d ds) ∷ runs_of (drop (more_after d ds) ds)) = subst AreMaximal (runs_of-first d ds) (maximal_runs_of (d ∷ ds)) in
    rw (runs_of-first d ds)
    (λ followed. apart (weight_at-here d ds _ _ (record { column = sym followed.column; row = sym followed.row }) ∙ sym followed.weight), others)

-- ---- blank rows

-- a blank row gives none
blank_row : (f : ℤ → ℤ → ℤ) (y : ℤ) → ((x : ℤ) → least_coordinate ≤ℤ x → x <ℤ greatest_coordinate → f x y ≡ pos 0) → row_of f y least_coordinate field_size ≡ []
unfolding row_of
blank_row f y blank =
    row_of-same f y least_coordinate (pos 0) field_size 0 (λ z left right. blank z left (omega (arith, ints)))

rows_of-blank : (f : ℤ → ℤ → ℤ) (y : ℤ) (k n : ℕ)
    → ((x v : ℤ) → least_coordinate ≤ℤ x → x <ℤ greatest_coordinate → (y -ℤ pos k) <ℤ v → v ≤ℤ y → f x v ≡ pos 0)
    → rows_of f y (k + n) ≡ rows_of f (y -ℤ pos k) n
unfolding rows_of
rows_of-blank f y zero n blank = grind (arith, ints)
rows_of-blank f y (suc k) n blank =
    let more : suc k + n ≡ suc (k + n) = omega arith in
    let here : y -ℤ pos 1 -ℤ pos k ≡ y -ℤ pos (suc k) = omega (arith, ints) in
    rw (more, blank_row f y (λ x left right. blank x y left right (omega (arith, ints)) (omega (arith, ints))), ← here)
    (rows_of-blank f (y -ℤ pos 1) k n (λ x v left right low high. blank x v left right (omega (arith, ints)) (omega (arith, ints))))

-- ---- what is left

-- the number of columns to the end of the row, and of rows to the bottom of the field
columns_on : (x e : ℤ) → x ≤ℤ e → e ≤ℤ greatest_coordinate
    → unsigned_abs (greatest_coordinate -ℤ x) ≡ unsigned_abs (e -ℤ x) + unsigned_abs (greatest_coordinate -ℤ e)
columns_on x e order within = omega (arith, ints)

-- from the first pixel of a row on, the row and those below it
dots_from-row : (f : ℤ → ℤ → ℤ) (y : ℤ) (n : ℕ) → y +ℤ pos 1 -ℤ least_coordinate ≡ pos n → 1 ≤ n → dots_from f least_coordinate y ≡ rows_of f y n
unfolding dots_from rows_of
dots_from-row f y zero rows some = absurd (omega arith)
dots_from-row f y (suc n) rows some =
    let all : unsigned_abs (y -ℤ least_coordinate) ≡ n = omega (arith, ints) in
    ap (λ m. row_of f y least_coordinate field_size ++ rows_of f (y -ℤ pos 1) m) all

-- at the first pixel of the field, all of the picture
pub dots_from-start : (f : ℤ → ℤ → ℤ) → dots_from f least_coordinate last_in_field ≡ picture_of f
unfolding picture_of
dots_from-start f = dots_from-row f last_in_field field_size (omega (arith, ints)) (omega arith)

-- after pixels of weight 0, the same in the row
pub row_of-blank : (f : ℤ → ℤ → ℤ) (x e y : ℤ) → x ≤ℤ e → e ≤ℤ greatest_coordinate → ((z : ℤ) → x ≤ℤ z → z <ℤ e → f z y ≡ pos 0)
    → row_of f y x (unsigned_abs (greatest_coordinate -ℤ x)) ≡ row_of f y e (unsigned_abs (greatest_coordinate -ℤ e))
row_of-blank f x e y order within blank =
    let end : x +ℤ pos (unsigned_abs (e -ℤ x)) ≡ e = omega (arith, ints) in
    let passed = row_of-same f y x (pos 0) (unsigned_abs (e -ℤ x)) (unsigned_abs (greatest_coordinate -ℤ e)) (λ z left right. blank z left (omega (arith, ints))) in
    rw (columns_on x e order within) (rw end at passed)

-- and with the rows below it
pub dots_from-blank : (f : ℤ → ℤ → ℤ) (x e y : ℤ) → x ≤ℤ e → e ≤ℤ greatest_coordinate → ((z : ℤ) → x ≤ℤ z → z <ℤ e → f z y ≡ pos 0)
    → dots_from f x y ≡ dots_from f e y
unfolding dots_from
dots_from-blank f x e y order within blank = ap (λ ds. ds ++ rows_of f (y -ℤ pos 1) (unsigned_abs (y -ℤ least_coordinate))) (row_of-blank f x e y order within blank)

-- a row before dots of other rows
module _ (f : ℤ → ℤ → ℤ) (y : ℤ) (below : List Dot) (none : (x : ℤ) → weight_at below x y ≡ pos 0) where
  -- the weight of the next pixel
  weight_at-next : (x w : ℤ) → w ≢ pos 0 → x ≤ℤ greatest_coordinate → (x <ℤ greatest_coordinate → f x y ≢ w)
      → weight_at (row_of f y x (unsigned_abs (greatest_coordinate -ℤ x)) ++ below) x y ≢ w
  unfolding row_of
  weight_at-next x w nonzero within apart = λ same.
      let n = unsigned_abs (greatest_coordinate -ℤ x) in
      by_lt_z x greatest_coordinate
      (λ left. apart left (sym (weight_at-row f y x n below x (none x) (omega (arith, ints)) (omega (arith, ints))) ∙ same))
      (λ end.
      let over : n ≡ 0 = omega (arith, ints) in
      nonzero (sym same ∙ subst (λ m. weight_at (row_of f y x m ++ below) x y ≡ pos 0) (sym over) (none x)))

  -- after a run, the other runs
  pub row_of-run : (x e w : ℤ) → w ≢ pos 0 → x <ℤ e → e ≤ℤ greatest_coordinate → ((z : ℤ) → x ≤ℤ z → z <ℤ e → f z y ≡ w)
      → (e <ℤ greatest_coordinate → f e y ≢ w)
      → runs_of (row_of f y x (unsigned_abs (greatest_coordinate -ℤ x)) ++ below)
      ≡ record { y = y; x = x; len = unsigned_abs (e -ℤ x); weight = w } ∷ runs_of (row_of f y e (unsigned_abs (greatest_coordinate -ℤ e)) ++ below)
  row_of-run x e w nonzero order within same apart =
      let n = unsigned_abs (e -ℤ x) in
      let m = unsigned_abs (greatest_coordinate -ℤ e) in
      let end : x +ℤ pos n ≡ e = omega (arith, ints) in
      let own : int_eq w (pos 0) ≡ false = grind (arith, ints) in
      let passed = row_of-same f y x w n m (λ z left right. same z left (omega (arith, ints))) in
      let first = runs_of-equal_dots y x w n (row_of f y e m ++ below) (omega (arith, ints)) (maximal_before _ _ (rw end (weight_at-next e w nonzero within apart))) in
      rw (columns_on x e (omega (arith, ints)) within, rw (own, end) at passed, append_assoc) first

-- from the end of a row, the rows below it, without those that are blank
pub dots_from-below : {f : ℤ → ℤ → ℤ} {x bottom y : ℤ} → x ≡ greatest_coordinate → AreBlankBelow f bottom y
    → dots_from f x y ≡ dots_from f greatest_coordinate bottom
unfolding dots_from row_of
dots_from-below {f} {x} {bottom} {y} over rows =
    let k = unsigned_abs (y -ℤ bottom) in
    let n = unsigned_abs (bottom -ℤ least_coordinate) in
    let all : unsigned_abs (y -ℤ least_coordinate) ≡ k + n = omega (arith, ints, rows.low, rows.order) in
    let end : y -ℤ pos 1 -ℤ pos k ≡ bottom -ℤ pos 1 = omega (arith, ints, rows.order) in
    let passed = rows_of-blank f (y -ℤ pos 1) k n (λ x v left right low high. rows.blank x v left right (omega (arith, ints)) (omega (arith, ints))) in
    rw (over, all) (rw end at passed)

-- they begin at the first pixel of the next row
pub dots_from-next : (f : ℤ → ℤ → ℤ) (y : ℤ) → least_coordinate <ℤ y → dots_from f greatest_coordinate y ≡ dots_from f least_coordinate (y -ℤ pos 1)
unfolding dots_from row_of
dots_from-next f y some =
    sym (dots_from-row f (y -ℤ pos 1) (unsigned_abs (y -ℤ least_coordinate)) (omega (arith, ints)) (omega (arith, ints)))

-- and there are none below the lowest row
pub dots_from-end : (f : ℤ → ℤ → ℤ) → dots_from f greatest_coordinate least_coordinate ≡ []
unfolding dots_from row_of rows_of
dots_from-end f = refl
