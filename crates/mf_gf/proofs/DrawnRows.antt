-- The pixels that rows make black.
use Rattle.std.proofs.Common.{◌≡◌, ℕ, zero, suc, ◌+◌, ◌≤◌, ◌==◌, ◌&&◌, ◌≢◌, Bool, true, false, ℤ, pos, ◌+ℤ◌, ◌-ℤ◌, ◌≤ℤ◌, List, [], ◌∷◌, ◌++◌}
use Rattle.std.proofs.Common.{Option, None, Some, refl, sym, subst, ap, ◌∙◌, append_assoc, ne_eqb, le-leb, arith}
use Rattle.std.specs.Prelude.{nat_le}
use Rattle.std.specs.List.{All, flat_map}
use Rattle.std.specs.Ordering.{int_eq}
use Rattle.std.proofs.lemmas.Bool.{cond_both, and_parts, leb-true, eqb-true, lt-leb}
use Rattle.std.proofs.lemmas.Bool.Decides.{Decides-int_eq, not_from_Decides}
use Rattle.std.proofs.lemmas.Int.{ints}
use Rattle.byteorder.specs.Numbers.{big_number-reads_back}
use Rattle.mf_geom.specs.Coordinates.{least_coordinate, greatest_coordinate, last_in_field, field_size}
use Rattle.mf_geom.specs.Field.{IsColumnOrRow}
use Rattle.mf_rows.specs.declared.run.Run.{Run}
use Rattle.mf_rows.specs.BlackRows.{row_runs}
use Rattle.mf_rows.specs.Dots.{Dot, start_of_field, weight_at}
use Rattle.mf_rows.specs.Runs.{continues, dots_of, equal_dots, run_from, runs_of, with_dot}
use Rattle.mf_rows.specs.Weights.{picture_of, row_of, rows_of}
use Rattle.mf_rows.proofs.DotsLemmas.{dots_from-lawful, weight_at-dot}
use Rattle.mf_rows.proofs.RunsLemmas.{Decides-continues, dots_of-runs_of}
use Rattle.mf_rows.proofs.StretchBounds.{holds_at_weight}
use Rattle.mf_rows.proofs.WeightsLemmas.{picture_of-from_weights}
use Rattle.mf_gf.specs.Boxes.{box_of_pixels}
use Rattle.mf_gf.specs.Format as gf
use Rattle.mf_gf.specs.Painting.{Machine, Paint, Skip, NewRow, pixels_in, read_stroke}
use Rattle.mf_gf.specs.Pixels.{IsPixelSet}
use Rattle.mf_gf.specs.Spelling.{blank_after, distance, lengths, new_row, paint, pixels_text, row_lengths, row_start, row_text, rows_text, skip}
use Rattle.mf_gf.proofs.BoxOfDots.{IsTop, box_round_dots}
use Rattle.mf_gf.proofs.ReadBack.{Draws, draws_eoc, draws_first, writes_paint}

-- ---- black runs of a row

-- a run of black pixels of the field is in row y, at column x or right of it
record IsAhead (y x : ℤ) (r : Run) : Type 0 where
  row : r.y ≡ y
  weight : r.weight ≡ pos 1
  some : 1 ≤ r.len
  left : least_coordinate ≤ℤ x
  start : x ≤ℤ r.x
  end : (r.x +ℤ pos r.len) ≤ℤ greatest_coordinate
  in_field : IsColumnOrRow y

-- the first of these runs is so, and each other at the end of the one before it or right of it
abbrev AreAhead : ℤ → ℤ → List Run → Type 0
AreAhead y x [] = Unit {0}
AreAhead y x (r ∷ rs) = IsAhead y x r × AreAhead y (r.x +ℤ pos r.len) rs

ahead_with_dot : (y x : ℤ) (d : Dot) (rs : List Run) → IsAhead y x (run_from d 0) → AreAhead y (d.x +ℤ pos 1) rs → AreAhead y x (with_dot d rs)
unfolding with_dot run_from
ahead_with_dot y x d [] first others = (first, tt)
ahead_with_dot y x d (r ∷ rs) first others =
    cond_both (continues d r) (run_from d r.len ∷ rs) (run_from d 0 ∷ r ∷ rs) (AreAhead y x)
    (λ yes.
    let joined = (Decides-continues d r).0 yes in
    (omega (arith, ints, first, joined, others.0), subst (λ u. AreAhead y u rs) (omega (arith, ints, joined.column)) others.1))
    (λ no. (first, others))

-- in a row of black pixels from column `low` on
ahead_row : (f : ℤ → ℤ → ℤ) (y low x : ℤ) (n : ℕ) → ((u : ℤ) → x ≤ℤ u → f u y ≢ pos 0 → IsAhead y low (record { y = y; x = u; len = 1; weight = f u y }))
    → AreAhead y low (runs_of (row_of f y x n))
unfolding row_of runs_of run_from
ahead_row f y low x zero black = tt
ahead_row f y low x (suc n) black =
    cond_both (int_eq (f x y) (pos 0)) _ _ (λ es. AreAhead y low (runs_of es))
    (λ no. ahead_row f y low (x +ℤ pos 1) n (λ u right. black u (omega (arith, ints))))
    (λ yes.
    let first = black x (omega (arith, ints)) (not_from_Decides _ (Decides-int_eq (f x y) (pos 0)) yes) in
    ahead_with_dot y low (record { y = y; x = x; weight = f x y }) _ first
    (ahead_row f y (x +ℤ pos 1) (x +ℤ pos 1) n (λ u right some. omega (arith, ints, first, black u (omega (arith, ints)) some))))

-- ---- a row

-- the machine in black or in white
abbrev machine : Bool → ℤ → ℤ → ℤ → Machine
machine black left row column = record { row = row; column = column; left = left; is_black = black }

top_of_run : (row y x w : ℤ) (n : ℕ) (es ds : List Dot) → 1 ≤ n → IsTop row (equal_dots y x w n ++ es ++ ds) → row ≡ y
unfolding equal_dots
top_of_run row y x w zero es ds some top = absurd (omega arith)
top_of_run row y x w (suc n) es ds some top = sym top

module _ (left : ℤ) where
  -- while it is black, the machine paints a run
  draws_run : (row column y x : ℤ) (r : Run) (rs : List Run) (rest : List ℕ) (ds : List Dot) → IsAhead y x r → row ≡ y → column ≡ r.x
      → Draws (machine false left y (r.x +ℤ pos r.len)) (flat_map paint (lengths (r.x +ℤ pos r.len) rs) ++ rest) (flat_map dots_of rs ++ ds)
      → Draws (machine true left row column) (flat_map paint (r.len ∷ lengths (r.x +ℤ pos r.len) rs) ++ rest) (flat_map dots_of (r ∷ rs) ++ ds)
  unfolding dots_of
  draws_run row column y x r rs rest ds ahead here there others =
      rw (append_assoc (paint r.len) _ rest, append_assoc (dots_of r) (flat_map dots_of rs) ds, here, there, ahead.row, ahead.weight)
      (draws_first (machine true left y r.x) (paint r.len) (Paint r.len) _ _ (writes_paint r.len (omega (arith, ints, ahead))) others)

  draws_runs : (y x : ℤ) (rs : List Run) (rest : List ℕ) (ds : List Dot) → AreAhead y x rs → ((column : ℤ) → Draws (machine false left y column) rest ds)
      → Draws (machine false left y x) (flat_map paint (lengths x rs) ++ rest) (flat_map dots_of rs ++ ds)
  unfolding lengths
  draws_runs y x [] rest ds ahead next = next x
  draws_runs y x (r ∷ rs) rest ds ahead next =
      let n = distance r.x x in
      rw (append_assoc (paint n) (flat_map paint (r.len ∷ lengths (r.x +ℤ pos r.len) rs)) rest)
      (draws_first (machine false left y x) (paint n) (Paint n) _ _ (writes_paint n (omega (arith, ints, ahead.0)))
      (draws_run y (x +ℤ pos n) y x r rs rest ds ahead.0 refl (omega (arith, ints, ahead.0))
      (draws_runs y (r.x +ℤ pos r.len) rs rest ds ahead.1 next)))

  -- where the machine is, in white, before row y and those below it, which have these pixels: in the black row above, or else at the left end
  -- of the first row that has some
  abbrev Stands : Option ℕ → ℤ → ℤ → ℤ → List Dot → Type 0
  Stands None row column y ds = IsTop row ds × (column ≡ left)
  Stands (Some blank) row column y ds = (row ≡ y +ℤ pos (suc blank)) × (row ≤ℤ last_in_field)

  draws_start : (row column y : ℤ) (blank : Option ℕ) (r : Run) (rest : List ℕ) (ds : List Dot) → IsAhead y left r → (IsTop row ds → row ≡ y)
      → Stands blank row column y ds → ((row column : ℤ) → row ≡ y → column ≡ r.x → Draws (machine true left row column) rest ds)
      → Draws (machine false left row column) (row_start blank (distance r.x left) ++ rest) ds
  unfolding skip read_stroke
  draws_start row column y None r rest ds ahead first stands black =
      let n = distance r.x left in
      draws_first (machine false left row column) (paint n) (Paint n) rest ds (writes_paint n (omega (arith, ints, ahead)))
      (black row (column +ℤ pos n) (first stands.0) (omega (arith, ints, ahead, stands.1)))
  draws_start row column y (Some blank) r rest ds ahead first stands black =
      let n = distance r.x left in
      let there : left +ℤ pos n ≡ r.x = omega (arith, ints, ahead) in
      cond_both (blank == 0 && nat_le n gf.most_new_row) _ _ (λ bytes. Draws (machine false left row column) (bytes ++ rest) ds)
      (λ yes.
      draws_first (machine false left row column) (new_row n) (NewRow n) rest ds (grind (arith, ints, and_parts, leb-true, lt-leb, ne_eqb, le-leb))
      (black (row -ℤ pos 1) (left +ℤ pos n) (grind (arith, ints, and_parts, eqb-true)) there))
      (λ no.
      rw (append_assoc (skip blank) (paint n) rest)
      (draws_first (machine false left row column) (skip blank) (Skip blank) _ ds (grind (arith, ints, cond_both, eqb-true, big_number-reads_back))
      (draws_first (machine false left (row -ℤ pos (blank + 1)) left) (paint n) (Paint n) rest ds (writes_paint n (omega (arith, ints, ahead)))
      (black (row -ℤ pos (blank + 1)) (left +ℤ pos n) (omega (arith, ints, stands.0)) there))))

  draws_row : (row column y : ℤ) (blank : Option ℕ) (rs : List Run) (rest : List ℕ) (ds : List Dot) → AreAhead y left rs
      → Stands blank row column y (flat_map dots_of rs ++ ds)
      → ((row column : ℤ) → Stands (blank_after blank (lengths left rs)) row column (y -ℤ pos 1) ds → Draws (machine false left row column) rest ds)
      → Draws (machine false left row column) (row_text blank (lengths left rs) ++ rest) (flat_map dots_of rs ++ ds)
  unfolding lengths row_text blank_after dots_of
  draws_row row column y None [] rest ds ahead stands next = next row column stands
  draws_row row column y (Some blank) [] rest ds ahead stands next = next row column (omega (arith, ints, stands.0), stands.1)
  draws_row row column y blank (r ∷ rs) rest ds ahead stands next =
      let end = r.x +ℤ pos r.len in
      let start = row_start blank (distance r.x left) in
      let others = draws_runs y end rs rest ds ahead.1 (λ column. next y column (omega (arith, ints), ahead.0.in_field.greatest)) in
      let runs = λ (row column : ℤ) (here : row ≡ y) (there : column ≡ r.x). draws_run row column y left r rs rest ds ahead.0 here there others in
      rw (append_assoc start (flat_map paint (r.len ∷ lengths end rs)) rest)
      (draws_start row column y blank r _ _ ahead.0 (λ top. top_of_run row r.y r.x r.weight r.len _ ds ahead.0.some top ∙ ahead.0.row) stands runs)

  -- ---- rows

  draws_rows : (f : ℤ → ℤ → ℤ) (row column y : ℤ) (n : ℕ) (blank : Option ℕ) → ((v : ℤ) → AreAhead v left (row_runs f v least_coordinate))
      → Stands blank row column y (rows_of f y n)
      → Draws (machine false left row column) (rows_text (row_lengths left f) y n blank ++ gf.eoc ∷ []) (rows_of f y n)
  unfolding rows_text rows_of row_runs
  draws_rows f row column y zero blank ahead stands = draws_eoc (machine false left row column)
  draws_rows f row column y (suc n) blank ahead stands =
      let es = row_of f y least_coordinate field_size in
      let ds = rows_of f (y -ℤ pos 1) n in
      let here = row_lengths left f y in
      let below = rows_text (row_lengths left f) (y -ℤ pos 1) n (blank_after blank here) ++ gf.eoc ∷ [] in
      let next = λ (row column : ℤ). draws_rows f row column (y -ℤ pos 1) n (blank_after blank here) ahead in
      rw (append_assoc (row_text blank here) _ (gf.eoc ∷ []))
      (subst (λ dots. Stands blank row column y (dots ++ ds) → Draws (machine false left row column) (row_text blank here ++ below) (dots ++ ds))
      (dots_of-runs_of es) (λ stands. draws_row row column y blank (row_runs f y least_coordinate) below ds (ahead y) stands next) stands)

-- ---- the pixels of a character

pub pixels_in-rows : (ds : List Dot) → IsPixelSet ds → pixels_in (box_of_pixels ds) (pixels_text (box_of_pixels ds).min_m ds ++ gf.eoc ∷ []) ≡ Some ds
unfolding picture_of row_runs pixels_text
pixels_in-rows ds set =
    let b = box_of_pixels ds in
    let f = weight_at ds in
    let inside = box_round_dots ds set.picture in
    let all = picture_of-from_weights ds f set.picture (λ x y inside. refl) in
    let pixel = λ (x y : ℤ). IsAhead y b.min_m (record { y = y; x = x; len = 1; weight = f x y }) in
    let black : All (λ d. pixel d.x d.y) ds = λ k d lt.
    let dot = dots_from-lawful start_of_field ds set.picture.dots k d lt in
    let weight = weight_at-dot start_of_field ds set.picture.dots k d lt in
    omega (arith, ints, dot.in_field, weight, set.ones k d lt, inside.left, inside.columns k d lt) in
    let ahead = λ (v : ℤ). ahead_row f v b.min_m least_coordinate field_size (λ u right some. holds_at_weight pixel ds u v black some) in
    draws_rows b.min_m f b.max_n b.min_m last_in_field field_size None ahead (subst (IsTop b.max_n) all inside.top, refl) _ (omega arith) ∙ ap Some (sym all)
