-- The pixels of shown rows, one by one.
use Rattle.std.proofs.Common.{◌≡◌, ℕ, zero, suc, ◌+◌, ◌*◌, ◌<◌, ℤ, pos, ◌+ℤ◌, ◌-ℤ◌, List, ◌++◌, get_or, length, ap, refl, ◌∙◌, arith, length-append}
use native.Mathlib.Nat.{suc-mul}
use lib.Seq.{get_or-append-add}
use Rattle.std.proofs.lemmas.Int.{ints}
use Rattle.std.proofs.lemmas.List.{get_or_append_left}
use Rattle.mf_rows.specs.declared.bounds.Box4.{Box4}
use Rattle.mf_text_show.specs.Grid.{shown_box, shown_line, shown_row, shown_rows}
use Rattle.mf_rows.specs.Boxes.{extent}

row_length : (f : ℤ → ℕ) (x : ℤ) (n : ℕ) → length (shown_row f x n) ≡ n
unfolding shown_row
row_length f x zero = refl
row_length f x (suc n) = omega (arith, row_length f (x +ℤ pos 1) n)

row_at : (f : ℤ → ℕ) (x : ℤ) (n i : ℕ) → i < n → get_or (shown_row f x n) i 0 ≡ f (x +ℤ pos i)
unfolding shown_row
row_at f x zero i inside = absurd (omega (arith, inside))
row_at f x (suc n) zero inside = let here : x ≡ x +ℤ pos 0 = omega (arith, ints) in ap f here
row_at f x (suc n) (suc i) inside = grind (arith, ints, row_at f (x +ℤ pos 1) n i (omega (arith, inside)))

-- lines of s numbers each
module _ (line : ℤ → List ℕ) (s : ℕ) (whole : (y : ℤ) → length (line y) ≡ s) where
  -- number i of line j
  at_line : (y : ℤ) (n j i : ℕ) → j < n → i < s → get_or (shown_rows line y n) (j * s + i) 0 ≡ get_or (line (y -ℤ pos j)) i 0
  unfolding shown_rows
  at_line y zero j i row column = absurd (omega (arith, row))
  at_line y (suc n) zero i row column = grind (arith, ints, get_or_append_left)
  at_line y (suc n) (suc j) i row column =
      let after_first : suc j * s + i ≡ length (line y) + (j * s + i) = omega (arith, suc-mul j s, whole y) in
      let below : (y -ℤ pos 1) -ℤ pos j ≡ y -ℤ pos (suc j) = omega (arith, ints) in
      ap (λ k. get_or (line y ++ shown_rows line (y -ℤ pos 1) n) k 0) after_first
      ∙ get_or-append-add (line y) (shown_rows line (y -ℤ pos 1) n) (j * s + i) 0
      ∙ at_line (y -ℤ pos 1) n j i (omega (arith, row)) column
      ∙ ap (λ v. get_or (line v) i 0) below

  lines_length : (y : ℤ) (n : ℕ) → length (shown_rows line y n) ≡ n * s
  unfolding shown_rows
  lines_length y zero = omega arith
  lines_length y (suc n) =
      omega (arith, suc-mul n s, length-append (line y) (shown_rows line (y -ℤ pos 1) n), whole y, lines_length (y -ℤ pos 1) n)

-- the rows of a box, where s numbers are a row and its end
module _ (f : ℤ → ℤ → ℕ) (end : List ℕ) (b : Box4) (s : ℕ) (whole : s ≡ extent b.min_x b.max_x + length end) where
  abbrev row : ℤ → List ℕ
  row y = shown_row (f y) b.min_x (extent b.min_x b.max_x)

  row_size : (y : ℤ) → length (row y) ≡ extent b.min_x b.max_x
  row_size y = row_length (f y) b.min_x (extent b.min_x b.max_x)

  line_size : (y : ℤ) → length (shown_line f end b y) ≡ s
  line_size y = omega (arith, whole, length-append (row y) end, row_size y)

  pub pixel_at : (i j : ℕ) → i < extent b.min_x b.max_x → j < extent b.min_y b.max_y
      → get_or (shown_box f end b) (j * s + i) 0 ≡ f (b.max_y -ℤ pos j) (b.min_x +ℤ pos i)
  pixel_at i j column inside = grind (arith, ints, at_line, line_size, get_or_append_left, row_size, row_at)

  pub end_at : (j : ℕ) → j < extent b.min_y b.max_y → extent b.min_x b.max_x < s
      → get_or (shown_box f end b) (j * s + extent b.min_x b.max_x) 0 ≡ get_or end 0 0
  end_at j inside some =
      let y = b.max_y -ℤ pos j in
      let last : extent b.min_x b.max_x ≡ length (row y) + 0 = omega (arith, row_size y) in
      at_line (shown_line f end b) s line_size b.max_y (extent b.min_y b.max_y) j (extent b.min_x b.max_x) inside some
      ∙ ap (λ k. get_or (row y ++ end) k 0) last ∙ get_or-append-add (row y) end 0 0

  pub box_length : length (shown_box f end b) ≡ extent b.min_y b.max_y * s
  box_length = lines_length (shown_line f end b) s line_size b.max_y (extent b.min_y b.max_y)
