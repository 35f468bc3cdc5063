-- Rows of pixels, written row by row and pixel by pixel.
use Rattle.std.proofs.Common.{◌≡◌, ℕ, suc, ℤ, pos, ◌+ℤ◌, ◌-ℤ◌, ◌≤ℤ◌, List, [], ◌∷◌, ◌++◌, refl, ap, append_assoc, arith}
use Rattle.std.proofs.lemmas.Int.{ints}
use Rattle.mf_rows.specs.declared.bounds.Box4.{Box4}
use Rattle.mf_rows.specs.Boxes.{IsBoxOfField, extent}
use Rattle.mf_text_show.specs.Grid.{shown_box, shown_line, shown_row, shown_rows}
use Rattle.mf_text_show.proofs.Pieces.{piece_more, pieces_all}

pub extent-next : (x last : ℤ) → x ≤ℤ last → extent x last ≡ suc (extent (x +ℤ pos 1) last)
extent-next x last le = omega (arith, ints)

pub extent-none : (x last : ℤ) → x ≡ last +ℤ pos 1 → extent x last ≡ 0
extent-none x last over = omega (arith, ints)

pub extent-lower : (first y : ℤ) → first ≤ℤ y → extent first y ≡ suc (extent first (y -ℤ pos 1))
extent-lower first y le = omega (arith, ints)

-- ---- a row

-- a row that is shown after an old text: the number of each column, and from which column to which
pub record ShownRow : Type 0 where
  pub show : ℤ → ℕ
  pub first : ℤ
  pub last : ℤ
  pub old : List ℕ

-- what shows the row from a column on
abbrev row_from : ShownRow → ℤ → List ℕ
row_from r x = shown_row r.show x (extent x r.last)

-- the text so far is the old text and that of the row up to the column before x; the columns from x on are missing
pub record IsRowSoFar (r : ShownRow) (x : ℤ) (text : List ℕ) : Type 0 where
  pub left : r.first ≤ℤ x
  pub right : x ≤ℤ (r.last +ℤ pos 1)
  pub row : text ++ row_from r x ≡ r.old ++ row_from r r.first

pub row_none : (r : ShownRow) → r.first ≤ℤ r.last → IsRowSoFar r r.first r.old
row_none r columns = record { left = omega (arith, ints); right = omega (arith, ints); row = refl }

pub row_more : {r : ShownRow} {x : ℤ} {text new : List ℕ} {k : ℕ} → x ≤ℤ r.last → new ≡ text ++ k ∷ [] → k ≡ r.show x
    → IsRowSoFar r x text → IsRowSoFar r (x +ℤ pos 1) new
unfolding shown_row
row_more {r} {x} {text} {new} column pushed shown so_far = record {
  left = omega (arith, ints, so_far.left);
  right = omega (arith, ints);
  row = piece_more text (r.show x ∷ []) _ _ new _ (rw shown at pushed) (ap (shown_row r.show x) (extent-next x r.last column)) so_far.row;
}

pub row_all : (r : ShownRow) (x : ℤ) (text : List ℕ) → x ≡ r.last +ℤ pos 1 → IsRowSoFar r x text → text ≡ r.old ++ row_from r r.first
unfolding shown_row
row_all r x text over so_far = pieces_all text _ _ (ap (shown_row r.show x) (extent-none x r.last over)) so_far.row

-- ---- a box

-- a box that is shown after a head: how, and what ends each row
pub record ShownBox : Type 0 where
  pub show : ℤ → ℤ → ℕ
  pub end : List ℕ
  pub bounds : Box4
  pub head : List ℕ

-- what shows the rows of the box from row y down
abbrev rows_from : ShownBox → ℤ → List ℕ
rows_from s y = shown_rows (shown_line s.show s.end s.bounds) y (extent s.bounds.min_y y)

-- the text so far is the head and the rows of the box from its top row down to the one above row y; those from y down are missing
pub record IsBoxSoFar (s : ShownBox) (y : ℤ) (text : List ℕ) : Type 0 where
  pub bottom : s.bounds.min_y ≤ℤ (y +ℤ pos 1)
  pub top : y ≤ℤ s.bounds.max_y
  pub rows : text ++ rows_from s y ≡ s.head ++ shown_box s.show s.end s.bounds

pub box_none : (s : ShownBox) (y : ℤ) (text : List ℕ) → IsBoxOfField s.bounds → y ≡ s.bounds.max_y → text ≡ s.head → IsBoxSoFar s y text
box_none s y text box start begun = record { bottom = omega (arith, ints, box.rows); top = omega (arith, ints); rows = rw (start, begun) refl }

pub box_more : {s : ShownBox} {y : ℤ} {text new : List ℕ} → s.bounds.min_y ≤ℤ y
    → new ≡ text ++ shown_row (s.show y) s.bounds.min_x (extent s.bounds.min_x s.bounds.max_x) ++ s.end
    → IsBoxSoFar s y text → IsBoxSoFar s (y -ℤ pos 1) new
unfolding shown_rows
box_more row pushed so_far = grind (arith, ints, piece_more, append_assoc, extent-lower)

pub box_all : (s : ShownBox) (y : ℤ) (text : List ℕ) → y +ℤ pos 1 ≡ s.bounds.min_y → IsBoxSoFar s y text
    → text ≡ s.head ++ shown_box s.show s.end s.bounds
unfolding shown_rows
box_all s y text over so_far =
    let none : extent s.bounds.min_y y ≡ 0 = omega (arith, ints) in
    pieces_all text _ _ (ap (shown_rows (shown_line s.show s.end s.bounds) y) none) so_far.rows
