-- The book in which a picture's history is kept, its rule, and what the steps of its writer promise.
use Rattle.std.specs.Prelude.{◌≡◌, true, ℕ, List, [], ◌∷◌, ◌++◌, All, length, take}
use mathlib.Core.List.{IsPrefix}
use Rattle.logbook.specs.Pages.{Cell, cell, View, Book, Named, Nib, may_write, may_make}
use Rattle.mf_live.specs.declared.event.Line.{Line}
use Rattle.mf_live.specs.Events.{events_of}
use Rattle.mf_live.specs.World.{Happen, new_world}

-- the greatest limit that a writer may have: `max_ops` is a number of four bytes, and no writer accepts more operations
abbrev pub greatest_limit : ℕ
greatest_limit = 4294967295

-- the key of the pen that writes the first line: a new book has two cells, 0 and 1
abbrev pub first_pen : ℕ
first_pen = 2

-- the key of the pen that writes after these lines, of which the first is written by the pen n
abbrev pub pen_after : ℕ → List Line → ℕ
pen_after n [] = n
pen_after n (l ∷ ls) = pen_after l.next ls

-- the keys of the pens that have written these lines
abbrev pub pens_of : ℕ → List Line → List ℕ
pens_of n [] = []
pens_of n (l ∷ ls) = n ∷ pens_of l.next ls

-- the cell with this key is at home: no pen can write it any more
abbrev pub IsHome : List Cell → ℕ → Type 0
IsHome cells key = (cell cells key).1 ≡ true

-- The first cell is at home, and while it is 0 no pen has been made. Each pen that has written a line is used up, so its cell is at
-- home: whoever holds the pen that writes after some lines knows that these are all. And each event could happen in its turn
pub record IsLawfulBook (cells : List Cell) (lines : List Line) : Type 0 where
  pub word : IsHome cells 0
  pub first : (cell cells 0).0 ≡ 0 → length cells ≡ first_pen
  pub used : All (IsHome cells) (pens_of first_pen lines)
  pub lawful : Happen greatest_limit new_world (events_of lines)

-- the first word of a book
abbrev pub word_of : Book → Named
word_of b = record { tracked = true; key = 0; book = b }

-- a pen is made, which is the first where the word was 0
abbrev pub Makes : ℕ → View Line ℕ → Type 0
Makes found w = (w.1.0.right ≡ may_make) × (found ≡ 0 → w.1.0.key ≡ first_pen)

-- the line is added to everything that had been seen
abbrev pub Adds : Line → View Line ℕ → View Line ℕ → Type 0
Adds l v w = w.0 ≡ v.0 ++ l ∷ []

-- the pen with this key writes after these lines
abbrev pub WritesAfter : ℕ → List Line → Type 0
WritesAfter key lines = key ≡ pen_after first_pen lines

-- the pen is kept, and lines after which it writes are all that there are
abbrev pub Confirms : View Line ℕ → View Line ℕ → Type 0
Confirms v w = (w.1.0 ≡ v.1.0) × ((lines : List Line) → IsPrefix lines w.0 → WritesAfter v.1.0.key lines → lines ≡ w.0)

-- the pen of this book with this nib may write after these lines
pub record IsPenOf (b : Book) (lines : List Line) (pen_book : Book) (nib : Nib) : Type 0 where
  pub book : pen_book ≡ b
  pub right : nib.right ≡ may_write
  pub next : WritesAfter nib.key lines

-- the list ys begins with xs
abbrev pub BeginsWith : List Line → List Line → Type 0
BeginsWith ys xs = take (length xs) ys ≡ xs
