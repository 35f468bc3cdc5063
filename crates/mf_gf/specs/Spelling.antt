-- The bytes of a character (The METAFONTbook, Appendix G).
use Rattle.std.specs.Prelude.{◌+◌, ◌==◌, ◌&&◌, Bool, ℕ, zero, suc, nat_le, ℤ, pos, negsuc, ◌+ℤ◌, ◌-ℤ◌, int_le, List, [], ◌∷◌, ◌++◌, Option, None, Some, option_map, flat_map, if◌then◌else◌}
use Rattle.std.specs.Int.RustNames.{unsigned_abs}
use Rattle.std.specs.Ordering.{int_eq}
use Rattle.byteorder.specs.Endian.{big_bytes}
use Rattle.mf_geom.specs.Coordinates.{field_size, last_in_field, least_coordinate}
use Rattle.mf_rows.specs.declared.run.Run.{Run}
use Rattle.mf_rows.specs.BlackRows.{row_runs}
use Rattle.mf_rows.specs.Dots.{Dot, weight_at}
use Rattle.mf_gf.specs.declared.boxes.CharacterBox.{CharacterBox}
use Rattle.mf_gf.specs.Boxes.{box_of_pixels}
use Rattle.mf_gf.specs.Format as gf
use Rattle.mf_gf.specs.Numbers.{greatest_byte, word}

-- an opcode with a parameter of one byte, or the next opcode with one of two bytes
abbrev pub with_parameter : ℕ → ℕ → List ℕ
with_parameter opcode n = if nat_le n greatest_byte then (opcode ∷ n ∷ []) else ((opcode + 1) ∷ []) ++ big_bytes 2 n

-- the command that paints n pixels: paint_0 to paint_63, paint1 or paint2
unfoldable pub paint : ℕ → List ℕ
paint n = if nat_le n gf.most_painted then n ∷ [] else with_parameter gf.paint1 n

-- the command that skips n blank rows: skip0, skip1 or skip2
unfoldable pub skip : ℕ → List ℕ
skip n = if n == 0 then gf.skip0 ∷ [] else with_parameter gf.skip1 n

-- the command that goes to the next row at offset n: new_row_0 to new_row_164
abbrev pub new_row : ℕ → List ℕ
new_row n = (gf.new_row_0 + n) ∷ []

-- how many columns lie from one column to another, in absolute value
abbrev pub distance : ℤ → ℤ → ℕ
distance a b = unsigned_abs (a -ℤ b)

-- the lengths of white and black stretches in turn, from a column to the end of the last of these runs
unfoldable pub lengths : ℤ → List Run → List ℕ
lengths x [] = []
lengths x (r ∷ rs) = distance r.x x ∷ r.len ∷ lengths (r.x +ℤ pos r.len) rs

-- the lengths of white and black stretches of row y of the pixels at which f is not 0, where `left` is the left end of their box. It
-- relies on f having one weight at all of them: a run has one weight, so two weights side by side would be two black stretches, with a
-- white one of 0 pixels between
abbrev pub row_lengths : ℤ → (ℤ → ℤ → ℤ) → ℤ → List ℕ
row_lengths left f y = lengths left (row_runs f y least_coordinate)

-- how a row begins whose first black pixel has this offset: the first row with white; a row directly below a black one with new_row, where
-- the offset allows it; any other with a skip over the blank rows between, and white
abbrev pub row_start : Option ℕ → ℕ → List ℕ
row_start None offset = paint offset
row_start (Some blank) offset = if blank == 0 && nat_le offset gf.most_new_row then new_row offset else skip blank ++ paint offset

-- the bytes of a row of such lengths; a blank row has none
unfoldable pub row_text : Option ℕ → List ℕ → List ℕ
row_text blank [] = []
row_text blank (offset ∷ others) = row_start blank offset ++ flat_map paint others

-- how many blank rows there are before the next row: none is counted above the first black row
unfoldable pub blank_after : Option ℕ → List ℕ → Option ℕ
blank_after blank [] = option_map suc blank
blank_after blank (offset ∷ others) = Some 0

-- the bytes of n rows from row y down, where f gives the lengths of each
unfoldable pub rows_text : (ℤ → List ℕ) → ℤ → ℕ → Option ℕ → List ℕ
rows_text f y zero blank = []
rows_text f y (suc n) blank = row_text blank (f y) ++ rows_text f (y -ℤ pos 1) n (blank_after blank (f y))

-- a number fits into one byte
abbrev pub is_byte : ℤ → Bool
is_byte z = int_le (pos 0) z && int_le z (pos greatest_byte)

-- a box fits into the one-byte fields of boc1
abbrev pub is_short : CharacterBox → Bool
is_short b = is_byte (b.max_m -ℤ b.min_m) && (is_byte b.max_m && (is_byte (b.max_n -ℤ b.min_n) && is_byte b.max_n))

-- the field p of boc: the place of the last earlier character with the code, or -1
abbrev pub pointer : Option ℕ → ℤ
pointer None = negsuc 0
pointer (Some place) = pos place

-- the bytes of boc1, which has no p
abbrev pub short_begin : ℕ → CharacterBox → List ℕ
short_begin code b = gf.boc1 ∷ code ∷ unsigned_abs (b.max_m -ℤ b.min_m) ∷ unsigned_abs b.max_m ∷ unsigned_abs (b.max_n -ℤ b.min_n) ∷ unsigned_abs b.max_n ∷ []

-- the bytes of boc, which has p
abbrev pub long_begin : ℕ → ℤ → CharacterBox → List ℕ
long_begin code p b = (gf.boc ∷ []) ++ word (pos code) ++ word p ++ word b.min_m ++ word b.max_m ++ word b.min_n ++ word b.max_n

-- boc1 where there is no earlier character with this code and the box allows it, else boc
abbrev pub begin : ℕ → ℤ → CharacterBox → List ℕ
begin code p b = if int_eq p (negsuc 0) && is_short b then short_begin code b else long_begin code p b

-- the bytes of all rows of the field, for a character whose first black column is `left`
unfoldable pub pixels_text : ℤ → List Dot → List ℕ
pixels_text left ds = rows_text (row_lengths left (weight_at ds)) last_in_field field_size None

-- the bytes of a character with these black pixels; p is the place of the last earlier character with this code, or -1
unfoldable pub spell : ℕ → ℤ → List Dot → List ℕ
spell code p ds = begin code p (box_of_pixels ds) ++ pixels_text (box_of_pixels ds).min_m ds ++ (gf.eoc ∷ [])
