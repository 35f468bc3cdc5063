-- The painting machine: which pixels the bytes of a character make black (gftype.web; The METAFONTbook, Appendix G). It has the
-- commands that paint or move. A character with specials, or with commands that do nothing, is not read. The opcodes are numerals, as
-- in `Pointers` and `FontNumbers`, so that the laws do not rest on those of `Format`, which files are made with.
use Rattle.std.specs.Prelude.{◌==◌, ◌&&◌, ◌+◌, ◌-◌, ◌*◌, Bool, true, false, not, ℕ, zero, suc, nat_le, ℤ, pos, negsuc, ◌+ℤ◌, ◌-ℤ◌}
use Rattle.std.specs.Prelude.{List, [], ◌∷◌, ◌++◌, length, drop, slice_index, Option, None, Some, option_map, if◌then◌else◌}
use Rattle.byteorder.specs.Endian.{big_number}
use Rattle.mf_rows.specs.Dots.{Dot}
use Rattle.mf_rows.specs.Runs.{equal_dots}
use Rattle.mf_gf.specs.declared.boxes.CharacterBox.{CharacterBox}
use Rattle.mf_gf.specs.Boxes.{box_at}
use Rattle.mf_gf.specs.Numbers.{word_at, word_size}

-- a painting command: paint k pixels, skip k rows and go to the one after them, or go to the next row at offset k
pub data Stroke : Type 0 where
  Paint : ℕ → Stroke
  Skip : ℕ → Stroke
  NewRow : ℕ → Stroke

-- a command and the bytes after it; no command at the end of the character
pub record Read : Type 0 where
  pub stroke : Option Stroke
  pub rest : List ℕ

-- a command whose parameter has n bytes
abbrev pub with_bytes : (ℕ → Stroke) → ℕ → List ℕ → Read
with_bytes command n bytes = record { stroke = Some (command (big_number n bytes)); rest = drop n bytes }

-- the command with which the bytes start: paint_0 to paint_63 (0 to 63), paint1 to paint3 (64 to 66), eoc (69), skip0 (70), skip1 to
-- skip3 (71 to 73), or new_row_0 to new_row_164 (74 to 238)
unfoldable pub read_stroke : List ℕ → Option Read
read_stroke [] = None
read_stroke (b ∷ bytes) =
    if nat_le b 63 then Some (record { stroke = Some (Paint b); rest = bytes })
    else (if nat_le b 66 then Some (with_bytes Paint (b - 63) bytes)
    else (if b == 69 then Some (record { stroke = None; rest = bytes })
    else (if b == 70 then Some (record { stroke = Some (Skip 0); rest = bytes })
    else (if nat_le 71 b && nat_le b 73 then Some (with_bytes Skip (b - 70) bytes)
    else (if nat_le 74 b && nat_le b 238 then Some (record { stroke = Some (NewRow (b - 74)); rest = bytes })
    else None)))))

-- no more commands, where no bytes come after eoc; else the bytes are no character
abbrev pub strokes_at_end : List ℕ → Option (List Stroke)
strokes_at_end bytes = if length bytes == 0 then Some [] else None

-- the commands up to the end of the character, which must be one of the first n commands and end the bytes
unfoldable pub strokes_within : ℕ → List ℕ → Option (List Stroke)
strokes_within zero bytes = None
strokes_within (suc n) bytes = elim (read_stroke bytes) [
  | None ↦ None
  | Some read ↦ elim read.stroke [
    | None ↦ strokes_at_end read.rest
    | Some stroke ↦ option_map (λ strokes. stroke ∷ strokes) (strokes_within n read.rest)
  ]
]

-- the commands of a character, up to its end
abbrev pub strokes : List ℕ → Option (List Stroke)
strokes bytes = strokes_within (length bytes) bytes

-- the painting machine in a state: its row and column (n and m in GF), the left end of the box, and its color
pub record Machine : Type 0 where
  pub row : ℤ
  pub column : ℤ
  pub left : ℤ
  pub is_black : Bool

-- the machine at the beginning of a character with this box: at the left end of the top row, and white
abbrev pub machine_at : CharacterBox → Machine
machine_at b = record { row = b.max_n; column = b.min_m; left = b.min_m; is_black = false }

-- the pixels that a command makes black
abbrev pub pixels_of_stroke : Machine → Stroke → List Dot
pixels_of_stroke machine (Paint k) = if machine.is_black then equal_dots machine.row machine.column (pos 1) k else []
pixels_of_stroke machine (Skip k) = []
pixels_of_stroke machine (NewRow k) = []

-- the state of the machine after a command
abbrev pub machine_after : Machine → Stroke → Machine
machine_after machine (Paint k) = record machine { column = machine.column +ℤ pos k; is_black = not machine.is_black }
machine_after machine (Skip k) = record machine { row = machine.row -ℤ pos (k + 1); column = machine.left; is_black = false }
machine_after machine (NewRow k) = record machine { row = machine.row -ℤ pos 1; column = machine.left +ℤ pos k; is_black = true }

-- the pixels that commands make black, in the order in which they paint them
unfoldable pub pixels_of_strokes : Machine → List Stroke → List Dot
pixels_of_strokes machine [] = []
pixels_of_strokes machine (stroke ∷ strokes) = pixels_of_stroke machine stroke ++ pixels_of_strokes (machine_after machine stroke) strokes

-- what a character says before its commands: its code, the place of the last earlier character with this code (-1 where there is
-- none), and its box
pub record CharacterHead : Type 0 where
  pub code : ℤ
  pub earlier : ℤ
  pub box : CharacterBox

-- the head of boc1 (68): the code, greatest less least m, greatest m, greatest less least n, and greatest n, one byte each; there is
-- no earlier character
abbrev pub head_of_boc1 : List ℕ → CharacterHead
head_of_boc1 bytes = record {
  code = pos (slice_index bytes 0);
  earlier = negsuc 0;
  box = record {
    min_m = pos (slice_index bytes 2) -ℤ pos (slice_index bytes 1);
    max_m = pos (slice_index bytes 2);
    min_n = pos (slice_index bytes 4) -ℤ pos (slice_index bytes 3);
    max_n = pos (slice_index bytes 4);
  };
}

-- the head of boc (67): the code, the place of the last earlier character with this code, and the least and greatest m and n, four
-- bytes each
abbrev pub head_of_boc : List ℕ → CharacterHead
head_of_boc bytes = record {
  code = word_at 0 bytes;
  earlier = word_at word_size bytes;
  box = box_at (2 * word_size) bytes;
}

-- the head with which the bytes of a character begin
unfoldable pub head_of : List ℕ → Option CharacterHead
head_of [] = None
head_of (b ∷ bytes) = if b == 68 then Some (head_of_boc1 bytes) else (if b == 67 then Some (head_of_boc bytes) else None)

-- the pixels that these bytes make black, which are the commands of a character with this box
abbrev pub pixels_in : CharacterBox → List ℕ → Option (List Dot)
pixels_in b bytes = option_map (pixels_of_strokes (machine_at b)) (strokes bytes)

-- the pixels that a character makes black with the commands after its head
unfoldable pub pixels_of_character : List ℕ → Option (List Dot)
pixels_of_character [] = None
pixels_of_character (b ∷ bytes) =
    if b == 68 then pixels_in (head_of_boc1 bytes).box (drop 5 bytes)
    else (if b == 67 then pixels_in (head_of_boc bytes).box (drop 24 bytes) else None)
