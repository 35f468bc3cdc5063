-- What a file that is being made represents.
use Rattle.std.specs.Prelude.{◌≡◌, ◌<◌, ◌+◌, ℕ, ℤ, List, [], ◌∷◌, ◌++◌, length, slice_index_or, flat_map, Option, None, Some, Result, Ok, Err}
use Rattle.mf_rows.specs.Dots.{Dot}
use Rattle.mf_gf.specs.declared.boxes.CharacterBox.{CharacterBox}
use Rattle.mf_gf.specs.declared.fault.GfFault.{GfFault}
use Rattle.mf_gf.specs.declared.file.FontWords.{FontWords}
use Rattle.mf_gf.specs.declared.file.GfFile.{GfFile}
use Rattle.mf_gf.specs.declared.finished.GfBytes.{GfBytes}
use Rattle.mf_gf.specs.declared.locator.Locator.{Locator}
use Rattle.mf_gf.specs.declared.locators.Locators.{Locators}
use Rattle.mf_gf.specs.Files.{Character, Shipment, box_of_all, bytes_so_far, last_locator, locator_if, locator_of, shipments, tail_of}
use Rattle.mf_gf.specs.Numbers.{code_count}
use Rattle.mf_gf.specs.Pixels.{black}

-- the character that is shipped with the picture ds
abbrev pub character : ℕ → ℤ → ℤ → List Dot → Character
character code dx width ds = record { code = code; dx = dx; width = width; black = black ds }

-- the box of all characters, if there are any
abbrev pub bounds_of : List Character → Option CharacterBox
bounds_of [] = None
bounds_of (c ∷ cs) = Some (box_of_all (c ∷ cs))

-- a table has the locator of the last character with each code
pub record HasLastLocators (table : Locators) (shipped : List Shipment) : Type 0 where
  pub last : (code : ℕ) → code < code_count → slice_index_or table.by_code.items code None ≡ last_locator code shipped

-- the bytes of the locators of a table, codes rising
abbrev pub table_text : Locators → List ℕ
table_text table = flat_map locator_if table.by_code.items

-- a file keeps what its end needs of this comment and these characters
pub record Keeps (file : GfFile) (comment : List ℕ) (characters : List Character) : Type 0 where
  pub bytes : file.bytes.items ≡ bytes_so_far comment characters
  pub locators : HasLastLocators file.locators (shipments comment characters)
  pub count : file.count ≡ length characters
  pub bounds : file.bounds ≡ bounds_of characters

-- the greatest number of bytes that a file may have
abbrev pub max_bytes_of : GfFile → ℕ
max_bytes_of file = file.max_bytes

-- a file has no room for these bytes after those that it has
abbrev pub HasNoRoomFor : GfFile → List ℕ → Type 0
HasNoRoomFor file bytes = file.max_bytes < length (file.bytes.items ++ bytes)

-- a file of this comment and these characters has no room for one more character, even without the end of the file
abbrev pub IsFullWith : GfFile → List ℕ → List Character → Character → Type 0
IsFullWith file comment characters c = max_bytes_of file < length (bytes_so_far comment (characters ++ c ∷ []))

-- what comes after the characters in the file that is finished with these numbers and this box
abbrev pub tail_after : GfFile → FontWords → CharacterBox → List ℕ
tail_after file words b = tail_of words b file.bytes.items (table_text file.locators)

-- a file is unchanged
pub record IsSameFile (before after : GfFile) : Type 0 where
  pub bytes : after.bytes.items ≡ before.bytes.items
  pub locators : after.locators ≡ before.locators
  pub count : after.count ≡ before.count
  pub bounds : after.bounds ≡ before.bounds
  pub max_bytes : after.max_bytes ≡ before.max_bytes

-- a character with these bytes was appended to a file; this says nothing of the box of all characters, which takes its box
pub record IsAppended (before after : GfFile) (l : Locator) (spelled : List ℕ) : Type 0 where
  pub bytes : after.bytes.items ≡ before.bytes.items ++ spelled
  pub locators : (s : Shipment) (shipped : List Shipment) → locator_of s ≡ l → HasLastLocators before.locators shipped
      → HasLastLocators after.locators (s ∷ shipped)
  pub count : after.count ≡ before.count + 1

-- the file comes back with this refusal
abbrev pub IsRefusedAs : GfFault → Result GfBytes (GfFile × GfFault) → Type 0
IsRefusedAs fault (Ok bytes) = ⊥
IsRefusedAs fault (Err refused) = refused.1 ≡ fault
