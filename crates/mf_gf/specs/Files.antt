-- GF files (The METAFONTbook, Appendix G).
use Rattle.std.specs.Prelude.{◌≡◌, ◌<◌, ◌≤◌, ◌+◌, ◌-◌, ◌*◌, ◌%◌, ◌==◌, ◌&&◌, ℕ, zero, suc, ℤ, pos, int_le, int_div, int_rem}
use Rattle.std.specs.Prelude.{List, [], ◌∷◌, ◌++◌, length, replicate, Option, None, Some, option_map, find, if◌then◌else◌}
use Rattle.std.specs.Int.RustNames.{unsigned_abs}
use Rattle.std.specs.Ordering.{int_eq}
use Rattle.mf_rows.specs.Dots.{Dot}
use Rattle.mf_gf.specs.declared.boxes.CharacterBox.{CharacterBox}
use Rattle.mf_gf.specs.declared.file.FontWords.{FontWords}
use Rattle.mf_gf.specs.declared.locator.Locator.{Locator}
use Rattle.mf_gf.specs.Boxes.{box_of_pixels, join, no_box}
use Rattle.mf_gf.specs.Format as gf
use Rattle.mf_gf.specs.Numbers.{code_count, greatest_byte, word}
use Rattle.mf_gf.specs.Spelling.{pointer, spell}

-- a character that is shipped: its code, its escapement in 1/65536 pixel, its width in 1/1048576 of the design size, and its
-- black pixels
pub record Character : Type 0 where
  pub code : ℕ
  pub dx : ℤ
  pub width : ℤ
  pub black : List Dot

-- the box of a character: that of its black pixels
abbrev pub box_of_character : Character → CharacterBox
box_of_character c = box_of_pixels c.black

-- the preamble: pre, the identification byte, the length of the comment, and the comment
abbrev pub preamble : List ℕ → List ℕ
preamble comment = gf.pre ∷ gf.id_byte ∷ length comment ∷ comment

-- a shipped character with its place, which is the length of the file before it
pub record Shipment : Type 0 where
  pub character : Character
  pub place : ℕ

-- the last character with a code, if there is one; the list has the character shipped last first
unfoldable pub last_shipment : ℕ → List Shipment → Option Shipment
last_shipment code shipped = find (λ (s : Shipment). s.character.code == code) shipped

-- the place of the last character with a code, if there is one
abbrev pub last_place : ℕ → List Shipment → Option ℕ
last_place code shipped = option_map (λ (s : Shipment). s.place) (last_shipment code shipped)

-- the shipment of a character after these bytes
abbrev pub shipment_after : List ℕ → Character → Shipment
shipment_after bytes c = record { character = c; place = length bytes }

-- a file so far: its bytes, and the characters shipped, the last one first
pub record FileSoFar : Type 0 where
  pub bytes : List ℕ
  pub shipped : List Shipment

-- the bytes of one more character, whose p is the place of the last one with its code
abbrev pub spell_after : FileSoFar → Character → List ℕ
spell_after f c = spell c.code (pointer (last_place c.code f.shipped)) c.black

-- the file with one more character
abbrev pub with_character : FileSoFar → Character → FileSoFar
with_character f c = record { bytes = f.bytes ++ spell_after f c; shipped = shipment_after f.bytes c ∷ f.shipped }

-- the file with these characters more, in the order shipped
unfoldable pub with_characters : FileSoFar → List Character → FileSoFar
with_characters f [] = f
with_characters f (c ∷ cs) = with_characters (with_character f c) cs

-- the file with this comment and these characters, without its end
abbrev pub file_so_far : List ℕ → List Character → FileSoFar
file_so_far comment characters = with_characters (record { bytes = preamble comment; shipped = [] }) characters

-- the bytes of the file with this comment and these characters, without its end
abbrev pub bytes_so_far : List ℕ → List Character → List ℕ
bytes_so_far comment characters = (file_so_far comment characters).bytes

-- its characters, each with its place
abbrev pub shipments : List ℕ → List Character → List Shipment
shipments comment characters = (file_so_far comment characters).shipped

-- the number of pixels of an escapement, where it is a whole number of them in 0..255
abbrev pub short_dx : ℤ → Option ℕ
short_dx dx =
    if int_le (pos 0) dx && (int_eq (int_rem dx (pos gf.unity)) (pos 0) && int_le (int_div dx (pos gf.unity)) (pos greatest_byte)) then Some
    (unsigned_abs (int_div dx (pos gf.unity))) else None

-- an escapement is a whole number of pixels in 0..255, each of them one unity: what `short_dx` finds, said without division
pub record IsShortDx (dx : ℤ) (pixels : ℕ) : Type 0 where
  pub whole : dx ≡ pos (gf.unity * pixels)
  pub fits : pixels ≤ greatest_byte

-- the bytes before the width: those of char_loc0 where the escapement is short, else those of char_loc, whose dy is 0
abbrev pub locator_head : ℕ → ℤ → Option ℕ → List ℕ
locator_head code dx (Some pixels) = gf.char_loc0 ∷ code ∷ pixels ∷ []
locator_head code dx None = (gf.char_loc ∷ code ∷ []) ++ word dx ++ word (pos 0)

-- the bytes of a locator
abbrev pub locator_text : Locator → List ℕ
locator_text l = locator_head l.code l.dx (short_dx l.dx) ++ word l.width ++ word (pos l.place)

-- the locator of a shipped character
abbrev pub locator_of : Shipment → Locator
locator_of s = record { code = s.character.code; dx = s.character.dx; width = s.character.width; place = s.place }

-- the locator of the last character with a code, if there is one
abbrev pub last_locator : ℕ → List Shipment → Option Locator
last_locator code shipped = option_map locator_of (last_shipment code shipped)

-- the bytes of a locator, if there is one
abbrev pub locator_if : Option Locator → List ℕ
locator_if None = []
locator_if (Some l) = locator_text l

-- the bytes of the locators of n codes from this one on, codes rising: each is that of the last character with its code
unfoldable pub locators_from : ℕ → ℕ → List Shipment → List ℕ
locators_from code zero shipped = []
locators_from code (suc n) shipped = locator_if (last_locator code shipped) ++ locators_from (code + 1) n shipped

-- the least box around the boxes of all characters, as these are written; all four numbers are 0 where there are none
unfoldable pub box_of_all : List Character → CharacterBox
box_of_all [] = no_box
box_of_all (c ∷ []) = box_of_character c
box_of_all (c ∷ d ∷ cs) = join (box_of_character c) (box_of_all (d ∷ cs))

-- post, with which the postamble begins: its own place, the numbers of the font, and the box of all characters
abbrev pub post_text : FontWords → CharacterBox → ℕ → List ℕ
post_text words b place =
    (gf.post ∷ []) ++ word (pos place) ++ word words.ds ++ word (pos words.cs) ++ word words.hppp ++ word words.vppp
    ++ word b.min_m ++ word b.max_m ++ word b.min_n ++ word b.max_n

-- the number of padding bytes, four to seven, that make the length of a file a multiple of 4
abbrev pub padding : ℕ → ℕ
padding before = gf.most_padding - (before + 3) % 4

-- the ending: post_post, the place of post, the identification byte, and the padding; `before` bytes of the file come before it
abbrev pub ending : ℕ → ℕ → List ℕ
ending place before = (gf.post_post ∷ []) ++ word (pos place) ++ (gf.id_byte ∷ []) ++ replicate (padding (before + gf.ending_size)) gf.padding_byte

-- what comes after the characters of a file whose bytes up to there are `before`: post, these locators, and the ending
unfoldable pub tail_of : FontWords → CharacterBox → List ℕ → List ℕ → List ℕ
tail_of words b before locators =
    post_text words b (length before) ++ locators
    ++ ending (length before) (length (before ++ post_text words b (length before) ++ locators))

-- the bytes of the finished file of these characters
unfoldable pub file_of : FontWords → List ℕ → List Character → List ℕ
file_of words comment characters =
    bytes_so_far comment characters
    ++ tail_of words (box_of_all characters) (bytes_so_far comment characters) (locators_from 0 code_count (shipments comment characters))

-- the finished file of these characters, or none where there are none
abbrev pub file_if_any : FontWords → List ℕ → List Character → Option (List ℕ)
file_if_any words comment [] = None
file_if_any words comment (c ∷ cs) = Some (file_of words comment (c ∷ cs))

-- there are characters, and their file would have more bytes than it may have
pub record IsLongFile (max_bytes : ℕ) (words : FontWords) (comment : List ℕ) (characters : List Character) : Type 0 where
  pub some : characters ≡ [] → ⊥
  pub too_long : max_bytes < length (file_of words comment characters)

-- the length of a file is a multiple of 4, and it ends with the identification byte (131) and four to seven padding bytes (223)
pub record IsPadded (file : List ℕ) : Type 0 where
  pub multiple : length file % 4 ≡ 0
  pub before : List ℕ
  pub count : ℕ
  pub least : 4 ≤ count
  pub most : count ≤ 7
  pub ends : file ≡ before ++ 131 ∷ replicate count 223
