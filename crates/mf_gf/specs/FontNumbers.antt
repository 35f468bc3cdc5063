-- What a reader finds in a finished file besides its characters: the comment in the preamble, and what post says (The METAFONTbook,
-- Appendix G; gftype.web).
use Rattle.std.specs.Prelude.{◌≡◌, ◌+◌, ◌*◌, ◌==◌, ◌&&◌, ℕ, ℤ, ◌≤ℤ◌, All, Any, List, take, drop, slice_index, Option, None, Some, option_map, if◌then◌else◌}
use Rattle.mf_gf.specs.declared.boxes.CharacterBox.{CharacterBox}
use Rattle.mf_gf.specs.declared.file.FontWords.{FontWords}
use Rattle.mf_gf.specs.Boxes.{box_at}
use Rattle.mf_gf.specs.Files.{Character, box_of_character}
use Rattle.mf_gf.specs.Numbers.{unsigned_at, word_at, word_size}
use Rattle.mf_gf.specs.Pointers.{IsCharacterAt, post_place}

-- ---- the reader

-- the comment: before it come pre (247), the identification byte (131), and the length of the comment in one byte
unfoldable pub comment_of : List ℕ → Option (List ℕ)
comment_of file = if slice_index file 0 == 247 && slice_index file 1 == 131 then Some (take (slice_index file 2) (drop 3 file)) else None

-- what post says besides its place: the numbers of the font, and a box
pub record Post : Type 0 where
  pub words : FontWords
  pub box : CharacterBox

-- number k, counted from 0, of those after an opcode that have four bytes each: without a sign, and with it
abbrev pub unsigned_number : ℕ → List ℕ → ℕ
unsigned_number k bytes = unsigned_at (1 + word_size * k) bytes

abbrev pub signed_number : ℕ → List ℕ → ℤ
signed_number k bytes = word_at (1 + word_size * k) bytes

-- the numbers of post after its place: ds, cs, hppp, vppp, least m, greatest m, least n and greatest n
abbrev pub read_post : List ℕ → Post
read_post bytes = record {
  words = record { ds = signed_number 1 bytes; cs = unsigned_number 2 bytes; hppp = signed_number 3 bytes; vppp = signed_number 4 bytes };
  box = box_at (1 + word_size * 5) bytes;
}

-- what post says, at its place
unfoldable pub post_of : List ℕ → Option Post
post_of file = option_map (λ place. read_post (drop place file)) (post_place file)

-- ---- what the reader finds

-- there is post, and it says this
abbrev pub HasPost : List ℕ → (Post → Type 0) → Type 0
HasPost file Says = (post : Post) × (post_of file ≡ Some post) × Says post

-- a character is in a file, and its bytes, of which eoc is the last, go up to post
abbrev pub IsBeforePost : List ℕ → Character → Type 0
IsBeforePost file c = (start : ℕ) × (p : ℤ) × (there : IsCharacterAt file start c p) × (post_place file ≡ Some (start + there.count))

-- a box lies in another
pub record IsWithin (outer inner : CharacterBox) : Type 0 where
  pub left : outer.min_m ≤ℤ inner.min_m
  pub right : inner.max_m ≤ℤ outer.max_m
  pub bottom : outer.min_n ≤ℤ inner.min_n
  pub top : inner.max_n ≤ℤ outer.max_n

-- the least box around the boxes of characters: each of them lies in it, and one is at each of its sides
pub record IsLeastAround (characters : List Character) (b : CharacterBox) : Type 0 where
  pub within : All (λ (c : Character). IsWithin b (box_of_character c)) characters
  pub left : Any (λ (c : Character). (box_of_character c).min_m ≡ b.min_m) characters
  pub right : Any (λ (c : Character). (box_of_character c).max_m ≡ b.max_m) characters
  pub bottom : Any (λ (c : Character). (box_of_character c).min_n ≡ b.min_n) characters
  pub top : Any (λ (c : Character). (box_of_character c).max_n ≡ b.max_n) characters

-- post has the least box around the boxes of these characters
abbrev pub HasLeastBox : List ℕ → List Character → Type 0
HasLeastBox file characters = HasPost file (λ post. IsLeastAround characters post.box)
