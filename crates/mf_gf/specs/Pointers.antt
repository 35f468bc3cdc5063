-- The characters of a finished file, as a reader finds them. The last bytes give the place of post. Each locator after the numbers
-- of post gives the place of the last character with its code. Each character gives, as p, the place of the one before it with the
-- same code (The METAFONTbook, Appendix G; gftype.web).
use Rattle.std.specs.Prelude.{◌≡◌, ◌<◌, ◌≤◌, ◌+◌, ◌*◌, ◌==◌, ◌&&◌, ◌↔◌, ℕ, zero, suc, ℤ, pos, negsuc, All, AllPairs, Any, List, [], ◌∷◌}
use Rattle.std.specs.Prelude.{length, take, drop, reverse, filter, slice_index, Option, None, Some, option_map, if◌then◌else◌}
use Rattle.std.specs.Option.{option_and_then}
use Rattle.mf_gf.specs.declared.locator.Locator.{Locator}
use Rattle.mf_gf.specs.Files.{Character, box_of_character, bytes_so_far}
use Rattle.mf_gf.specs.Numbers.{IsWord, code_count, greatest_word, unsigned_at, word_at, word_size}
use Rattle.mf_gf.specs.Painting.{head_of, pixels_of_character}
use Rattle.mf_gf.specs.Pixels.{IsPixelSet}

-- ---- the reader

-- the number in the four bytes before the identification byte (131), after which there is only padding (223); this list has the last
-- byte first. The reader does not look whether post_post (249) comes before them, nor whether there are four bytes of padding or more,
-- as the format requires
unfoldable pub post_place_back : List ℕ → Option ℕ
post_place_back [] = None
post_place_back (b ∷ bytes) =
    if b == 223 then post_place_back bytes else (if b == 131 then Some (unsigned_at 0 (reverse (take word_size bytes))) else None)

-- the place of post (248): the end of a file gives it, and post has it as its p. In the format p is the place after the last eoc, and
-- specials may come between it and post; where they do, this reader finds nothing
abbrev pub post_place : List ℕ → Option ℕ
post_place file =
    option_and_then (λ place. if slice_index file place == 248 && unsigned_at (place + 1) file == place then Some place else None)
    (post_place_back (reverse file))

-- what comes after post, and the bytes after that: a locator, or none where the ending begins
pub record Item : Type 0 where
  pub locator : Option Locator
  pub rest : List ℕ

-- char_loc (245) has its code in one byte, and dx, dy, which is 0, the width and the place in four bytes each; char_loc0 (246) has its
-- code and dx in pixels in one byte each, and the width and the place in four; post_post (249) begins the ending
unfoldable pub read_item : List ℕ → Option Item
read_item [] = None
read_item (b ∷ bytes) =
    if b == 245 && unsigned_at (1 + word_size) bytes == 0 then Some (record {
      locator = Some (record {
        code = slice_index bytes 0;
        dx = word_at 1 bytes;
        width = word_at (1 + 2 * word_size) bytes;
        place = unsigned_at (1 + 3 * word_size) bytes;
      });
      rest = drop 17 bytes;
    })
    else (if b == 246 then Some (record {
      locator = Some (record {
        code = slice_index bytes 0;
        dx = pos (65536 * slice_index bytes 1);
        width = word_at 2 bytes;
        place = unsigned_at (2 + word_size) bytes;
      });
      rest = drop 10 bytes;
    })
    else (if b == 249 then Some (record { locator = None; rest = bytes }) else None))

-- the locators up to the ending, where the ending is one of the first n items
unfoldable pub locators_within : ℕ → List ℕ → Option (List Locator)
locators_within zero bytes = None
locators_within (suc n) bytes = elim (read_item bytes) [
  | None ↦ None
  | Some item ↦ elim item.locator [
    | None ↦ Some []
    | Some l ↦ option_map (λ ls. l ∷ ls) (locators_within n item.rest)
  ]
]

-- the locators after the numbers of post: one for each of at most as many codes as there are, and then the ending
abbrev pub locators_of : List ℕ → Option (List Locator)
locators_of file = option_and_then (λ place. locators_within (code_count + 1) (drop (place + 37) file)) (post_place file)

-- a character begins at a place with this p: its head says so, and its bytes paint its pixels
pub record IsCharacterAt (file : List ℕ) (place : ℕ) (c : Character) (p : ℤ) : Type 0 where
  pub head : head_of (drop place file) ≡ Some (record { code = pos c.code; earlier = p; box = box_of_character c })
  pub count : ℕ
  pub painted : pixels_of_character (take count (drop place file)) ≡ Some c.black

-- p leads to the first of these characters, its p to the next one, and so on; the p of the last is -1
unfoldable pub LeadsBack : List ℕ → ℤ → List Character → Type 0
LeadsBack file p [] = p ≡ negsuc 0
LeadsBack file p (c ∷ cs) = (place : ℕ) × (p ≡ pos place) × (before : ℤ) × IsCharacterAt file place c before × LeadsBack file before cs

-- ---- what the reader finds

-- some of these characters has this code
abbrev pub HasCode : ℕ → List Character → Type 0
HasCode code characters = Any (λ (c : Character). c.code ≡ code) characters

-- the characters with a code, from the last shipped to the first
abbrev pub characters_of : ℕ → List Character → List Character
characters_of code characters = filter (λ (c : Character). c.code == code) (reverse characters)

-- a locator has the numbers of the last character with its code, and leads from it to all earlier ones
pub record LeadsToAll (file : List ℕ) (characters : List Character) (l : Locator) : Type 0 where
  pub last : Character
  pub earlier : List Character
  pub all : characters_of l.code characters ≡ last ∷ earlier
  pub dx : l.dx ≡ last.dx
  pub width : l.width ≡ last.width
  pub back : LeadsBack file (pos l.place) (last ∷ earlier)

-- the reader finds all characters: the codes of the locators rise, they are the codes of the characters, and each locator leads
-- to all characters with its code
pub record IsReadBack (file : List ℕ) (characters : List Character) : Type 0 where
  pub locators : List Locator
  pub read : locators_of file ≡ Some locators
  pub rise : AllPairs (λ (l later : Locator). l.code < later.code) locators
  pub codes : (code : ℕ) → HasCode code characters ↔ Any (λ (l : Locator). l.code ≡ code) locators
  pub lead : All (LeadsToAll file characters) locators

-- the parts of a character are in the ranges that a shipped character may have
pub record IsShippable (c : Character) : Type 0 where
  pub code : c.code < code_count
  pub dx : IsWord c.dx
  pub width : IsWord c.width
  pub black : IsPixelSet c.black

-- the characters fit into a file, in which each place is a signed number of four bytes
pub record AreShippable (comment : List ℕ) (characters : List Character) : Type 0 where
  pub each : All IsShippable characters
  pub short : length (bytes_so_far comment characters) ≤ greatest_word
