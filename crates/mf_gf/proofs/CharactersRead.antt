-- The characters of a file, read back from p to p.
use Rattle.std.proofs.Common.{◌≡◌, ◌<◌, ◌≤◌, ◌==◌, ◌||◌, ℕ, Bool, ℤ, pos, if◌then◌else◌, List, [], ◌∷◌, ◌++◌, map, reverse, length, take}
use Rattle.std.proofs.Common.{drop, Some, option_map, is_some, refl, ap, sym, subst, ◌∙◌, append_assoc, append-nil, length-append, eqb-true, arith}
use Rattle.std.specs.List.{All, filter, list_any}
use Rattle.std.proofs.Math.Seq.{drop-append_seam, take-append_seam}
use Rattle.std.proofs.lemmas.Int.{ints}
use Rattle.std.proofs.lemmas.List.{drop-append-le}
use Rattle.std.proofs.lemmas.List.Elements.{All-head, All-tail}
use mathlib.Core.List.{reverse-cons}
use Rattle.mf_rows.specs.Dots.{Dot}
use Rattle.mf_gf.specs.Boxes.{box_of_pixels}
use Rattle.mf_gf.specs.Files.{Character, FileSoFar, Shipment, last_shipment, last_place, shipment_after, shipments, spell_after}
use Rattle.mf_gf.specs.Files.{with_character, with_characters}
use Rattle.mf_gf.specs.Format as gf
use Rattle.mf_gf.specs.Numbers.{IsWord, code_count, greatest_word}
use Rattle.mf_gf.specs.Painting.{head_of, pixels_of_character}
use Rattle.mf_gf.specs.Pixels.{IsPixelSet}
use Rattle.mf_gf.specs.Pointers.{IsCharacterAt, IsShippable, LeadsBack}
use Rattle.mf_gf.specs.Spelling.{begin, pointer, spell, pixels_text}
use Rattle.mf_gf.proofs.BoxesInRange.{box_in_range}
use Rattle.mf_gf.proofs.BoxOfDots.{head-begin, paint-begin}
use Rattle.mf_gf.proofs.DrawnRows.{pixels_in-rows}
use Rattle.mf_gf.proofs.LocatorsRead.{split}

-- ---- one character

pub head-spell : (code : ℕ) (p : ℤ) (ds : List Dot) (rest : List ℕ) → code < code_count → IsWord p → IsPixelSet ds
    → head_of (spell code p ds ++ rest) ≡ Some (record { code = pos code; earlier = p; box = box_of_pixels ds })
unfolding spell
head-spell code p ds rest fits p_fits set =
    let b = box_of_pixels ds in
    let all = pixels_text b.min_m ds in
    ap (λ bytes. head_of (bytes ++ rest)) (append_assoc (begin code p b) all (gf.eoc ∷ []))
    ∙ ap head_of (append_assoc (begin code p b) (all ++ gf.eoc ∷ []) rest)
    ∙ head-begin code p b (all ++ gf.eoc ∷ [] ++ rest) fits p_fits (box_in_range ds set.picture)

-- painting the bytes of a character gives its pixels
pub pixels_of_spell : (code : ℕ) (p : ℤ) (ds : List Dot) → IsPixelSet ds → pixels_of_character (spell code p ds) ≡ Some ds
unfolding spell
pixels_of_spell code p ds set =
    let b = box_of_pixels ds in
    let all = pixels_text b.min_m ds in
    ap pixels_of_character (append_assoc (begin code p b) all (gf.eoc ∷ []))
    ∙ paint-begin code p b (all ++ gf.eoc ∷ []) (box_in_range ds set.picture) ∙ pixels_in-rows ds set

-- a character is in the bytes at its place, and has this p
pub record StandsAt (bytes : List ℕ) (s : Shipment) (p : ℤ) : Type 0 where
  pub shippable : IsShippable s.character
  pub before : s.place ≤ length bytes
  pub rest : List ℕ
  pub there : drop s.place bytes ≡ spell s.character.code p s.character.black ++ rest

abbrev pub is_at : (file : List ℕ) (s : Shipment) (p : ℤ) → StandsAt file s p → IsWord p → IsCharacterAt file s.place s.character p
is_at file s p stands fits =
    let c = s.character in
    let bytes = spell c.code p c.black in
    let shippable = stands.shippable in
    record {
      head = ap head_of stands.there ∙ head-spell c.code p c.black stands.rest shippable.code fits shippable.black;
      count = length bytes;
      painted = ap (λ it. pixels_of_character (take (length bytes) it)) stands.there ∙ ap pixels_of_character (take-append_seam bytes stands.rest)
          ∙ pixels_of_spell c.code p c.black shippable.black;
    }

-- ---- all of them

-- each character is at its place, and its p is the place of the last one with its code before it
abbrev pub AllStand : List ℕ → List Shipment → Type 0
AllStand bytes [] = Unit {0}
AllStand bytes (s ∷ shipped) = StandsAt bytes s (pointer (last_place s.character.code shipped)) × AllStand bytes shipped

pub stands_before : (bytes more : List ℕ) (s : Shipment) (p : ℤ) → StandsAt bytes s p → StandsAt (bytes ++ more) s p
stands_before bytes more s p stands = record {
  shippable = stands.shippable;
  before = let both = length-append bytes more in omega (arith, both, stands.before);
  rest = stands.rest ++ more;
  there = drop-append-le s.place bytes more stands.before ∙ ap (λ it. it ++ more) stands.there
      ∙ append_assoc (spell s.character.code p s.character.black) stands.rest more;
}

pub all_before : (bytes more : List ℕ) (shipped : List Shipment) → AllStand bytes shipped → AllStand (bytes ++ more) shipped
all_before bytes more [] stand = tt
all_before bytes more (s ∷ shipped) stand = (stands_before bytes more s _ stand.0, all_before bytes more shipped stand.1)

pub stand_from : (f : FileSoFar) (cs : List Character) → All IsShippable cs → AllStand f.bytes f.shipped
    → AllStand (with_characters f cs).bytes (with_characters f cs).shipped
unfolding with_characters
stand_from f [] shippable stand = stand
stand_from f (c ∷ cs) shippable stand =
    stand_from (with_character f c) cs (All-tail IsShippable c cs shippable)
    (grind (arith, length-append, drop-append_seam, append-nil, All-head IsShippable c cs shippable), all_before f.bytes (spell_after f c) f.shipped stand)

-- the last character with a code is at its place
pub record LastStands (bytes : List ℕ) (s : Shipment) : Type 0 where
  pub p : ℤ
  pub stands : StandsAt bytes s p

pub last_stands : (bytes : List ℕ) (code : ℕ) (s : Shipment) (shipped : List Shipment) → AllStand bytes shipped
    → last_shipment code shipped ≡ Some s → LastStands bytes s
unfolding last_shipment
last_stands bytes code s [] stand is = absurd (cc)
last_stands bytes code s (t ∷ shipped) stand is =
    split (λ test. (if test then Some t else last_shipment code shipped) ≡ Some s → LastStands bytes s) (t.character.code == code)
    (λ yes found. let same : t ≡ s = cc in subst (LastStands bytes) same (record { p = pointer (last_place t.character.code shipped); stands = stand.0 }))
    (λ no found. last_stands bytes code s shipped stand.1 found) is

-- p is a signed number of four bytes
pub pointer_fits : (bytes : List ℕ) (code : ℕ) (shipped : List Shipment) → length bytes ≤ greatest_word
    → AllStand bytes shipped → IsWord (pointer (last_place code shipped))
unfolding last_shipment
pointer_fits bytes code [] short stand = omega (arith, ints)
pointer_fits bytes code (s ∷ shipped) short stand = grind (arith, ints, split, pointer_fits bytes code shipped short stand.1)

-- ---- from one to the next

abbrev pub character_of : Shipment → Character
character_of s = s.character

abbrev pub of_code : ℕ → List Character → List Character
of_code code characters = filter (λ (c : Character). c.code == code) characters

-- p leads from the last character with a code to all of them
pub leads_back : (before file : List ℕ) (code : ℕ) (shipped : List Shipment) → length before ≤ greatest_word → AllStand before shipped → AllStand file shipped
    → LeadsBack file (pointer (last_place code shipped)) (of_code code (map character_of shipped))
unfolding last_shipment LeadsBack
leads_back before file code [] short stand whole = refl
leads_back before file code (s ∷ shipped) short stand whole =
    let own = s.character.code in
    split
    (λ test.
    LeadsBack file (pointer (option_map (λ (it : Shipment). it.place) (if test then Some s else last_shipment code shipped)))
    (if test then s.character ∷ of_code code (map character_of shipped) else of_code code (map character_of shipped)))
    (own == code)
    (λ yes.
    let same = eqb-true own code yes in
    let p = pointer (last_place own shipped) in
    let this = is_at file s p whole.0 (pointer_fits before own shipped short stand.1) in (
      s.place,
      refl,
      p,
      this,
      subst (λ c. LeadsBack file (pointer (last_place c shipped)) (of_code code (map character_of shipped))) (sym same)
          (leads_back before file code shipped short stand.1 whole.1),
    ))
    (λ no. leads_back before file code shipped short stand.1 whole.1)

-- c is the first of these characters
pub record BeginsWith (cs : List Character) (c : Character) : Type 0 where
  pub others : List Character
  pub all : cs ≡ c ∷ others

pub last_is_first : (code : ℕ) (s : Shipment) (shipped : List Shipment) → last_shipment code shipped ≡ Some s
    → BeginsWith (of_code code (map character_of shipped)) s.character
unfolding last_shipment
last_is_first code s [] is = absurd (cc)
last_is_first code s (t ∷ shipped) is =
    let others = of_code code (map character_of shipped) in
    split (λ test. (if test then Some t else last_shipment code shipped) ≡ Some s → BeginsWith (if test then t.character ∷ others else others) s.character)
    (t.character.code == code)
    (λ yes found. let same : t ≡ s = cc in record { others = others; all = ap (λ (it : Shipment). it.character ∷ others) same })
    (λ no found. last_is_first code s shipped found) is

-- the characters that were shipped, from the last to the first
pub characters_with : (f : FileSoFar) (cs : List Character) → map character_of (with_characters f cs).shipped ≡ reverse cs ++ map character_of f.shipped
unfolding with_characters
characters_with f [] = refl
characters_with f (c ∷ cs) = grind (arith, ints, append_assoc, reverse-cons, characters_with (with_character f c) cs)

-- ---- codes

-- whether a code has a last character
abbrev pub has_last : ℕ → List Shipment → Bool
has_last code shipped = is_some (last_shipment code shipped)

has_last-with : (code : ℕ) (f : FileSoFar) (cs : List Character)
    → has_last code (with_characters f cs).shipped ≡ (has_last code f.shipped || list_any (λ (c : Character). c.code == code) cs)
unfolding with_characters last_shipment
has_last-with code f [] = grind arith
has_last-with code f (c ∷ cs) = grind (arith, ints, split, shipment_after, has_last-with code (with_character f c) cs)

pub has_last-shipped : (code : ℕ) (comment : List ℕ) (cs : List Character)
    → has_last code (shipments comment cs) ≡ list_any (λ (c : Character). c.code == code) cs
unfolding last_shipment
has_last-shipped code comment cs = has_last-with code _ cs
