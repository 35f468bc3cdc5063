-- The locators of a file, read back: they are those of the last characters with their codes.
use Rattle.std.proofs.Common.{◌≡◌, ◌+◌, ◌<◌, ◌≤◌, ◌==◌, ℕ, zero, suc, Bool, true, false, pos, if◌then◌else◌, List, [], ◌∷◌, ◌++◌, Option}
use Rattle.std.proofs.Common.{None, Some, option_map, refl, ap, sym, ◌∙◌, append_assoc, eqb-true, eq-eqb, ⊎_elim, eq-or-lt_of_le, arith}
use Rattle.std.proofs.lemmas.Int.{ints}
use Rattle.std.specs.List.{All, AllPairs, list_any}
use Rattle.std.proofs.lemmas.Bool.{or_right}
use Rattle.std.proofs.lemmas.List.Elements.{All-cons, All-nil, All-weaker}
use Rattle.std.proofs.lemmas.List.Kept.{AllPairs-cons}
use Rattle.byteorder.specs.Numbers.{big_number-reads_back}
use Rattle.mf_gf.specs.declared.locator.Locator.{Locator}
use Rattle.mf_gf.specs.Files.{Shipment, ending, last_shipment, locator_head, locator_if, locator_of, locator_text, locators_from, short_dx}
use Rattle.mf_gf.specs.Numbers.{IsWord, greatest_word, word}
use Rattle.mf_gf.specs.Pointers.{Item, locators_within, read_item}
use Rattle.mf_gf.proofs.BoxOfDots.{word-reads_back}
use Rattle.mf_gf.proofs.Escapements.{short_dx_is}

-- what a test decides, shown for both of its values
pub split : (P : Bool → Type 0) (test : Bool) → (test ≡ true → P true) → (test ≡ false → P false) → P test
split P true at_true at_false = at_true refl
split P false at_true at_false = at_false refl

-- ---- one locator

-- the numbers of a locator fit into its fields
pub record FitsFields (l : Locator) : Type 0 where
  pub dx : IsWord l.dx
  pub width : IsWord l.width
  pub place : l.place ≤ greatest_word

abbrev read_as : Locator → List ℕ → Option Item
read_as l rest = Some (record { locator = Some l; rest = rest })

-- the bytes of char_loc0 and of char_loc are read back
head_reads : (l : Locator) (rest : List ℕ) (short : Option ℕ) → FitsFields l → short_dx l.dx ≡ short
    → read_item (locator_head l.code l.dx short ++ (word l.width ++ (word (pos l.place) ++ rest))) ≡ read_as l rest
unfolding read_item
head_reads l rest (Some pixels) fits short = grind (arith, ints, sym, short_dx_is, word-reads_back)
head_reads l rest None fits short =
    let dx = word-reads_back l.dx (word (pos 0) ++ word l.width ++ word (pos l.place) ++ rest) fits.dx in
    let width = word-reads_back l.width (word (pos l.place) ++ rest) fits.width in
    let place = big_number-reads_back 4 l.place rest (omega (arith, fits.place)) in
    λ t. Some (record { locator = Some (record { code = l.code; dx = dx t; width = width t; place = place t }); rest = rest })

locator_reads : (l : Locator) (rest : List ℕ) → FitsFields l → read_item (locator_text l ++ rest) ≡ read_as l rest
locator_reads l rest fits = grind (arith, ints, append_assoc, head_reads)

-- ---- all locators

abbrev with_last : Option Shipment → List Locator → List Locator
with_last None ls = ls
with_last (Some s) ls = locator_of s ∷ ls

-- the locators of n codes, from this code on
unfoldable pub lasts_from : ℕ → ℕ → List Shipment → List Locator
lasts_from code zero shipped = []
lasts_from code (suc n) shipped = with_last (last_shipment code shipped) (lasts_from (code + 1) n shipped)

-- the locators from an item on, given what was read of it
abbrev read_on : ℕ → Option Item → Option (List Locator)
read_on n next = elim next [
  | None ↦ None
  | Some item ↦ elim item.locator [
    | None ↦ Some []
    | Some l ↦ option_map (λ ls. l ∷ ls) (locators_within n item.rest)
  ]
]

-- post_post ends the locators
end_within : (n place before : ℕ) → 1 ≤ n → locators_within n (ending place before) ≡ Some []
unfolding locators_within read_item
end_within zero place before some = absurd (omega (arith, some))
end_within (suc n) place before some = refl

module _ (shipped : List Shipment) (fits : (code : ℕ) (s : Shipment) → last_shipment code shipped ≡ Some s → FitsFields (locator_of s)) (place before : ℕ) where
  locators_within-more : (code n m : ℕ) (last : Option Shipment) → suc n < m → last_shipment code shipped ≡ last
      → ((k : ℕ) → n < k → locators_within k (locators_from (code + 1) n shipped ++ ending place before) ≡ Some (lasts_from (code + 1) n shipped))
      → locators_within m (locator_if (option_map locator_of last) ++ locators_from (code + 1) n shipped ++ ending place before)
      ≡ Some (with_last last (lasts_from (code + 1) n shipped))
  unfolding locators_within
  locators_within-more code n m None few is others = others m (omega (arith, few))
  locators_within-more code n zero (Some s) few is others = absurd (omega (arith, few))
  locators_within-more code n (suc m) (Some s) few is others =
      let l = locator_of s in
      let rest = locators_from (code + 1) n shipped ++ ending place before in
      ap (λ bytes. read_on m (read_item bytes)) (append_assoc (locator_text l) (locators_from (code + 1) n shipped) (ending place before))
      ∙ ap (read_on m) (locator_reads l rest (fits code s is))
      ∙ ap (option_map (λ more. l ∷ more)) (others m (omega (arith, few)))

  pub within-reads : (code n m : ℕ) → n < m → locators_within m (locators_from code n shipped ++ ending place before) ≡ Some (lasts_from code n shipped)
  unfolding locators_from lasts_from
  within-reads code zero m few = end_within m place before (omega (arith, few))
  within-reads code (suc n) m few = locators_within-more code n m (last_shipment code shipped) few refl (λ k less. within-reads (code + 1) n k less)

-- ---- what the locators are

pub last_shipment-code : (code : ℕ) (s : Shipment) (shipped : List Shipment) → last_shipment code shipped ≡ Some s → s.character.code ≡ code
unfolding last_shipment
last_shipment-code code s [] is = absurd (cc)
last_shipment-code code s (t ∷ shipped) is =
    split (λ test. (if test then Some t else last_shipment code shipped) ≡ Some s → s.character.code ≡ code) (t.character.code == code)
    (λ yes found. let same : t ≡ s = cc in ap (λ (it : Shipment). it.character.code) (sym same) ∙ eqb-true t.character.code code yes)
    (λ no found. last_shipment-code code s shipped found) is

-- l is the locator of the last character with its code, which is at least the first code
pub record IsLastFrom (shipped : List Shipment) (code : ℕ) (l : Locator) : Type 0 where
  pub least : code ≤ l.code
  pub shipment : Shipment
  pub is : l ≡ locator_of shipment
  pub last : last_shipment l.code shipped ≡ Some shipment

with_one : (shipped : List Shipment) (code : ℕ) (last : Option Shipment) (others : List Locator)
    → last_shipment code shipped ≡ last → All (IsLastFrom shipped (code + 1)) others
    → All (IsLastFrom shipped code) (with_last last others)
with_one shipped code None others is later = grind (arith, ints, All-weaker)
with_one shipped code (Some s) others is later =
    All-cons (IsLastFrom shipped code) (locator_of s) others (grind (arith, ints, last_shipment-code)) (grind (arith, ints, All-weaker))

pub lasts_are_last : (shipped : List Shipment) (code n : ℕ) → All (IsLastFrom shipped code) (lasts_from code n shipped)
unfolding lasts_from
lasts_are_last shipped code zero = All-nil (IsLastFrom shipped code)
lasts_are_last shipped code (suc n) =
    with_one shipped code (last_shipment code shipped) (lasts_from (code + 1) n shipped) refl (lasts_are_last shipped (code + 1) n)

-- the codes of the locators rise
abbrev IsBefore : Locator → Locator → Type 0
IsBefore l later = l.code < later.code

rise_on : (shipped : List Shipment) (code : ℕ) (last : Option Shipment) (others : List Locator)
    → last_shipment code shipped ≡ last → All (IsLastFrom shipped (code + 1)) others
    → AllPairs IsBefore others → AllPairs IsBefore (with_last last others)
rise_on shipped code None others is later pairs = pairs
rise_on shipped code (Some s) others is later pairs = grind (arith, ints, last_shipment-code, AllPairs-cons, All-weaker)

pub lasts_rise : (shipped : List Shipment) (code n : ℕ) → AllPairs IsBefore (lasts_from code n shipped)
unfolding lasts_from
lasts_rise shipped code zero = λ i j d before within. absurd (omega (arith, within))
lasts_rise shipped code (suc n) =
    rise_on shipped code (last_shipment code shipped) (lasts_from (code + 1) n shipped) refl
    (lasts_are_last shipped (code + 1) n) (lasts_rise shipped (code + 1) n)

-- where a code has a last character, it has a locator
abbrev has_code : ℕ → Locator → Bool
has_code code l = l.code == code

has_code-here : (code : ℕ) (s : Shipment) (last : Option Shipment) (others : List Locator) → last ≡ Some s
    → s.character.code ≡ code → list_any (has_code code) (with_last last others) ≡ true
has_code-here code s None others is same = absurd (cc)
has_code-here code s (Some t) others is same = grind (arith, ints, eq-eqb)

has_code-later : (code : ℕ) (last : Option Shipment) (others : List Locator) → list_any (has_code code) others ≡ true
    → list_any (has_code code) (with_last last others) ≡ true
has_code-later code None others later = later
has_code-later code (Some t) others later = or_right (t.character.code == code) (list_any (has_code code) others) later

pub lasts_have : (shipped : List Shipment) (code : ℕ) (s : Shipment) (first n : ℕ) → last_shipment code shipped ≡ Some s
    → first ≤ code → code < first + n → list_any (has_code code) (lasts_from first n shipped) ≡ true
unfolding lasts_from
lasts_have shipped code s first zero is least most = absurd (omega (arith, least, most))
lasts_have shipped code s first (suc n) is least most =
    ⊎_elim
    (λ same. has_code-here code s (last_shipment first shipped) (lasts_from (first + 1) n shipped)
    (ap (λ c. last_shipment c shipped) same ∙ is) (last_shipment-code code s shipped is))
    (λ further. has_code-later code (last_shipment first shipped) (lasts_from (first + 1) n shipped)
    (lasts_have shipped code s (first + 1) n is (omega (arith, further)) (omega (arith, most))))
    (eq-or-lt_of_le least)
