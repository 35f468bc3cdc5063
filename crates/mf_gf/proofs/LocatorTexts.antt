-- The bytes of locators, one code more at a time.
use Rattle.std.proofs.Common.{◌≡◌, ◌+◌, ◌<◌, ℕ, zero, suc, List, [], ◌∷◌, ◌++◌, Option, None, length}
use Rattle.std.proofs.Common.{slice_index_or, take, refl, ap, ap₂, sym, subst, ◌∙◌, append_assoc, arith}
use Rattle.std.specs.List.{flat_map}
use Rattle.std.proofs.lemmas.Grind.{flat_map-append}
use Rattle.std.proofs.lemmas.List.{append-nil, take_more}
use Rattle.mf_gf.specs.declared.locator.Locator.{Locator}
use Rattle.mf_gf.specs.declared.locators.Locators.{Locators}
use Rattle.mf_gf.specs.declared.spelling.Spelling.{Spelling}
use Rattle.mf_gf.specs.Files.{Shipment, last_locator, locator_if, locators_from}
use Rattle.mf_gf.specs.Keeping.{HasLastLocators, table_text}
use Rattle.mf_gf.specs.Numbers.{code_count}
use Rattle.mf_gf.specs.Spellings.{Holds}

-- before the first code
pub holds_no_code : (s : Spelling) (text : List ℕ) (items : List (Option Locator)) → Holds s text → Holds s (text ++ flat_map locator_if (take 0 items))
holds_no_code s text items held = subst (Holds s) (sym (append-nil text)) held

-- after one more code
pub holds_next_code : (s : Spelling) (text : List ℕ) (items : List (Option Locator)) (code : ℕ) (d : Option Locator) → code < length items
    → Holds s (text ++ flat_map locator_if (take code items) ++ locator_if (slice_index_or items code d))
    → Holds s (text ++ flat_map locator_if (take (code + 1) items))
holds_next_code s text items code d within held =
    let before = flat_map locator_if (take code items) in
    let last = slice_index_or items code d in
    let all : flat_map locator_if (take (code + 1) items) ≡ before ++ locator_if last =
    ap (flat_map locator_if) (take_more items code d within)
    ∙ flat_map-append locator_if (take code items) (last ∷ []) ∙ ap (λ more. before ++ more) (append-nil (locator_if last)) in
    subst (Holds s) (append_assoc text before (locator_if last) ∙ ap (λ bytes. text ++ bytes) (sym all)) held

-- the locators of n codes are those of the last characters with these codes
lasts_text : (shipped : List Shipment) (items : List (Option Locator)) (code n : ℕ) → length items ≡ n
    → ((i : ℕ) → i < n → slice_index_or items i None ≡ last_locator (code + i) shipped) → flat_map locator_if items ≡ locators_from code n shipped
unfolding locators_from
lasts_text shipped [] code zero same lasts = refl
lasts_text shipped [] code (suc n) same lasts = absurd (omega (arith, same))
lasts_text shipped (last ∷ items) code zero same lasts = absurd (omega (arith, same))
lasts_text shipped (last ∷ items) code (suc n) same lasts =
    let first : last ≡ last_locator code shipped = lasts 0 (omega arith) ∙ ap (λ c. last_locator c shipped) (omega arith) in
    let others =
    lasts_text shipped items (code + 1) n (omega (arith, same))
    (λ i within. lasts (suc i) (omega (arith, within)) ∙ ap (λ c. last_locator c shipped) (omega arith)) in
    ap₂ (λ one more. locator_if one ++ more) first others

pub table_text-is : (table : Locators) (shipped : List Shipment) → HasLastLocators table shipped → table_text table ≡ locators_from 0 code_count shipped
table_text-is table shipped lasts =
    lasts_text shipped table.by_code.items 0 code_count table.all (λ i within. lasts.last i within ∙ ap (λ c. last_locator c shipped) (omega arith))
