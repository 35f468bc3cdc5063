use Rattle.std.proofs.Common.{◌≡◌, ◌<◌, ◌==◌, ℕ, true, pos, List, ◌∷◌, map, Option, None, Some, append-nil, reverse}
use Rattle.std.proofs.Common.{is_some, option_map, refl, ap, sym, subst, ◌∙◌, arith, eq-eqb, eqb-true}
use Rattle.std.specs.List.{Any}
use Rattle.std.proofs.lemmas.List.Elements.{All-weaker}
use Rattle.std.proofs.lemmas.List.Folds.{Any-from_list_any, list_any-from_Any}
use Rattle.mf_gf.specs.declared.file.FontWords.{FontWords}
use Rattle.mf_gf.specs.declared.locator.Locator.{Locator}
use Rattle.mf_gf.specs.Files.{Character, Shipment, bytes_so_far, file_of, last_shipment, locator_of, shipments}
use Rattle.mf_gf.specs.Numbers.{code_count}
use Rattle.mf_gf.specs.Pointers.{AreShippable, HasCode, LeadsBack, LeadsToAll, characters_of}
use Rattle.mf_gf.specs.Spelling.{pointer}
use Rattle.mf_gf.proofs.CharactersRead.{AllStand, all_before, character_of, has_last, stand_from, characters_with}
use Rattle.mf_gf.proofs.CharactersRead.{has_last-shipped, last_is_first, last_stands, leads_back, of_code}
use Rattle.mf_gf.proofs.LocatorsRead.{FitsFields, IsLastFrom, lasts_are_last, lasts_from, lasts_have, lasts_rise}
use Rattle.mf_gf.proofs.PostFound.{locators_of-file}
use Rattle.mf_gf.proofs.Shipped.{file-begins}
use Rattle.mf_gf.proofs.laws.characters_are_read_back.Goals as goal

-- a code that has a last character, and that character
some_last : (last : Option Shipment) → is_some last ≡ true → (s : Shipment) × (last ≡ Some s)
some_last None some = absurd (cc)
some_last (Some s) some = (s, refl)

module _ (words : FontWords) (comment : List ℕ) (cs : List Character) (shippable : AreShippable comment cs) where
  abbrev file : List ℕ
  file = file_of words comment cs

  abbrev shipped : List Shipment
  shipped = shipments comment cs

  abbrev locators : List Locator
  locators = lasts_from 0 code_count (shipments comment cs)

  stand : AllStand (bytes_so_far comment cs) shipped
  stand = stand_from _ cs shippable.each tt

  readable : (code : ℕ) (s : Shipment) → last_shipment code shipped ≡ Some s → FitsFields (locator_of s)
  readable code s is =
      let there = (last_stands (bytes_so_far comment cs) code s shipped stand is).stands in
      record { dx = there.shippable.dx; width = there.shippable.width; place = omega (arith, there.before, shippable.short) }

  stand_in_file : AllStand file shipped
  stand_in_file =
      let begins = file-begins words comment cs in
      subst (λ it. AllStand it shipped) (sym begins.1) (all_before (bytes_so_far comment cs) begins.0 shipped stand)

  leads : (l : Locator) → IsLastFrom shipped 0 l → LeadsToAll file cs l
  leads l from =
      let code = l.code in
      let s = from.shipment in
      let first = last_is_first code s shipped from.last in
      let all : characters_of code cs ≡ s.character ∷ first.others = ap (of_code code) (sym (characters_with _ cs ∙ append-nil (reverse cs))) ∙ first.all in
      let at : pos l.place ≡ pos s.place = ap (λ (it : Locator). pos it.place) from.is in
      let back = leads_back (bytes_so_far comment cs) file code shipped shippable.short stand stand_in_file in
      record {
        last = s.character;
        earlier = first.others;
        all = all;
        dx = ap (λ (it : Locator). it.dx) from.is;
        width = ap (λ (it : Locator). it.width) from.is;
        back =
            subst (λ p. LeadsBack file p (s.character ∷ first.others)) (sym at)
            (subst (LeadsBack file (pos s.place)) first.all (subst
            (λ last. LeadsBack file (pointer (option_map (λ (it : Shipment). it.place) last)) (of_code code (map character_of shipped))) from.last back));
      }

  shipped_is_found : (code : ℕ) → HasCode code cs → Any (λ (l : Locator). l.code ≡ code) locators
  shipped_is_found code (k, d, within, at, same) =
      let last =
      some_last (last_shipment code shipped)
      (has_last-shipped code comment cs ∙ list_any-from_Any (λ (c : Character). c.code == code) cs (k, d, within, at, eq-eqb _ _ same)) in
      let fits = (shippable.each k d within).code in
      let small : code < code_count = omega (arith, ap (λ (it : Character). it.code) at, same, fits) in
      let there = Any-from_list_any (λ (l : Locator). l.code == code) locators (lasts_have shipped code last.0 0 code_count last.1 (omega arith) small) in
      (there.0, there.1, there.2, there.3, eqb-true _ _ there.4)

  found_is_shipped : (code : ℕ) → Any (λ (l : Locator). l.code ≡ code) locators → HasCode code cs
  found_is_shipped code (k, l, within, at, same) =
      let from = subst (IsLastFrom shipped 0) at (lasts_are_last shipped 0 code_count k l within) in
      let some : has_last code shipped ≡ true = ap (λ n. is_some (last_shipment n shipped)) (sym same) ∙ ap is_some from.last in
      let there = Any-from_list_any (λ (c : Character). c.code == code) cs (sym (has_last-shipped code comment cs) ∙ some) in
      (there.0, there.1, there.2, there.3, eqb-true _ _ there.4)

pub returns : goal.returns
returns c = λ words comment cs shippable.
    let shipped = shipments comment cs in
    record {
      locators = lasts_from 0 code_count shipped;
      read = locators_of-file words comment cs shippable.short (readable words comment cs shippable);
      rise = lasts_rise shipped 0 code_count;
      codes = λ code. (shipped_is_found words comment cs shippable code, found_is_shipped words comment cs shippable code);
      lead = All-weaker (IsLastFrom shipped 0) (LeadsToAll (file_of words comment cs) cs)
          (leads words comment cs shippable) (lasts_from 0 code_count shipped) (lasts_are_last shipped 0 code_count);
    }
