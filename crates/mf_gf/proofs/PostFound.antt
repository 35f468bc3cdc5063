-- The postamble of a file, found from its end, and the locators after it.
use Rattle.std.proofs.Common.{◌≡◌, ◌+◌, ◌≤◌, ℕ, zero, suc, pos, List, [], ◌∷◌, ◌++◌, reverse, replicate, length, drop}
use Rattle.std.proofs.Common.{slice_index, Some, refl, ap, ◌∙◌, append_assoc, eq-eqb, arith}
use Rattle.std.proofs.lemmas.Int.{ints}
use Rattle.std.specs.Option.{option_and_then}
use Rattle.std.proofs.Math.Seq.{drop-append-add, get_or-append_seam}
use Rattle.std.proofs.lemmas.Bool.{cond-true}
use Rattle.std.proofs.lemmas.List.{reverse-append}
use mathlib.Core.List.{reverse-cons}
use Rattle.byteorder.specs.Numbers.{big_number-reads_back}
use Rattle.mf_gf.specs.declared.file.FontWords.{FontWords}
use Rattle.mf_gf.specs.Files.{Character, Shipment, box_of_all, bytes_so_far, file_of}
use Rattle.mf_gf.specs.Files.{last_shipment, locator_of, padding, post_text, shipments}
use Rattle.mf_gf.specs.Format as gf
use Rattle.mf_gf.specs.Numbers.{code_count, greatest_word, unsigned_at, word}
use Rattle.mf_gf.specs.Pointers.{locators_of, locators_within, post_place, post_place_back}
use Rattle.mf_gf.proofs.LocatorsRead.{FitsFields, lasts_from, within-reads}
use Rattle.mf_gf.proofs.Shipped.{bytes_after_post, bytes_to_ending, file_of-ending, file_of-parts}

-- the reader passes over the padding
post_place_back-padding : (count : ℕ) (rest : List ℕ) → post_place_back (reverse (replicate count gf.padding_byte) ++ rest) ≡ post_place_back rest
unfolding post_place_back
post_place_back-padding zero rest = refl
post_place_back-padding (suc count) rest = grind (arith, ints, reverse-cons, append_assoc, post_place_back-padding count (gf.padding_byte ∷ rest))

-- before the padding come the place of post and the identification byte
post_place_back-ending : (before : List ℕ) (place count : ℕ) → place ≤ greatest_word → post_place_back
    (reverse (before ++ ((gf.post_post ∷ []) ++ word (pos place) ++ (gf.id_byte ∷ []) ++ replicate count gf.padding_byte))) ≡ Some place
unfolding post_place_back
post_place_back-ending before place count short =
    let named = (gf.post_post ∷ []) ++ word (pos place) ++ (gf.id_byte ∷ []) in
    ap post_place_back (reverse-append before (named ++ replicate count gf.padding_byte))
    ∙ ap (λ back. post_place_back (back ++ reverse before)) (reverse-append named (replicate count gf.padding_byte))
    ∙ ap post_place_back (append_assoc (reverse (replicate count gf.padding_byte)) (reverse named) (reverse before))
    ∙ post_place_back-padding count (reverse named ++ reverse before)
    ∙ ap (λ n. Some n) (big_number-reads_back 4 place [] (omega (arith, short)))

-- post is at the place that the end of the file gives, and has it after its opcode
pub post_place-file : (words : FontWords) (comment : List ℕ) (cs : List Character) → length (bytes_so_far comment cs) ≤ greatest_word
    → post_place (file_of words comment cs) ≡ Some (length (bytes_so_far comment cs))
post_place-file words comment cs short =
    let characters = bytes_so_far comment cs in
    let place = length characters in
    let file = file_of words comment cs in
    let whole = file_of-parts words comment cs in
    let tail = post_text words (box_of_all cs) place ++ bytes_after_post words comment cs in
    let before = bytes_to_ending words comment cs in
    let back : post_place_back (reverse file) ≡ Some place =
    ap (λ bytes. post_place_back (reverse bytes)) (file_of-ending words comment cs)
    ∙ post_place_back-ending before place (padding (length before + gf.ending_size)) short in
    let opcode : slice_index file place ≡ 248 = ap (λ bytes. slice_index bytes place) whole ∙ get_or-append_seam characters 248 _ 0 in
    let own : unsigned_at (place + 1) file ≡ place =
    ap (unsigned_at (place + 1)) whole ∙ ap (unsigned_at 0) (drop-append-add characters tail 1)
    ∙ big_number-reads_back 4 place (drop 5 tail) (omega (arith, short)) in
    grind (arith, ints, cond-true, eq-eqb)

-- what a reader finds after post
pub locators_of-file : (words : FontWords) (comment : List ℕ) (cs : List Character) → length (bytes_so_far comment cs) ≤ greatest_word
    → ((code : ℕ) (s : Shipment) → last_shipment code (shipments comment cs) ≡ Some s → FitsFields (locator_of s))
    → locators_of (file_of words comment cs) ≡ Some (lasts_from 0 code_count (shipments comment cs))
locators_of-file words comment cs short fits =
    let characters = bytes_so_far comment cs in
    let place = length characters in
    ap (option_and_then (λ at. locators_within (code_count + 1) (drop (at + 37) (file_of words comment cs)))) (post_place-file words comment cs short)
    ∙ ap (λ bytes. locators_within (code_count + 1) (drop (place + 37) bytes)) (file_of-parts words comment cs)
    ∙ ap (locators_within (code_count + 1)) (drop-append-add characters _ 37)
    ∙ within-reads (shipments comment cs) fits place (length (bytes_to_ending words comment cs)) 0 code_count (code_count + 1) (omega arith)
