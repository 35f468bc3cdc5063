-- Bytes that are appended to a file.
use Rattle.std.proofs.Common.{◌≡◌, ◌+◌, ◌<◌, ◌↔◌, ℕ, List, [], ◌∷◌, ◌++◌, Some, Result, Ok, Err}
use Rattle.std.proofs.Common.{length, ap, subst, sym, ◌∙◌, append_assoc, length-append, arith}
use Rattle.std.proofs.lemmas.Int.{ints}
use Rattle.std.specs.Prelude.{IfErr}
use Rattle.mf_gf.specs.declared.boxes.CharacterBox.{CharacterBox}
use Rattle.mf_gf.specs.declared.fault.GfFault.{GfFault}
use Rattle.mf_gf.specs.declared.fault.GfFault.TheVariants as fault
use Rattle.mf_gf.specs.declared.file.FontWords.{FontWords}
use Rattle.mf_gf.specs.declared.file.GfFile.{GfFile}
use Rattle.mf_gf.specs.declared.finished.GfBytes.{GfBytes}
use Rattle.mf_gf.specs.declared.spelling.Spelling.{Spelling}
use Rattle.mf_gf.specs.Files.{Character, box_of_all, ending, file_of, post_text, tail_of}
use Rattle.mf_gf.specs.Keeping.{HasNoRoomFor, IsRefusedAs, IsSameFile, Keeps, bounds_of, tail_after}
use Rattle.mf_gf.specs.Spellings.{Holds}
use Rattle.mf_gf.proofs.LocatorTexts.{table_text-is}

pub holds_tail : {s : Spelling} (words : FontWords) (b : CharacterBox) {place : ℕ} (bytes locators : List ℕ) → place ≡ length bytes
    → Holds s (post_text words b place ++ locators ++ ending place (place + length (post_text words b place ++ locators)))
    → Holds s (tail_of words b bytes locators)
unfolding tail_of
holds_tail {s} words b {place} bytes locators is held =
    let numbers = post_text words b (length bytes) in
    subst (λ n. Holds s (numbers ++ locators ++ ending (length bytes) n))
    (sym (ap length (append_assoc bytes numbers locators) ∙ length-append bytes (numbers ++ locators)))
    (subst (λ (at : ℕ). Holds s (post_text words b at ++ locators ++ ending at (at + length (post_text words b at ++ locators)))) is held)

-- there is no room for the tail exactly where there is none for the complete file
pub too_long_after : {P : Type 0} (file : GfFile) (room : ℕ) (text : List ℕ) → room + length file.bytes.items ≡ file.max_bytes
    → (room < length text) ↔ P → HasNoRoomFor file text ↔ P
too_long_after file room text is fits = grind (arith, ints, length-append)

box_of_all-some : (cs : List Character) (b : CharacterBox) → bounds_of cs ≡ Some b → box_of_all cs ≡ b
box_of_all-some [] b is = absurd (cc)
box_of_all-some (c ∷ cs) b is = cc

-- the complete file is what was kept of it, and its tail
pub kept_file : (file : GfFile) (words : FontWords) (b : CharacterBox) (comment : List ℕ) (cs : List Character)
    → file.bounds ≡ Some b → Keeps file comment cs
    → file_of words comment cs ≡ file.bytes.items ++ tail_after file words b
unfolding file_of
kept_file file words b comment cs some keeps = grind (arith, ints, box_of_all-some, table_text-is)

-- a refusal with OutOfMemory is not one with FileTooLong
pub out_of_memory_only : (before : GfFile) (r : Result GfBytes (GfFile × GfFault))
    → IfErr r (λ refused. IsSameFile before refused.0 × (refused.1 ≡ fault.OutOfMemory)) → IsRefusedAs fault.FileTooLong r → ⊥
out_of_memory_only before (Ok bytes) is refused = refused
out_of_memory_only before (Err back) is refused = let same = is.1 in cc
