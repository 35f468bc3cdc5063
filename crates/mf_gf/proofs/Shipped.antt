-- The characters of a file, with one more at the end.
use Rattle.std.proofs.Common.{◌≡◌, ◌≤◌, ◌↔◌, ℕ, ℤ, List, [], ◌∷◌, ◌++◌, Option, Some, length, refl, ap, ◌∙◌, append_assoc, length-append, arith}
use Rattle.std.proofs.lemmas.Int.{ints}
use Rattle.mf_rows.specs.Dots.{Dot}
use Rattle.mf_gf.specs.declared.file.FontWords.{FontWords}
use Rattle.mf_gf.specs.declared.file.GfFile.{GfFile}
use Rattle.mf_gf.specs.Boxes.{box_of_pixels, join, widen}
use Rattle.mf_gf.specs.Files.{Character, FileSoFar, Shipment, box_of_all, bytes_so_far, ending, file_of, file_so_far, last_place}
use Rattle.mf_gf.specs.Files.{locator_of, locators_from, post_text, shipment_after, shipments, spell_after, tail_of, with_character, with_characters}
use Rattle.mf_gf.specs.Keeping.{HasLastLocators, HasNoRoomFor, IsAppended, IsFullWith, Keeps, bounds_of}
use Rattle.mf_gf.specs.Numbers.{code_count}
use Rattle.mf_gf.specs.Spelling.{pointer, spell}
use Rattle.mf_gf.proofs.BlackBoxes.{join-assoc}

-- the bytes of a character are not empty
pub spell_some : (code : ℕ) (p : ℤ) (ds : List Dot) → 1 ≤ length (spell code p ds)
unfolding spell
spell_some code p ds = simp length-append (omega arith)

with_characters-more : (f : FileSoFar) (cs : List Character) (c : Character) → with_characters f (cs ++ c ∷ []) ≡ with_character (with_characters f cs) c
unfolding with_characters
with_characters-more f [] c = refl
with_characters-more f (b ∷ cs) c = with_characters-more (with_character f b) cs c

pub bytes_so_far-more : (comment : List ℕ) (cs : List Character) (c : Character)
    → bytes_so_far comment (cs ++ c ∷ []) ≡ bytes_so_far comment cs ++ spell_after (file_so_far comment cs) c
bytes_so_far-more comment cs c = ap (λ (f : FileSoFar). f.bytes) (with_characters-more _ cs c)

pub shipments-more : (comment : List ℕ) (cs : List Character) (c : Character)
    → shipments comment (cs ++ c ∷ []) ≡ shipment_after (bytes_so_far comment cs) c ∷ shipments comment cs
shipments-more comment cs c = ap (λ (f : FileSoFar). f.shipped) (with_characters-more _ cs c)

pub box_of_all-more : (b : Character) (cs : List Character) (c : Character) → box_of_all (b ∷ cs ++ c ∷ []) ≡ join (box_of_all (b ∷ cs)) (box_of_pixels c.black)
unfolding box_of_all
box_of_all-more b [] c = refl
box_of_all-more b (d ∷ cs) c =
    ap (join (box_of_pixels b.black)) (box_of_all-more d cs c) ∙ join-assoc (box_of_pixels b.black) (box_of_all (d ∷ cs)) (box_of_pixels c.black)

bounds_of-more : (cs : List Character) (c : Character) → bounds_of (cs ++ c ∷ []) ≡ Some (widen (bounds_of cs) (box_of_pixels c.black))
unfolding box_of_all
bounds_of-more [] c = refl
bounds_of-more (b ∷ cs) c = ap (λ box. Some box) (box_of_all-more b cs c)

pub keeps-more : (before after : GfFile) (comment : List ℕ) (cs : List Character) (c : Character)
    → IsAppended before after (locator_of (shipment_after before.bytes.items c)) (spell_after (file_so_far comment cs) c)
    → after.bounds ≡ Some (widen before.bounds (box_of_pixels c.black)) → Keeps before comment cs → Keeps after comment (cs ++ c ∷ [])
keeps-more before after comment cs c appended widened keeps = grind (arith, ints, bytes_so_far-more, shipments-more, length-append, bounds_of-more)

-- where one more character is too long for a file, so are its bytes after those that the file has
pub too_long_with : {P : Type 0} (file : GfFile) (c : Character) (earlier : Option ℕ)
    → ((shipped : List Shipment) → HasLastLocators file.locators shipped → earlier ≡ last_place c.code shipped)
    → HasNoRoomFor file (spell c.code (pointer earlier) c.black) ↔ P
    → (comment : List ℕ) (cs : List Character) → Keeps file comment cs → IsFullWith file comment cs c ↔ P
too_long_with file c earlier last fits comment cs keeps = grind (arith, ints, bytes_so_far-more, last (shipments comment cs) keeps.locators)

-- the bytes of a file up to its ending
abbrev pub bytes_to_ending : FontWords → List ℕ → List Character → List ℕ
bytes_to_ending words comment cs =
    bytes_so_far comment cs ++ post_text words (box_of_all cs) (length (bytes_so_far comment cs)) ++ locators_from 0 code_count (shipments comment cs)

pub file_of-ending : (words : FontWords) (comment : List ℕ) (cs : List Character) → file_of words comment cs
    ≡ bytes_to_ending words comment cs ++ ending (length (bytes_so_far comment cs)) (length (bytes_to_ending words comment cs))
unfolding file_of tail_of
file_of-ending words comment cs = simp append_assoc

-- the bytes of a file after post: its locators and its ending
abbrev pub bytes_after_post : FontWords → List ℕ → List Character → List ℕ
bytes_after_post words comment cs =
    locators_from 0 code_count (shipments comment cs) ++ ending (length (bytes_so_far comment cs)) (length (bytes_to_ending words comment cs))

pub file_of-parts : (words : FontWords) (comment : List ℕ) (cs : List Character) → file_of words comment cs
    ≡ bytes_so_far comment cs ++ (post_text words (box_of_all cs) (length (bytes_so_far comment cs)) ++ bytes_after_post words comment cs)
unfolding file_of tail_of
file_of-parts words comment cs = refl

-- a file begins with its preamble and its characters
pub file-begins : (words : FontWords) (comment : List ℕ) (cs : List Character) → (rest : List ℕ) × (file_of words comment cs ≡ bytes_so_far comment cs ++ rest)
file-begins words comment cs = (_, file_of-parts words comment cs)
