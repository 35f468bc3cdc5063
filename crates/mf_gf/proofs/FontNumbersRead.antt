-- The comment of a file and the numbers of its post, read back.
use Rattle.std.proofs.Common.{◌≡◌, ◌≤◌, ℕ, List, [], ◌∷◌, ◌++◌, length, drop, Some, option_map}
use Rattle.std.proofs.Common.{ap, sym, subst, ◌∙◌, append_assoc, append-nil, length-append, arith}
use Rattle.std.proofs.lemmas.Int.{ints}
use Rattle.std.proofs.Math.Seq.{drop-append_seam, take-append_seam}
use Rattle.mf_gf.specs.declared.file.FontWords.{FontWords}
use Rattle.mf_gf.specs.Files.{Character, FileSoFar, box_of_all, bytes_so_far, file_of}
use Rattle.mf_gf.specs.Files.{last_place, post_text, preamble, shipment_after, shipments, with_character, with_characters}
use Rattle.mf_gf.specs.FontNumbers.{IsBeforePost, comment_of, post_of, read_post}
use Rattle.mf_gf.specs.Numbers.{greatest_word}
use Rattle.mf_gf.specs.Pointers.{AreShippable}
use Rattle.mf_gf.specs.Spelling.{pointer, spell}
use Rattle.mf_gf.proofs.CharactersRead.{AllStand, StandsAt, is_at, pointer_fits, stand_from, stands_before}
use Rattle.mf_gf.proofs.PostFound.{post_place-file}
use Rattle.mf_gf.proofs.Shipped.{bytes_after_post, bytes_so_far-more, file-begins, file_of-parts, shipments-more}

-- ---- the comment

with_characters-begins : (f : FileSoFar) (cs : List Character) → (rest : List ℕ) × ((with_characters f cs).bytes ≡ f.bytes ++ rest)
unfolding with_characters
with_characters-begins f [] = ([], sym (append-nil f.bytes))
with_characters-begins f (c ∷ cs) = grind (arith, ints, append_assoc, with_characters-begins (with_character f c) cs)

pub comment_of-file : (words : FontWords) (comment : List ℕ) (cs : List Character) → comment_of (file_of words comment cs) ≡ Some comment
unfolding comment_of
comment_of-file words comment cs =
    let begins = file-begins words comment cs in
    let after = with_characters-begins (record { bytes = preamble comment; shipped = [] }) cs in
    ap comment_of (begins.1 ∙ ap (λ bytes. bytes ++ begins.0) after.1 ∙ append_assoc (preamble comment) after.0 begins.0)
    ∙ ap (λ it. Some it) (take-append_seam comment (after.0 ++ begins.0))

-- ---- post

module _ (words : FontWords) (comment : List ℕ) (cs : List Character) where
  -- the bytes of post, and those after it
  abbrev pub all_bytes : List ℕ
  all_bytes = post_text words (box_of_all cs) (length (bytes_so_far comment cs)) ++ bytes_after_post words comment cs

  pub post_of-file : length (bytes_so_far comment cs) ≤ greatest_word → post_of (file_of words comment cs) ≡ Some (read_post all_bytes)
  unfolding post_of
  post_of-file short =
      let characters = bytes_so_far comment cs in
      ap (option_map (λ at. read_post (drop at (file_of words comment cs)))) (post_place-file words comment cs short)
      ∙ ap (λ bytes. Some (read_post (drop (length characters) bytes))) (file_of-parts words comment cs)
      ∙ ap (λ bytes. Some (read_post bytes)) (drop-append_seam characters all_bytes)

-- ---- the last character

pub last_before_post : (words : FontWords) (comment : List ℕ) (cs : List Character) (c : Character) → AreShippable comment (cs ++ c ∷ [])
    → IsBeforePost (file_of words comment (cs ++ c ∷ [])) c
last_before_post words comment cs c shippable =
    let all = cs ++ c ∷ [] in
    let before = bytes_so_far comment cs in
    let bytes = bytes_so_far comment all in
    let s = shipment_after before c in
    let p = pointer (last_place c.code (shipments comment cs)) in
    let begins = file-begins words comment all in
    let stand = subst (AllStand bytes) (shipments-more comment cs c) (stand_from _ all shippable.each tt) in
    let in_file = subst (λ file. StandsAt file s p) (sym begins.1) (stands_before bytes begins.0 s p stand.0) in (
      length before,
      p,
      is_at (file_of words comment all) s p in_file (pointer_fits bytes c.code (shipments comment cs) shippable.short stand.1),
      post_place-file words comment all shippable.short
          ∙ ap (λ n. Some n) (ap length (bytes_so_far-more comment cs c) ∙ length-append before (spell c.code p c.black)),
    )
