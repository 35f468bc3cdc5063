use Rattle.std.proofs.Common.{◌≡◌, ◌+◌, ℕ, List, [], ◌∷◌, ◌++◌, length, replicate, pos, sym, subst, append_assoc, length-append, arith}
use Rattle.std.proofs.lemmas.List.{length-replicate}
use Rattle.mf_gf.specs.Files.{IsPadded, bytes_so_far, ending, padding}
use Rattle.mf_gf.specs.Format as gf
use Rattle.mf_gf.specs.Numbers.{word}
use Rattle.mf_gf.proofs.Shipped.{bytes_to_ending, file_of-ending}
use Rattle.mf_gf.proofs.laws.files_are_padded.Goals as goal

length-ending : (place before : ℕ) → length (ending place before) ≡ gf.ending_size + padding (before + gf.ending_size)
length-ending place before = let pad = length-replicate {A = ℕ} (padding (before + gf.ending_size)) gf.padding_byte in omega (arith, pad)

-- a text with the ending that its length requires is padded
is_padded : (text : List ℕ) (place : ℕ) → IsPadded (text ++ ending place (length text))
is_padded text place =
    let before = length text in
    let both = length-append text (ending place before) in
    let last = length-ending place before in
    record {
      multiple = omega (arith, both, last);
      before = text ++ ((gf.post_post ∷ []) ++ word (pos place));
      count = padding (before + gf.ending_size);
      least = omega arith;
      most = omega arith;
      ends = sym (append_assoc text ((gf.post_post ∷ []) ++ word (pos place)) (gf.id_byte ∷ replicate (padding (before + gf.ending_size)) gf.padding_byte));
    }

pub returns : goal.returns
returns c = λ words comment cs.
    subst IsPadded (sym (file_of-ending words comment cs)) (is_padded (bytes_to_ending words comment cs) (length (bytes_so_far comment cs)))
