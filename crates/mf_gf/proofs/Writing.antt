-- Bytes written one after another.
use Rattle.std.proofs.Common.{◌≡◌, List, ℕ, ◌++◌, w32, to_z, of_z, ap, subst, append_assoc}
use Rattle.std.specs.Prelude.{ℤ, FitsSigned}
use Rattle.std.proofs.lemmas.Int.{to_z-of_z}
use Rattle.mf_gf.specs.declared.spelling.Spelling.{Spelling}
use Rattle.mf_gf.specs.Numbers.{word}
use Rattle.mf_gf.specs.Spellings.{Holds}

-- these bytes were appended to the ones that were there
abbrev pub Writes : Spelling → Spelling → List ℕ → Type 0
Writes before after bytes = (text : List ℕ) → Holds before text → Holds after (text ++ bytes)

pub write_both : {before middle after : Spelling} {first second : List ℕ} → Writes before middle first
    → Writes middle after second → Writes before after (first ++ second)
write_both {before} {middle} {after} {first} {second} writes_first writes_second text held =
    subst (Holds after) (append_assoc text first second) (writes_second (text ++ first) (writes_first text held))

pub write_same : {before after : Spelling} {bytes same : List ℕ} → bytes ≡ same → Writes before after bytes → Writes before after same
write_same {before} {after} is writes = subst (Writes before after) is writes

-- a signed number, as it is passed to a call
pub write_word : {before after : Spelling} (z : ℤ) → FitsSigned w32 z → Writes before after (word (to_z w32 (of_z w32 z))) → Writes before after (word z)
write_word z fits writes = write_same (ap word (to_z-of_z w32 z fits)) writes
