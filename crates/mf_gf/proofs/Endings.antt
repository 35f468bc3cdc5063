-- The ending of a file. Its padding is known only where there is room for what comes before it.
use Rattle.std.proofs.Common.{◌≡◌, ℕ, ◌+◌, ◌<◌, List, [], ◌∷◌, ◌++◌, length, take, pos, subst, ◌∙◌, ⊎_elim, arith, length-append}
use Rattle.std.proofs.lemmas.Int.{ints}
use Rattle.std.specs.Prelude.{replicate}
use Rattle.std.proofs.lemmas.Bool.{cases_lt}
use Rattle.std.proofs.lemmas.List.{take-replicate}
use Rattle.mf_gf.specs.declared.spelling.Spelling.{Spelling}
use Rattle.mf_gf.specs.Files.{ending, padding}
use Rattle.mf_gf.specs.Format as gf
use Rattle.mf_gf.specs.Numbers.{word}
use Rattle.mf_gf.specs.Spellings.{Holds}
use Rattle.mf_gf.proofs.Writing.{Writes, write_both, write_same}

-- of texts for which there is no room, only that much is known
pub holds_beyond : (s : Spelling) (text other : List ℕ) → s.room < length text → s.room < length other → Holds s text → Holds s other
holds_beyond s text other long other_long held = grind (arith, ints)

module _ {before opened placed named after : Spelling} (place written : ℕ) where
  pub holds_ending : Writes before opened (gf.post_post ∷ []) → Writes opened placed (word (pos place)) → Writes placed named (gf.id_byte ∷ [])
      → Writes named after (take (padding (place + written + gf.ending_size)) (replicate gf.most_padding gf.padding_byte))
      → after.room ≡ before.room → written ≡ before.length
      → (text : List ℕ) → Holds before text → Holds after (text ++ ending place (place + length text))
  holds_ending opens places names pads room counts text held =
      let padded = write_same (take-replicate (padding (place + written + gf.ending_size)) gf.most_padding gf.padding_byte (omega arith)) pads in
      let all = write_both (write_both (write_both opens places) names) padded text held in
      ⊎_elim
      (λ long. holds_beyond after (text ++ ending place (place + written)) (text ++ ending place (place + length text))
      (omega (arith, length-append text (ending place (place + written)))) (omega (arith, length-append text (ending place (place + length text)))) all)
      (λ fits. subst (λ n. Holds after (text ++ ending place (place + n))) (counts ∙ held.counted fits) all)
      (cases_lt before.room (length text))
