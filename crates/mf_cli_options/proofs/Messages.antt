-- Messages that are written in pieces.
use Rattle.std.proofs.Common.{◌≡◌, ◌++◌, ◌∙◌, ℕ, List, Option, ap, append_assoc, sym}
use Rattle.std.proofs.KnownBytes.{Appends-trans}
use Rattle.std.specs.Io.KnownBytes.{Appends}
use Rattle.mf_base.specs.Messages.{GetsFront}

-- what a writer got of a piece, after a prefix of the message, is a front of it
pub front-after : {message : List ℕ} (held now holds : Option (List ℕ)) (front piece more : List ℕ) → message ≡ front ++ (piece ++ more) → Appends held now front
    → GetsFront now holds piece → GetsFront held holds message
front-after held now holds front piece more whole out (some, rest, is, next) = (
  front ++ some,
  rest ++ more,
  whole ∙ ap (λ p. front ++ (p ++ more)) is ∙ ap (λ p. front ++ p) (append_assoc some rest more) ∙ sym (append_assoc front some (rest ++ more)),
  Appends-trans held now holds front some out next,
)
