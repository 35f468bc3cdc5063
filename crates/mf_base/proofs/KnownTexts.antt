-- Texts that are written in several writes.
use Rattle.std.proofs.Common.{◌≡◌, ℕ, ◌+◌, ◌-◌, List, ◌++◌, Option, length, take, drop, sym, ap, ◌∙◌, subst}
use Rattle.std.proofs.Math.Seq.{take-add}
use Rattle.std.proofs.lemmas.List.{take_rest}
use Rattle.std.specs.Io.KnownBytes.{Appends}
use Rattle.std.proofs.KnownBytes.{Appends-trans}

-- a write of n bytes of the rest, after the first `sent` were written
pub Appends-more : (held now new : Option (List ℕ)) (bytes : List ℕ) (sent n : ℕ) → Appends held now (take sent bytes)
    → Appends now new (take n (take (length bytes - sent) (drop sent bytes))) → Appends held new (take (sent + n) bytes)
Appends-more held now new bytes sent n before more =
    let went_out : take (sent + n) bytes ≡ take sent bytes ++ take n (take (length bytes - sent) (drop sent bytes)) =
    take-add sent n bytes ∙ ap (λ rest. take sent bytes ++ take n rest) (sym (take_rest bytes sent)) in
    subst (Appends held new) (sym went_out) (Appends-trans held now new _ _ before more)
