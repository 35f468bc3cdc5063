-- A message, of which a writer took a front.
use Rattle.std.proofs.Common.{ℕ, List, [], Option, Result, Ok, Err, IfErr, OnOk, drop, take, sym}
use Rattle.std.proofs.lemmas.List.{append-nil, take-append-drop}
use Rattle.std.specs.Io.KnownBytes.{Appends}
use Rattle.mf_base.specs.Messages.{GetsFront}

pub message-counted : {T : Type 0} (held holds : Option (List ℕ)) (r : Result T ℕ) (message : List ℕ) → OnOk r (Appends held holds message)
    → IfErr r (λ count. Appends held holds (take count message)) → GetsFront held holds message
message-counted held holds (Ok done) message all front = (message, [], sym (append-nil message), all)
message-counted held holds (Err count) message all front = (take count message, drop count message, sym (take-append-drop count message), front)
