-- What the exit of a `?` answers.
use Rattle.std.proofs.Common.{◌≡◌, IfErr, Result}
use Rattle.std.specs.Result.{IsErrAnd}
use Rattle.std.proofs.lemmas.Result.{err_from_is_err_and}

-- it answers with this fault, of which this is true
pub IfErr-raised : {T E : Type 0} → {fault : E} (r : Result T E) (P : E → Type 0) → IsErrAnd r (λ given. given ≡ fault) → P fault → IfErr r P
IfErr-raised r P raised holds =
    let (given, is, same) = err_from_is_err_and r raised in
    rw (is, same) holds
