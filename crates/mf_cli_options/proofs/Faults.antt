-- What clap's errors say about the words.
use Rattle.std.proofs.Common.{◌≡◌, [], inl, inr, subst, arith}
use Rattle.clap.specs.Kinds.{HasKind, IsAmong, Kinds}
use Rattle.clap.specs.Words.{kind_of}
use Rattle.clap.specs.declared.error.Error.{Error}
use Rattle.mf_cli_options.specs.Faults.{words_fault}
use Rattle.mf_cli_options.specs.declared.fault.WordsFault.TheVariants.{BadWords}

-- an error of clap that is not OutOfMemory means that clap finds a fault in the words
pub has_fault : (found : Kinds) (error : Error) → HasKind found error → words_fault (kind_of error) ≡ BadWords → found ≡ [] → ⊥
has_fault found error (inl memory) bad none = grind (arith)
has_fault found error (inr among) bad none = subst (IsAmong (kind_of error)) none among
