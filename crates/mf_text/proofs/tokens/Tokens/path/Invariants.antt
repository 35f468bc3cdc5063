use Rattle.std.proofs.Common.{length}
use Rattle.mf_text.specs.Reads.{remaining_tokens}
use Rattle.mf_text.proofs.Reading.{IsInPath}
use Rattle.mf_text.proofs.tokens.Tokens.path.Given as goal

abbrev pub invariant-corners : goal.invariant-corners
invariant-corners l = IsInPath l.fn.self l.tokens l.path

abbrev pub decreases-corners : goal.decreases-corners
decreases-corners l = length (remaining_tokens l.tokens)
