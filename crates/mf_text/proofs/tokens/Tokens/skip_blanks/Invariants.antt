use Rattle.std.proofs.Common.{◌≡◌, length}
use Rattle.mf_text.specs.Reads.{remaining_tokens}
use Rattle.mf_text.proofs.tokens.Tokens.skip_blanks.Given as goal

abbrev pub invariant-loop-self : goal.invariant-loop-self
invariant-loop-self l = remaining_tokens l.self ≡ remaining_tokens l.fn.self

abbrev pub decreases-loop-self : goal.decreases-loop-self
decreases-loop-self l = length l.self.unread.now
