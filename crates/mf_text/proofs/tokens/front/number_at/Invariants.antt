use Rattle.mf_text.proofs.Digits.{IsNumberTo}
use Rattle.mf_text.proofs.tokens.front.number_at.Given as goal

abbrev pub invariant-loop-digits : goal.invariant-loop-digits
invariant-loop-digits l = IsNumberTo l.text l.digits l.value
