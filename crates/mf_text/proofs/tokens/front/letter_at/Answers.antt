use Rattle.std.proofs.Common.{◌∙◌, sym, arith}
use Rattle.mf_text.proofs.Finds.{finds_letter}
use Rattle.mf_text.proofs.tokens.front.letter_at.Goals as goal

pub returns : goal.returns
returns c = finds_letter c.args.text.now (omega arith) (omega arith) (omega arith) (sym c.has_letter.ensures ∙ c.if-has_letter.false)
