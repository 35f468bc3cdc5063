use Rattle.std.proofs.Common.{sym, ◌∙◌}
use Rattle.mf_text.proofs.Finds.{finds_word}
use Rattle.mf_text.proofs.tokens.front.word_at.Goals as goal

pub returns : goal.returns
returns c =
    finds_word c.args.word c.args.text.now c.text-written.result.now c.text-written.ensures (sym c.begins_with.ensures.value ∙ c.if-not-begins_with.false)
    (sym c.has_letter.ensures ∙ c.if-has_letter.false)
