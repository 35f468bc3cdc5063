use Rattle.std.proofs.Common.{sym, ◌∙◌}
use Rattle.mf_text.proofs.Finds.{finds_mark}
use Rattle.mf_text.proofs.tokens.front.mark_at.Goals as goal

pub returns : goal.returns
returns c =
    finds_mark c.args.mark c.args.text.now c.text-written.result.now c.text-written.ensures (sym c.begins_with.ensures.value ∙ c.if-not-begins_with.false)
    (sym c.is_longer.ensures ∙ c.if-is_longer.false)
