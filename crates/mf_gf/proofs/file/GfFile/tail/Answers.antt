use Rattle.std.proofs.Common.{[], ◌∙◌, arith}
use Rattle.std.proofs.lemmas.Result.{IfOk-weaker}
use Rattle.mf_gf.specs.Keeping.{tail_after}
use Rattle.mf_gf.specs.Spellings.{Holds}
use Rattle.mf_gf.proofs.TailTexts.{holds_tail, too_long_after}
use Rattle.mf_gf.proofs.file.GfFile.tail.Goals as goal

-- what the spelling holds after the ending
held : (c : goal.After-finish) → Holds c.put_end.new.self (tail_after c.args.self.now c.args.words.now c.args.bounds.now)
held c =
    holds_tail c.args.words.now c.args.bounds.now c.args.self.now.bytes.items _ (c.len-place.ensures ∙ c.args.self.now.bytes.ok.0)
    (c.put_end.ensures.held _ (c.spell.ensures.held _ (c.put_post.ensures.held [] c.new-out.ensures.empty)))

pub returns-clause-bytes : goal.returns-clause-bytes
returns-clause-bytes c = IfOk-weaker c.finish.result _ _ (λ bytes each. each _ (held c)) c.finish.ensures.bytes

pub returns-clause-too_long : goal.returns-clause-too_long
returns-clause-too_long c = too_long_after c.args.self.now _ _ (omega arith) (c.finish.ensures.too_long _ (held c))
