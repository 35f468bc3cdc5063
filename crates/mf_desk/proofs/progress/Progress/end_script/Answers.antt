use Rattle.std.proofs.Common.{ℕ, List, Option, append-nil, inr, sym}
use Rattle.std.specs.Str.Lines.{lines}
use Rattle.mf_desk.specs.Progress.{HasCounted, IsAfter}
use Rattle.mf_base.proofs.Faults.{IfErr-raised}
use Rattle.mf_desk.proofs.Ended.{lines-none}
use Rattle.mf_desk.proofs.AfterBytes.{HasCounted-flushed, HasCounted-last, unended_line-none, Stops-last, Breaks-flush}
use Rattle.mf_desk.proofs.progress.Progress.end_script.Goals.{In_ok-perform}
use Rattle.mf_desk.proofs.progress.Progress.end_script.Goals as goal

pub returns-then-is_empty-clause-done : goal.returns-then-is_empty-clause-done
returns-then-is_empty-clause-done g c = λ held read after.
    rw (lines-none read (unended_line-none held _ read c.args.self.now after (sym c.if-is_empty.ensures))) after.lines

pub returns-in_err-perform-clause-fault : goal.returns-in_err-perform-clause-fault
returns-in_err-perform-clause-fault g c =
    let broken = rw c.at_end.ensures at c.in_err-perform.ensures.fault in
    IfErr-raised c.from_residual.result _ c.from_residual.ensures.1 (λ held left read all_read after.
    Stops-last held _ read c.args.self.now after c.in_err-perform.field-0.0 left _ all_read (sym (c.if-is_empty.ensures)) broken)

-- the last line has been performed, and its text written
HasCounted-performed : (g : _) (c : In_ok-perform g) (held : Option (List ℕ)) (read : List ℕ)
    → IsAfter held read c.args.self.now (g.W.Write.contents c.args.writer.now)
    → HasCounted held (lines read) c.perform.new.self (g.W.Write.contents c.perform.new.writer)
HasCounted-performed g c held read after =
    HasCounted-last held _ read c.args.self.now after _ c.perform.new.self (sym c.if-is_empty.ensures) c.perform.ensures.limits
    (rw c.at_end.ensures at c.in_ok-perform.ensures.written)

pub returns-clause-done : goal.returns-clause-done
returns-clause-done g c = λ held read after.
    HasCounted-flushed held _ _ _ c.perform.new.self c.flush.ensures.kept
    (HasCounted-performed g (goal.at.returns-clause-done g c).In_ok-perform held read after)

pub returns-in_err-flush-clause-fault : goal.returns-in_err-flush-clause-fault
returns-in_err-flush-clause-fault g c =
    let done = HasCounted-performed g (goal.at.returns-in_err-flush-clause-fault g c).In_ok-perform in
    IfErr-raised c.from_residual-in_err-flush.result _ c.from_residual-in_err-flush.ensures.1 (λ held left read all_read after.
    Breaks-flush left _ read (done held read after) (inr (all_read, sym (append-nil _))) c.perform.ensures.limits c.flush.ensures.kept
    c.in_err-flush.ensures.fault)
