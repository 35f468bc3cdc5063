use Rattle.std.proofs.Common.{◌∙◌, sym}
use Rattle.std.proofs.lemmas.List.Elements.{All-nil}
use Rattle.mf_view.proofs.Shown.{end_is_told, end_is_told_by, shown_at_end}
use Rattle.mf_view.proofs.performance.end.Goals as goal

pub returns-in-Err-clause-fault : goal.returns-in-Err-clause-fault
returns-in-Err-clause-fault g c = λ s at_end through. end_is_told s _ _ c.args.progress.performer c.requires.limits at_end through

pub returns-in_err-run-clause-fault : goal.returns-in_err-run-clause-fault
returns-in_err-run-clause-fault g c = end_is_told_by c.from_residual.result _ c.args.progress.performer c.requires.limits

pub show_last-requires : goal.show_last-requires
show_last-requires g c =
    let (s, through) = c.requires.through in
    record { identity = c.requires.identity ∙ sym (c.in_ok-run.ensures.identity s through) }

pub returns-in_err-conclude-in-Ok-clause-fault : goal.returns-in_err-conclude-in-Ok-clause-fault
returns-in_err-conclude-in-Ok-clause-fault g c =
    end_is_told_by c.from_residual-in_err-conclude-in-Ok.result _ c.args.progress.performer c.requires.limits

pub returns-in_ok-conclude-in-Ok-clause-shown : goal.returns-in_ok-conclude-in-Ok-clause-shown
returns-in_ok-conclude-in-Ok-clause-shown g c = λ first s at_end through drawn.
    let performs = rw c.new.ensures.items at c.in_ok-conclude-in-Ok.ensures.performance in
    let over = rw c.requires.limits at c.in_ok-run.ensures.over in
    shown_at_end s c.args.settings.now _ _ c.in_ok-conclude-in-Ok.field-0 c.show_last.new.run (λ t ended. performs 0 t (All-nil _) ended)
    (c.in-Ok.ensures.shown first drawn) at_end (c.in-Ok.ensures.over _ s (over s through))

pub returns-in-Err-show_last-clause-fault : goal.returns-in-Err-show_last-clause-fault
returns-in-Err-show_last-clause-fault g c = λ s at_end through. end_is_told s _ _ c.args.progress.performer c.requires.limits at_end through
