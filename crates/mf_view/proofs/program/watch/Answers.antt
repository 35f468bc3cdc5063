use Rattle.std.proofs.Common.{rules}
use Rattle.std.proofs.lemmas.Result.{err_from_is_err_and}
use Rattle.mf_view.specs.Endings.{transcript_in}
use Rattle.mf_view.specs.declared.fault.ProgramFault.TheVariants.{NoCharacters}
use Rattle.mf_view.proofs.Shown.{nothing_is_told_by, shown_is_told_into}
use Rattle.mf_view.proofs.program.watch.Goals as goal

pub returns-in_err-new-clause-fault : goal.returns-in_err-new-clause-fault
returns-in_err-new-clause-fault g c = nothing_is_told_by c.from_residual.result _ _ _ _

pub returns-in_default-clause-done : goal.returns-in_default-clause-done
returns-in_default-clause-done g c =
    let shown = rw (c.font_words.ensures, c.style.ensures, c.in_ok-new.ensures.value) at c.in_ok-made.ensures.done in
    record { outcome = c.in_ok-made.field-0; shown = shown; some = search rules }

pub returns-in_err-write_font-in-Some-made-clause-fault : goal.returns-in_err-write_font-in-Some-made-clause-fault
returns-in_err-write_font-in-Some-made-clause-fault g c =
    let shown = rw (c.font_words.ensures, c.style.ensures, c.in_ok-new.ensures.value) at c.in_ok-made.ensures.done in
    let raised = c.from_residual-in_err-write_font-in-Some-made in
    let (given, is, _) = err_from_is_err_and raised.result raised.ensures.1 in
    rw is (shown_is_told_into (transcript_in c.args.words) given _ _ _ _ _ shown)

pub returns-in-Some-made-clause-done : goal.returns-in-Some-made-clause-done
returns-in-Some-made-clause-done g c =
    let shown = rw (c.font_words.ensures, c.style.ensures, c.in_ok-new.ensures.value) at c.in_ok-made.ensures.done in
    record { outcome = c.in_ok-made.field-0; shown = shown; some = search rules }

pub returns-clause-fault : goal.returns-clause-fault
returns-clause-fault g c =
    let shown = rw (c.font_words.ensures, c.style.ensures, c.in_ok-new.ensures.value) at c.in_ok-made.ensures.done in
    shown_is_told_into (transcript_in c.args.words) NoCharacters _ _ _ _ _ shown
