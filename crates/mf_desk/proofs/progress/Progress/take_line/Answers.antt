use Rattle.std.proofs.Common.{◌∷◌, [], ap, refl, sym}
use Rattle.std.proofs.lemmas.Bool.{eqb-true}
use Rattle.std.proofs.lemmas.List.{nil_from_length}
use Rattle.std.proofs.lemmas.Result.{err_from_is_err_and, on_ok_weaker, IfErr-weaker}
use Rattle.mf_desk_session.specs.Sessions.{limits}
use Rattle.mf_desk.proofs.Intakes.{GoesOn-next, StopsDuring-first, StopsDuring-next, StopsDuring-wanting}
use Rattle.mf_desk.proofs.AfterBytes.{IsAfter-whole, Stops-whole}
use Rattle.mf_desk.proofs.progress.Progress.take_line.Goals as goal

pub returns-then-is_empty-clause-after : goal.returns-then-is_empty-clause-after
returns-then-is_empty-clause-after g c =
    let old = c.args.self.now in
    let none = sym (c.if-is_empty.ensures) in
    let written = rw c.before_line_feed-line.ensures at c.perform.ensures.written in
    on_ok_weaker c.perform.result (λ done. record {
      goes_on = λ held read after. IsAfter-whole held _ read c.args.bytes.now old after none c.requires.unbroken _
          (record { performer = c.perform.new.self; line = old.line }) done c.perform.ensures.limits (nil_from_length old.line (eqb-true _ 0 none));
    }) written

pub returns-then-is_empty-clause-fault : goal.returns-then-is_empty-clause-fault
returns-then-is_empty-clause-fault g c =
    let broken_off = rw c.before_line_feed-line.ensures at c.perform.ensures.fault in
    IfErr-weaker c.perform.result _ _ (λ fault broken. record {
      stops = λ held left read more after.
          Stops-whole held _ read c.args.bytes.now c.args.self.now after (sym (c.if-is_empty.ensures)) c.requires.unbroken fault left _ more broken;
    }) broken_off

pub returns-in_err-keep-clause-fault : goal.returns-in_err-keep-clause-fault
returns-in_err-keep-clause-fault g c =
    let (given, is, same) = err_from_is_err_and c.from_residual.result c.from_residual.ensures.1 in
    let wanting = StopsDuring-wanting c.args.self.now c.args.bytes.now (g.W.Write.contents c.args.writer.now) same c.in_err-keep.ensures.fault in
    rw is (StopsDuring-first (10 ∷ []) wanting refl)

pub returns-clause-after : goal.returns-clause-after
returns-clause-after g c =
    on_ok_weaker c.end_line.result (λ after. GoesOn-next (c.in_ok-keep.ensures.after _) after refl) c.end_line.ensures.after

pub returns-clause-fault : goal.returns-clause-fault
returns-clause-fault g c =
    let same = ap (λ performer. limits performer.session) c.keep.ensures.same in
    IfErr-weaker c.end_line.result _ _ (λ fault stops. StopsDuring-next (c.in_ok-keep.ensures.after _) same stops refl) c.end_line.ensures.fault
