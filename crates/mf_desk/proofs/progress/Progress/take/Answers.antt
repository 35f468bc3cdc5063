use Rattle.std.proofs.Common.{◌≡◌, ◌+◌, ◌<◌, ◌==◌, ◌++◌, ◌∷◌, ◌∙◌, [], List, ℕ, true, length, get_or, take, drop, sym, ap}
use Rattle.std.proofs.Common.{arith, append-nil, append_assoc, refl, length-append, take-append-drop}
use Rattle.std.proofs.lemmas.Bool.{eqb-true, eq-eqb}
use Rattle.std.proofs.lemmas.List.{drop_more, get_or-take, get_or_default, length-take-le, take_rest}
use Rattle.std.proofs.lemmas.Result.{err_from_is_err_and}
use Rattle.mf_base.proofs.Faults.{IfErr-raised}
use Rattle.mf_desk.proofs.Intakes.{GoesOn-next, StopsDuring-first, StopsDuring-next, StopsDuring-wanting}
use Rattle.mf_desk.proofs.progress.Progress.take.Goals as goal

-- the bytes before a line feed and the line feed, and the rest
around : (rest : List ℕ) (at : ℕ) → at < length rest → (get_or rest at 0 == 10) ≡ true → rest ≡ take at rest ++ 10 ∷ [] ++ drop (at + 1) rest
around rest at within is =
    sym (take-append-drop at rest) ∙ ap (λ more. take at rest ++ more) (drop_more rest at 0 within ∙ ap (λ b. b ∷ drop (at + 1) rest) (eqb-true _ 10 is))
    ∙ sym (append_assoc (take at rest) (10 ∷ []) (drop (at + 1) rest))

-- the bytes that were taken with one more line, and the rest
with_line : (done rest bytes : List ℕ) (at : ℕ) → at < length rest → (get_or rest at 0 == 10) ≡ true → bytes ≡ done ++ rest
    → bytes ≡ done ++ (take at rest ++ 10 ∷ []) ++ drop (at + 1) rest
with_line done rest bytes at within is are =
    are ∙ ap (λ more. done ++ more) (around rest at within is) ∙ sym (append_assoc done (take at rest ++ 10 ∷ []) (drop (at + 1) rest))

pub returns-in_err-take_line-clause-fault : goal.returns-in_err-take_line-clause-fault
returns-in_err-take_line-clause-fault g c =
    let (done, bytes_are, few, goes_on, same, identity_is) = c.lines.invariant in
    let all = with_line done c.lines.rest.now _ c.in-Some.end c.in-Some.ensures.0.high c.in-Some.ensures.1 bytes_are in
    IfErr-raised c.from_residual.result _ c.from_residual.ensures.1
    (StopsDuring-first _ (StopsDuring-next goes_on same c.in_err-take_line.ensures.fault refl) all)

pub lines-preserved : goal.lines-preserved
lines-preserved g c =
    let (done, bytes_are, few, goes_on, same, identity_is) = c.lines.invariant in
    let rest = c.lines.rest.now in
    let at = c.in-Some.end in
    let line = take at rest ++ 10 ∷ [] in (
      done ++ line,
      rw (take_rest rest (at + 1)) (with_line done rest _ at c.in-Some.ensures.0.high c.in-Some.ensures.1 bytes_are),
      omega (arith, few, c.in_ok-take_line.ensures.at_most, length-append done line, length-append (take at rest) (10 ∷ [])),
      GoesOn-next goes_on c.in_ok-take_line.ensures.after refl,
      c.take_line.ensures.limits ∙ same,
      c.take_line.ensures.identity ∙ identity_is,
    )

pub keep-requires : goal.keep-requires
keep-requires g c = λ k d within is. c.in_default.ensures k (omega arith) within (eq-eqb _ 10 (get_or_default c.lines.rest.now k 0 d within ∙ is))

pub returns-clause-after : goal.returns-clause-after
returns-clause-after g c =
    let (done, bytes_are, few, goes_on, same, identity_is) = c.lines.invariant in
    GoesOn-next goes_on (c.in_ok-keep.ensures.after _) bytes_are

pub returns-in_err-keep-clause-fault : goal.returns-in_err-keep-clause-fault
returns-in_err-keep-clause-fault g c =
    let (done, bytes_are, few, goes_on, same, identity_is) = c.lines.invariant in
    let (given, is, raised) = err_from_is_err_and c.from_residual-in_err-keep.result c.from_residual-in_err-keep.ensures.1 in
    let wanting = StopsDuring-wanting c.lines.self c.lines.rest.now (g.W.Write.contents c.lines.writer) raised c.in_err-keep.ensures.fault in
    rw is (StopsDuring-next goes_on same wanting bytes_are)

pub lines-init : goal.lines-init
lines-init g c = ([], refl, omega arith, record { goes_on = λ held read after. rw (append-nil read) after }, refl, refl)

pub take_line-requires-clause-unbroken : goal.take_line-requires-clause-unbroken
take_line-requires-clause-unbroken g c = grind (arith, length-take-le, eq-eqb, get_or_default, sym, get_or-take)
