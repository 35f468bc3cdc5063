use Rattle.std.proofs.Common.{◌∙◌}
use Rattle.std.specs.Arc.{arc_value}
use Rattle.std.proofs.lemmas.Result.{err_from_is_err_and}
use Rattle.mf_rows_strips.proofs.PilesLemmas.{sum_is}
use Rattle.mf_rows_strips.proofs.pile.Pile.add_measured.Goals as goal

pub returns-in_err-sum-clause-too_large : goal.returns-in_err-sum-clause-too_large
returns-in_err-sum-clause-too_large c =
    let large = rw (c.deref.ensures, sum_is c.args.self.now (arc_value c.in_ok-all.all) c.args.part.now c.in_ok-all.ensures) at c.in_err-sum.ensures.too_large in
    let fault = err_from_is_err_and c.from_residual-in_err-sum.result c.from_residual-in_err-sum.ensures.1 in
    rw (fault.1, fault.2) large

pub returns-clause-weights : goal.returns-clause-weights
returns-clause-weights c =
    let made = rw (c.deref.ensures, sum_is c.args.self.now (arc_value c.in_ok-all.all) c.args.part.now c.in_ok-all.ensures) at c.in_ok-sum.ensures.weights in
    (rw c.in_ok-new.ensures.ok at c.in_ok-self.ensures) ∙ (λ i x y. made.weights x y i)
