use Rattle.std.proofs.Common.{refl, arith}
use Rattle.std.proofs.lemmas.Int.{ints}
use Rattle.mf_rows.proofs.PassedPixels.{IsStep, differences, further, order, passed_edge, passed_same, step}
use Rattle.mf_rows.proofs.walk.Walk.pass_equal.Goals as goal
use Rattle.mf_rows.proofs.walk.Walk.pass_equal.Goals.{After-pass-edge}

passed : (c : After-pass-edge) → IsStep c.args.self.now.weight c.pass-edge.result
passed c = step c.args.self.now _ _ c.pass-edge.ensures.passed

pub pass-edge-requires : goal.pass-edge-requires
pass-edge-requires c = differences c.args.self.now

pub overflow_add-self : goal.overflow_add-self
overflow_add-self c = let is = passed (goal.at.overflow_add-self c).After-pass-edge in rw (is.before, is.change) is.fits

pub invariant_of-self : goal.invariant_of-self
invariant_of-self c =
    let is = passed (goal.at.invariant_of-self c).After-pass-edge in
    record { reading = rw (c.pass-edge.ensures.same, is.before, is.change, is.column, is.sum) (passed_edge c.args.self.now _ _ c.pass-edge.ensures.passed) }

pub returns-clause-passed : goal.returns-clause-passed
returns-clause-passed c =
    let is = passed (goal.at.returns-clause-passed c).After-pass-edge in
    let next = c.pass-edge.ensures.passed in
    record {
      weights = c.pass-edge.ensures.same;
      row = refl;
      bottom = refl;
      order = rw is.column (order c.args.self.now _ _ next);
      same = λ z left right. passed_same c.args.self.now _ _ next z left (rw is.column at right);
    }

pub returns-clause-further : goal.returns-clause-further
returns-clause-further c =
    let is = passed (goal.at.returns-clause-further c).After-pass-edge in
    rw is.column (further c.args.self.now _ _ c.pass-edge.ensures.passed)

pub returns-clause-next : goal.returns-clause-next
returns-clause-next c =
    let is = passed (goal.at.returns-clause-next c).After-pass-edge in
    rw (is.before, is.change, is.column, is.sum) (λ lt same. c.pass-edge.ensures.passed.nonzero lt (omega (arith, ints)))
