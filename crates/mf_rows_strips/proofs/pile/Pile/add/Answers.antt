use Rattle.std.proofs.Common.{ap, ◌∙◌, arith}
use Rattle.std.specs.Arc.{arc_value}
use Rattle.std.proofs.lemmas.Int.{ints}
use Rattle.mf_rows_strips.specs.declared.part.Part.{Part}
use Rattle.mf_rows_strips.specs.Parts.{weight_in_parts}
use Rattle.mf_rows_strips.proofs.PilesLemmas.{pushed_weights, pushed_piled, sum_is_small, piled_least}
use Rattle.mf_rows_strips.proofs.pile.Pile.add.Goals as goal

pub invariant_of-self-2 : goal.invariant_of-self-2
invariant_of-self-2 c =
    let piled = c.args.self.now.lawful in
    let part = (arc_value c.args.part).lawful in
    let is = sum_is_small c.args.self.now.reach (arc_value c.args.part).reach c.reach.result (piled_least piled) piled.most part.least part.most
    (c.reach.ensures ∙ ap (λ (p : Part). p.reach) c.deref.ensures) in
    let small = rw is at c.if-reach-gt-MAX_WEIGHT.false in
    rw (c.in_ok-push.ensures.items, is)
    (record { lawful = pushed_piled _ c.args.part _ (rw c.in_ok-make_room.ensures.reach at c.make_room.new.self.lawful) c.in_ok-make_room.ensures.room (omega (arith, ints, small)) })

pub returns-clause-weights : goal.returns-clause-weights
returns-clause-weights c =
    c.join_small.ensures ∙ ap weight_in_parts c.in_ok-push.ensures.items ∙ pushed_weights c.args.self.now c.args.part _ c.in_ok-make_room.ensures.weights
