use Rattle.std.proofs.Common.{◌≡◌, ◌-◌, set, arith}
use Rattle.std.proofs.lemmas.List.{length-set}
use Rattle.mf_rows_strips.specs.Parts.{weight_in_parts}
use Rattle.mf_rows_strips.proofs.PilesLemmas.{weights_joined, same_piled}
use Rattle.mf_rows_strips.proofs.pile.Pile.join_last.Goals as goal
use Rattle.mf_rows_strips.proofs.pile.Pile.join_last.Goals.{After-pop}

joined : (c : After-pop) → weight_in_parts (set c.pop.new.self.items (c.len-before.result - 2) c.in_ok-sum.sum) ≡ weight_in_parts c.args.self.now.parts.items
joined c =
    rw c.pop.ensures.rest
    (weights_joined c.args.self.now.parts.items (c.len-before.result - 2) c.in_ok-sum.sum c.in-Ok.sum (omega arith) (omega arith) c.index.ensures c.index-2.ensures c.in_ok-sum.ensures.ok
    (rw (c.deref.ensures, c.deref-2.ensures) at c.in-Ok.ensures.weights))

pub invariant_of-self : goal.invariant_of-self
invariant_of-self c = record { lawful = same_piled (omega (arith, length-set c.pop.new.self.items)) (joined (goal.at.invariant_of-self c).After-pop) c.args.self.now.lawful }

pub returns-clause-weights : goal.returns-clause-weights
returns-clause-weights c = joined (goal.at.returns-clause-weights c).After-pop
