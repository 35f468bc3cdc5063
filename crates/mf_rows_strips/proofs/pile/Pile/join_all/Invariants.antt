use Rattle.std.proofs.Common.{◌≡◌, length}
use Rattle.mf_rows_strips.specs.PileWeights.{weight_in_pile}
use Rattle.mf_rows_strips.proofs.pile.Pile.join_all.Given as goal

abbrev pub invariant-loop-alloc : goal.invariant-loop-alloc
invariant-loop-alloc l = weight_in_pile l.self ≡ weight_in_pile l.fn.self

abbrev pub decreases-loop-alloc : goal.decreases-loop-alloc
decreases-loop-alloc l = length l.self.parts.items
