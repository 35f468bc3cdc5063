use Rattle.mf_rows_strips.proofs.PilesLemmas.{shared_piled}
use Rattle.mf_rows_strips.proofs.pile.Pile.copy.Goals as goal

pub invariant_of-result : goal.invariant_of-result
invariant_of-result c = record { lawful = shared_piled _ _ _ (rw c.deref.ensures.value at c.in_ok-share.ensures) c.args.self.now.lawful }
