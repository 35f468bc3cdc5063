use Rattle.std.proofs.Common.{◌∙◌, arith}
use Rattle.std.proofs.lemmas.List.{nil_from_length}
use Rattle.mf_rows_strips.proofs.PilesLemmas.{none_alone, no_strips}
use Rattle.mf_rows_strips.proofs.pile.Pile.joined.Goals as goal

pub finish-requires : goal.finish-requires
finish-requires c = rw c.in_ok-with_room-in-None.ensures no_strips

pub returns : goal.returns
returns c =
    rw c.in_ok-new-in-None.ensures.ok
    (none_alone _ _ _ (nil_from_length c.join_all.new.self.parts.items (omega (arith, c.in-None.ensures.cases))) (c.finish.ensures.strips ∙ c.in_ok-with_room-in-None.ensures)
    (c.in_ok-join_all.ensures.weights ∙ c.in_ok-pile.ensures))
