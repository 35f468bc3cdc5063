use Rattle.std.proofs.Common.{refl}
use Rattle.std.proofs.lemmas.List.Elements.{All-nil}
use Rattle.mf_rows_strips.proofs.writer.PartWriter.with_room.Goals as goal

pub invariant_of-result : goal.invariant_of-result
invariant_of-result c = rw (c.reserve.ensures.items, c.new-heads.ensures.items) (All-nil _)

pub returns : goal.returns
returns c = rw (c.reserve.ensures.items, c.new-heads.ensures.items) refl
