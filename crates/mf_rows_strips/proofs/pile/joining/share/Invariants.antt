use Rattle.std.proofs.Common.{◌≡◌, map, take}
use Rattle.std.specs.Arc.{arc_value}
use Rattle.mf_rows_strips.proofs.pile.joining.share.Given as goal

abbrev pub invariant-loop-part : goal.invariant-loop-part
invariant-loop-part l = map arc_value l.shared.items ≡ map arc_value (take l.part-index l.parts)
