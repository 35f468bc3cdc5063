use Rattle.std.proofs.Common.{◌≡◌, take, w32}
use Rattle.std.specs.Int.{int_wrap}
use Rattle.mf_rows_strips.specs.Parts.{weight_in_parts}
use Rattle.mf_rows_strips.proofs.pile.Pile.weight.Given as goal

abbrev pub invariant-loop-part : goal.invariant-loop-part
invariant-loop-part l = l.weight ≡ int_wrap w32 (weight_in_parts (take l.part-index l.part-items) l.x l.y)
