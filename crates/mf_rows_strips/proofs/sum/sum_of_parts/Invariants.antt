use Rattle.std.proofs.Common.{◌+◌, length}
use Rattle.mf_rows_strips.specs.Parts.{strips_in, strips_of}
use Rattle.mf_rows_strips.proofs.SumsLemmas.{IsSumSoFar}
use Rattle.mf_rows_strips.proofs.sum.sum_of_parts.Given as goal

-- the sum of the strips that were passed
abbrev pub invariant-loop-top : goal.invariant-loop-top
invariant-loop-top l = IsSumSoFar (strips_in l.fn.left) (strips_in l.fn.right) l.fn.left.reach l.fn.right.reach l.reach l.left l.right l.sum

abbrev pub decreases-loop-top : goal.decreases-loop-top
decreases-loop-top l = length (strips_of l.left.strips) + length (strips_of l.right.strips)
