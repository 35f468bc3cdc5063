use Rattle.std.proofs.Common.{length}
use Rattle.mf_rows_strips.specs.Parts.{strips_in, strips_of}
use Rattle.mf_rows_strips.proofs.MappedStrips.{IsMappedSoFar}
use Rattle.mf_rows_strips.proofs.mapping.mapped.Given as goal

abbrev pub invariant-loop-strip : goal.invariant-loop-strip
invariant-loop-strip l = IsMappedSoFar l.map l.part.reach l.reach (strips_in l.part) (strips_of l.rest) l.new

abbrev pub decreases-loop-strip : goal.decreases-loop-strip
decreases-loop-strip l = length (strips_of l.rest)
