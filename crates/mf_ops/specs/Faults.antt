-- How refusals of sums of pictures become refusals of operations.
use Rattle.mf_rows_strips.specs.declared.fault.AddFault.{AddFault}
use Rattle.mf_rows_strips.specs.declared.fault.AddFault.TheVariants as add
use Rattle.mf_ops.specs.declared.op.OpFault.{OpFault}
use Rattle.mf_ops.specs.declared.op.OpFault.TheVariants as op

-- the refusal of an operation that comes of this refusal of a sum
abbrev pub sum_fault : AddFault → OpFault
sum_fault add.WeightTooLarge = op.WeightTooLarge
sum_fault add.OutOfMemory = op.OutOfMemory
