-- The names of refusals, as they appear in texts.
use Rattle.std.specs.Prelude.{ℕ, List, codes}
use Rattle.mf_base.specs.Names.{memory_text}
use Rattle.mf_geom.specs.Names.{fault_text}
use Rattle.mf_rows.specs.Names.{add_fault_text}
use Rattle.mf_rows_strips.specs.declared.fault.AddFault.TheVariants as add
use Rattle.mf_ops.specs.declared.op.OpFault.{OpFault}
use Rattle.mf_ops.specs.declared.op.OpFault.TheVariants.{Cycle, OutOfField, WeightTooLarge, OutOfMemory}

-- the name of the refusal of an operation
abbrev pub op_fault_text : OpFault → List ℕ
op_fault_text (Cycle fault) = fault_text fault
op_fault_text OutOfField = codes "OutOfField"
op_fault_text WeightTooLarge = add_fault_text add.WeightTooLarge
op_fault_text OutOfMemory = memory_text

-- the names of the refusals of parts of an operation: a weight, a cull, a scale or a turn
abbrev pub bad_weight_text : List ℕ
bad_weight_text = codes "BadWeight"

abbrev pub bad_cull_text : List ℕ
bad_cull_text = codes "BadCull"

abbrev pub bad_scale_text : List ℕ
bad_scale_text = codes "BadScale"

abbrev pub bad_turn_text : List ℕ
bad_turn_text = codes "BadTurn"
