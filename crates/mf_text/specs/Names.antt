-- The names of refusals, as they are printed.
use Rattle.std.specs.Prelude.{ℕ, List, ◌++◌, codes, decimal}
use Rattle.mf_base.specs.Names.{memory_text}
use Rattle.mf_geom.specs.Names.{fault_text}
use Rattle.mf_ops.specs.Names.{bad_weight_text, bad_cull_text, bad_scale_text, bad_turn_text}
use Rattle.mf_text.specs.declared.fault.TextFault.{TextFault}
use Rattle.mf_text.specs.declared.fault.TextFault.TheVariants.{Cycle, BadWeight, BadCull, BadScale, BadTurn, OutOfMemory, LineTooLong, NotAscii, Syntax}

-- the name of a refusal, followed by a space and the place or the column where it has one
abbrev pub text_fault_text : TextFault → List ℕ
text_fault_text (Cycle fault) = fault_text fault
text_fault_text BadWeight = bad_weight_text
text_fault_text BadCull = bad_cull_text
text_fault_text BadScale = bad_scale_text
text_fault_text BadTurn = bad_turn_text
text_fault_text OutOfMemory = memory_text
text_fault_text LineTooLong = codes "LineTooLong"
text_fault_text NotAscii = codes "NotAscii"
text_fault_text (Syntax column) = codes "Syntax " ++ decimal column
