-- The names of refusals, as they appear in texts.
use Rattle.std.specs.Prelude.{ℕ, List, codes}
use Rattle.mf_base.specs.Names.{memory_text}
use Rattle.mf_text_show.specs.declared.fault.GridFault.{GridFault}
use Rattle.mf_text_show.specs.declared.fault.GridFault.TheVariants.{ProofTooLarge, OutOfMemory}

-- the name of the refusal of a grid text
abbrev pub grid_fault_text : GridFault → List ℕ
grid_fault_text ProofTooLarge = codes "ProofTooLarge"
grid_fault_text OutOfMemory = memory_text
