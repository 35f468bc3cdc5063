-- Refusals, as the transcript prints them.
use Rattle.std.specs.Prelude.{ℕ, ◌++◌, List, codes}
use Rattle.mf_gf.specs.Names.{gf_fault_text}
use Rattle.mf_gf.specs.declared.fault.GfFault.TheVariants as gf
use Rattle.mf_live.specs.Names.{writer_fault_text}
use Rattle.mf_text_show.specs.Names.{grid_fault_text}
use Rattle.mf_text_show.specs.declared.fault.GridFault.TheVariants as grid
use Rattle.mf_text.specs.Names.{text_fault_text}
use Rattle.mf_desk_session.specs.declared.refusal.Refusal.{Refusal}
use Rattle.mf_desk_session.specs.declared.refusal.Refusal.TheVariants.{Line, Operation, FileTooLong, ProofTooLarge}

-- the name of a refusal and, after a space, the number of the point or vertex, or the column, where it has one
abbrev pub refusal_text : Refusal → List ℕ
refusal_text (Line fault) = text_fault_text fault
refusal_text (Operation fault) = writer_fault_text fault
refusal_text FileTooLong = gf_fault_text gf.FileTooLong
refusal_text ProofTooLarge = grid_fault_text grid.ProofTooLarge

-- the line that reports a refusal
abbrev pub refusal_line : Refusal → List ℕ
refusal_line refusal = codes "refused " ++ refusal_text refusal ++ codes "\n"
