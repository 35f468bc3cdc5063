-- The names of refusals, as they appear in texts.
use Rattle.std.specs.Prelude.{ℕ, List, codes}
use Rattle.mf_base.specs.Names.{memory_text}
use Rattle.mf_gf.specs.declared.fault.GfFault.{GfFault}
use Rattle.mf_gf.specs.declared.fault.GfFault.TheVariants.{FileTooLong, NoCharacters, CommentTooLong, OutOfMemory}

-- the name of the refusal of a character or a file
abbrev pub gf_fault_text : GfFault → List ℕ
gf_fault_text FileTooLong = codes "FileTooLong"
gf_fault_text NoCharacters = codes "NoCharacters"
gf_fault_text CommentTooLong = codes "CommentTooLong"
gf_fault_text OutOfMemory = memory_text

-- the name of the fault of a writer; the number of bytes written is in the fault alone
abbrev pub write_fault_text : List ℕ
write_fault_text = codes "WriteFault"
