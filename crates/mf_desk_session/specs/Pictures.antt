-- The pictures of a script: the live picture `currentpicture`, and those in the registers.
use Rattle.std.specs.Prelude.{List, [], replicate, slice_index_or}
use Rattle.mf_live.specs.Entries.{Entry, picture_at}
use Rattle.mf_rows.specs.Dots.{Dot}
use Rattle.mf_text.specs.declared.command.Name.{Name}
use Rattle.mf_text.specs.declared.command.Name.TheVariants.{Current, Register}
use Rattle.mf_text.specs.declared.command.Source.{Source}
use Rattle.mf_text.specs.declared.command.Source.TheVariants.{Null, Named}
use Rattle.mf_text.specs.Registers.{register_count}

-- what `currentpicture` has accepted, what of that is published, and the picture of each register from `a` on
pub record Pictures : Type 0 where
  pub accepted : List Entry
  pub published : List Entry
  pub registers : List (List Dot)

-- no operation is accepted, and all pictures are blank
abbrev pub blank_pictures : Pictures
blank_pictures = record { accepted = []; published = []; registers = replicate register_count [] }

-- the picture with this name
abbrev pub picture : Pictures → Name → List Dot
picture s Current = picture_at s.accepted
picture s (Register number) = slice_index_or s.registers number []

-- the picture that a command reads
abbrev pub source_picture : Pictures → Source → List Dot
source_picture s Null = []
source_picture s (Named name) = picture s name
