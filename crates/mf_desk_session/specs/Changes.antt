-- What commands do with pictures: what they print, and the pictures after them.
use Rattle.std.specs.Prelude.{◌<◌, ◌==◌, ℕ, List, [], ◌++◌, Option, None, Some, option_map, codes, decimal, slice_set, if◌then◌else◌}
use Rattle.mf_live.specs.Entries.{accepted_list_with, revision_at, Operation}
use Rattle.mf_live.specs.declared.fault.Fault.{Fault}
use Rattle.mf_live.specs.declared.fault.Fault.TheVariants.{TooManyOperations, Refused}
use Rattle.mf_ops.specs.Step.{next_picture, op_fault}
use Rattle.mf_ops.specs.declared.op.Op.{Op}
use Rattle.mf_text.specs.declared.command.Name.{Name}
use Rattle.mf_text.specs.declared.command.Name.TheVariants.{Current, Register}
use Rattle.mf_desk_session.specs.Pictures.{Pictures, picture}
use Rattle.mf_desk_session.specs.Refusals.{refusal_line}
use Rattle.mf_desk_session.specs.declared.refusal.Refusal.TheVariants.{Operation as RefusedOperation}

-- the refusal of an operation on a picture, if there is one: `currentpicture` accepts up to max_ops operations, a register any
-- number
abbrev pub refusal_of : ℕ → Pictures → Name → Op → Option Fault
refusal_of max_ops s Current op = if revision_at s.accepted == max_ops then Some TooManyOperations else option_map Refused (op_fault (picture s Current) op)
refusal_of max_ops s (Register number) op = option_map Refused (op_fault (picture s (Register number)) op)

-- a clear of a picture is accepted: always for a register, and for `currentpicture` while it accepts operations
abbrev pub IsClearable : ℕ → Pictures → Name → Type 0
IsClearable max_ops s Current = revision_at s.accepted < max_ops
IsClearable max_ops s (Register number) = Unit {0}

-- the pictures after an operation on one of them that is accepted
abbrev pub pictures_after : Pictures → Name → Op → Pictures
pictures_after s Current op = record s { accepted = accepted_list_with s.accepted s.published (Operation op) }
pictures_after s (Register number) op = record s { registers = slice_set s.registers number (next_picture (picture s (Register number)) op) }

-- an operation that is refused prints why, and any other prints nothing
abbrev pub line_if_refused : Option Fault → List ℕ
line_if_refused None = []
line_if_refused (Some why) = refusal_line (RefusedOperation why)

-- an operation that is refused changes nothing, and any other makes the new pictures
abbrev pub unless_refused : Option Fault → Pictures → Pictures → Pictures
unless_refused None s new = new
unless_refused (Some why) s new = s

-- an operation, and on which picture
pub record OpOn : Type 0 where
  pub name : Name
  pub op : Op

-- these two, in this order
abbrev pub op_on : Name → Op → OpOn
op_on name op = record { name = name; op = op }

-- what an operation on a picture prints
abbrev pub operation_text : ℕ → Pictures → OpOn → List ℕ
operation_text max_ops s o = line_if_refused (refusal_of max_ops s o.name o.op)

-- the pictures after it: as before where it is refused
abbrev pub pictures_unless_refused : ℕ → Pictures → OpOn → Pictures
pictures_unless_refused max_ops s o = unless_refused (refusal_of max_ops s o.name o.op) s (pictures_after s o.name o.op)

-- the line that tells the revision of a publish
abbrev pub published_line : Pictures → List ℕ
published_line s = codes "published " ++ decimal (revision_at s.accepted) ++ codes "\n"

-- the pictures once everything that was accepted is published
abbrev pub pictures_after_publish : Pictures → Pictures
pictures_after_publish s = record s { published = s.accepted }
