-- Lines that give a command without a contour: they are not refused, not even with `OutOfMemory`.
use Rattle.std.proofs.Common.{◌≡◌, ℕ, List, Result, Ok, Err, IfOk, IfErr, ap, subst}
use Rattle.mf_text.specs.declared.command.Command.{Command}
use Rattle.mf_text.specs.declared.command.Command.TheVariants as command
use Rattle.mf_text.specs.declared.fault.TextFault.{TextFault}
use Rattle.mf_text.specs.declared.fault.TextFault.TheVariants as faults
use Rattle.mf_text.specs.Grammar.{Form, AddContour}
use Rattle.mf_text.specs.Lines.{Gives, IsLineWith, IsRefused}
use Rattle.mf_text.specs.Meaning.{Means, TakesMemory, meaning}
use Rattle.mf_text.proofs.OneAnswer.{given_or_refused, gives_one, same_form}

-- the command has no contour
abbrev pub HasNoContour : Command → Type 0
HasNoContour (command.Contour name cycle weight) = ⊥
HasNoContour given = Unit {0}

form_takes_none : (form : Form) (given : Command) → HasNoContour given → Means (meaning form) given → TakesMemory form → ⊥
form_takes_none (AddContour name path weight) given none is memory = subst HasNoContour is.1.1 none
form_takes_none form given none is memory = memory

wants_no_memory : (line : List ℕ) (given : Command) → HasNoContour given → Gives line given → IsLineWith line TakesMemory → ⊥
wants_no_memory line given none p q =
    form_takes_none q.line.form given none (same_form line (λ form. Means (meaning form) given) TakesMemory p q) q.so

-- a line that gives such a command is not refused, not even with `OutOfMemory`
is_not_refused : (line : List ℕ) (given : Command) (fault : TextFault) → HasNoContour given → Gives line given → IsRefused line fault → ⊥
is_not_refused line given faults.OutOfMemory none p q = wants_no_memory line given none p q
is_not_refused line given fault none p q = given_or_refused line given fault (λ is. cc) p q

-- reading a line that gives such a command says that command
pub reads_as : (line : List ℕ) (read : Result Command TextFault) (given : Command) → HasNoContour given → IfOk read (Gives line)
    → IfErr read (IsRefused line) → Gives line given → read ≡ Ok given
reads_as line (Ok command) given none gives refused p = ap Ok (gives_one line command given gives p)
reads_as line (Err fault) given none gives refused p = absurd (is_not_refused line given fault none p refused)
