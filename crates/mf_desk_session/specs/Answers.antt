-- What a line of a script answers: what it prints, and the state after it.
use Rattle.std.specs.Prelude.{◌≡◌, ◌≢◌, ◌⊎◌, ℕ, List, [], ◌++◌, codes, Err, IfErr, IfOk, Ok, Result}
use Rattle.std.specs.Fmt.{signed_decimal}
use Rattle.mf_gf.specs.Keeping.{character}
use Rattle.mf_rows.specs.Dots.{Dot, total_of}
use Rattle.mf_ops.specs.declared.op.Op.TheVariants as ops
use Rattle.mf_text_show.specs.Grid.{IsTooLargeForGrid, grid_text}
use Rattle.mf_text_show.specs.RunText.{run_text}
use Rattle.mf_text.specs.Lines.{Gives, IsRefused}
use Rattle.mf_text.specs.declared.command.Command.{Command}
use Rattle.mf_text.specs.declared.command.Command.TheVariants.{Nothing, Turning, Contour, Also, Cull, Clear, Shift, Scale, Quarter}
use Rattle.mf_text.specs.declared.command.Command.TheVariants.{Total, Show, Proof, Ship, Publish}
use Rattle.mf_text.specs.declared.fault.TextFault.{TextFault}
use Rattle.mf_text.specs.declared.fault.TextFault.TheVariants.{OutOfMemory}
use Rattle.mf_desk_session.specs.Changes.{OpOn, op_on, pictures_after_publish, pictures_unless_refused, operation_text, published_line}
use Rattle.mf_desk_session.specs.Pictures.{source_picture}
use Rattle.mf_desk_session.specs.Refusals.{refusal_line}
use Rattle.mf_desk_session.specs.Shipments.{Ships}
use Rattle.mf_desk_session.specs.States.{Answer, Limits, State, answer_with}
use Rattle.mf_desk_session.specs.declared.refusal.Refusal.TheVariants.{Line, ProofTooLarge}

-- this is printed, and nothing changes
abbrev pub Prints : State → List ℕ → Answer → Type 0
Prints s line a = a ≡ answer_with line s

-- what an operation on a picture answers
abbrev pub Operates : Limits → State → OpOn → Answer → Type 0
Operates limits s o a =
    a ≡ answer_with (operation_text limits.max_ops s.pictures o) (record s { pictures = pictures_unless_refused limits.max_ops s.pictures o })

-- the line that shows a total weight
abbrev pub total_line : List Dot → List ℕ
total_line ds = codes "totalweight " ++ signed_decimal (total_of ds) ++ codes "\n"

-- the grid text is too large, so the refusal is printed
pub record IsRefusedProof (ds : List Dot) (text : List ℕ) : Type 0 where
  pub too_large : IsTooLargeForGrid ds
  pub printed : text ≡ refusal_line ProofTooLarge

-- the grid text is not too large, so it is printed
pub record IsProof (ds : List Dot) (text : List ℕ) : Type 0 where
  pub fits : IsTooLargeForGrid ds → ⊥
  pub printed : text ≡ grid_text ds

-- what `proof` prints of a picture
abbrev pub ProofAnswers : List Dot → List ℕ → Type 0
ProofAnswers ds text = IsRefusedProof ds text ⊎ IsProof ds text

-- what a command answers in a state
abbrev pub AnswersTo : Limits → State → Command → Answer → Type 0
AnswersTo limits s Nothing a = Prints s [] a
AnswersTo limits s (Turning check) a = a ≡ answer_with [] (record s { check = check })
AnswersTo limits s (Contour name cycle weight) a = Operates limits s (op_on name (ops.Contour cycle weight s.check)) a
AnswersTo limits s (Also name source sign) a = Operates limits s (op_on name (ops.Also (source_picture s.pictures source) sign)) a
AnswersTo limits s (Cull name cull) a = Operates limits s (op_on name (ops.Cull cull)) a
AnswersTo limits s (Clear name) a = Operates limits s (op_on name ops.Clear) a
AnswersTo limits s (Shift name dx dy) a = Operates limits s (op_on name (ops.Shift dx dy)) a
AnswersTo limits s (Scale name factors) a = Operates limits s (op_on name (ops.Scale factors)) a
AnswersTo limits s (Quarter name quarter) a = Operates limits s (op_on name (ops.Quarter quarter)) a
AnswersTo limits s (Total source) a = Prints s (total_line (source_picture s.pictures source)) a
AnswersTo limits s (Show source) a = Prints s (run_text (source_picture s.pictures source)) a
AnswersTo limits s (Proof source) a = ProofAnswers (source_picture s.pictures source) a.text × (a.next ≡ s)
AnswersTo limits s (Ship source code dx width) a = Ships limits s (character code dx width (source_picture s.pictures source)) a
AnswersTo limits s Publish a = a ≡ answer_with (published_line s.pictures) (record s { pictures = pictures_after_publish s.pictures })

-- what is answered in a state to what reading a line has answered: what the command answers, or the refusal; where memory is missing,
-- there is no answer
abbrev pub AnswersRead : Limits → State → Result Command TextFault → Answer → Type 0
AnswersRead limits s (Ok command) a = AnswersTo limits s command a
AnswersRead limits s (Err OutOfMemory) a = ⊥
AnswersRead limits s (Err fault) a = Prints s (refusal_line (Line fault)) a

-- a line gives a command, and answers what the command answers
pub record IsPerformed (limits : Limits) (s : State) (line : List ℕ) (a : Answer) : Type 0 where
  pub command : Command
  pub given : Gives line command
  pub answer : AnswersTo limits s command a

-- a line is refused, and prints why
pub record IsRefusedLine (s : State) (line : List ℕ) (a : Answer) : Type 0 where
  pub fault : TextFault
  pub printable : fault ≢ OutOfMemory
  pub refused : IsRefused line fault
  pub answer : Prints s (refusal_line (Line fault)) a

-- reading a line may say this: the command that it gives, or why it is refused
pub record IsReading (line : List ℕ) (read : Result Command TextFault) : Type 0 where
  pub given : IfOk read (Gives line)
  pub refused : IfErr read (IsRefused line)

-- what a line answers in a state
abbrev pub Answers : Limits → State → List ℕ → Answer → Type 0
Answers limits s line a = IsPerformed limits s line a ⊎ IsRefusedLine s line a
