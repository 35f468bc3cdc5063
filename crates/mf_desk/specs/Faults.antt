-- What has been written where a run stops before the end of its script.
use Rattle.std.specs.Prelude.{ℕ, List, Option, ◌≡◌, ◌⊎◌, ◌+◌, []}
use Rattle.std.specs.Io.KnownBytes.{IsAtEnd}
use Rattle.std.specs.Str.Lines.{lines}
use Rattle.mf_desk.specs.Ended.{ended_lines}
use Rattle.mf_desk.specs.Streams.{IsCutAfter, Passage}
use Rattle.mf_desk_session.specs.States.{State, Limits, start}
use Rattle.mf_desk_session.specs.Transcript.{IsFirstText, IsTextOf, due_lines}
use Rattle.mf_desk.specs.declared.fault.RunFault.{RunFault}
use Rattle.mf_desk.specs.declared.fault.RunFault.TheVariants.{OutOfMemory, ReadFault, WriteFault}
use Rattle.mf_desk.specs.declared.observer.Stopped.{Stopped}
use Rattle.mf_desk.specs.declared.observer.Stopped.TheVariants.{Run, Observer}

-- these lines have been read completely: those that a line feed ended, or all lines where no byte is left
abbrev pub AreWholeLines : Option (List ℕ) → List ℕ → List (List ℕ) → Type 0
AreWholeLines left read whole = (ended_lines read ≡ whole) ⊎ (IsAtEnd left × (lines read ≡ whole))

-- this is what the first of the completely read lines print
pub record IsTextSoFar (limits : Limits) (left : Option (List ℕ)) (read text : List ℕ) : Type 0 where
  pub whole : List (List ℕ)
  pub are : AreWholeLines left read whole
  pub last : State
  pub first : IsFirstText (due_lines limits start whole) last text

-- what a fault says where one such text is due, after this many bytes of the run
abbrev pub BreaksOff : (List ℕ → Type 0) → ℕ → RunFault → List ℕ → Type 0
BreaksOff IsText before OutOfMemory written = written ≡ []
BreaksOff IsText before (WriteFault count) written = (more : ℕ) × (count ≡ before + more) × IsCutAfter more IsText written
BreaksOff IsText before _ written = ⊥

-- the same of what stops a run: its observer stops it after such a text
abbrev pub StopsAfter : {F : Type 0} → (List ℕ → Type 0) → ℕ → Stopped F → List ℕ → Type 0
StopsAfter IsText before (Run fault) written = BreaksOff IsText before fault written
StopsAfter IsText before (Observer fault) written = IsText written

-- what a fault of the script, its reader or its writer says: after `ReadFault` the texts of the lines that a line feed ended have
-- been written; after `OutOfMemory` those of the first completely read lines, so neither a text nor a line is cut; after
-- `WriteFault` the start of such texts, with as many bytes as its number says; no other fault comes
abbrev pub Breaks : Limits → RunFault → Passage → Type 0
Breaks limits OutOfMemory p = IsTextSoFar limits p.left p.read p.written
Breaks limits ReadFault p = IsTextOf limits (ended_lines p.read) p.written
Breaks limits (WriteFault count) p = IsCutAfter count (IsTextSoFar limits p.left p.read) p.written
Breaks limits _ p = ⊥

-- the same of what stops a run: its observer stops it after the texts of the first completely read lines
abbrev pub Stops : {F : Type 0} → Limits → Stopped F → Passage → Type 0
Stops limits (Run fault) p = Breaks limits fault p
Stops limits (Observer fault) p = IsTextSoFar limits p.left p.read p.written
