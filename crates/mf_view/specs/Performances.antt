-- What a performance has written.
use Rattle.std.specs.Prelude.{ℕ, List, OnOk, Option, Result, ◌++◌}
use Rattle.std.specs.Io.KnownBytes.{IsAtEnd}
use Rattle.mf_base.specs.Messages.{Receipt, receipt}
use Rattle.mf_desk.specs.Faults.{IsTextSoFar}
use Rattle.mf_desk.specs.Performances.{IsPerformance, task}
use Rattle.mf_desk.specs.Progress.{ReadsThrough}
use Rattle.mf_desk.specs.Streams.{HasRead, Passage, Streams}
use Rattle.mf_desk.specs.declared.fault.RunFault.{RunFault}
use Rattle.mf_desk.specs.declared.fault.RunFault.TheVariants.{WriteFault}
use Rattle.mf_desk.specs.declared.observer.Stopped.{Stopped}
use Rattle.mf_desk.specs.declared.observer.Stopped.TheVariants as stopped
use Rattle.mf_desk.specs.declared.outcome.Outcome.{Outcome}
use Rattle.mf_desk.specs.declared.performer.Performer.{Performer}
use Rattle.mf_desk.specs.declared.settings.Settings.{Settings}
use Rattle.mf_desk_session.specs.Endings.{complete_list}
use Rattle.mf_desk_session.specs.States.{Limits}
use Rattle.mf_view.specs.Drawings.{HasDrawn, ShowsLast}
use Rattle.mf_view.specs.Easels.{Manner, manner, manner_of}
use Rattle.mf_view.specs.declared.easel.Easel.{Easel}
use Rattle.mf_view.specs.declared.fault.ProgramFault.{ProgramFault}
use Rattle.mf_view.specs.declared.fault.ProgramFault.TheVariants.{Run}
use Rattle.mf_view.specs.declared.performance.Showing.{Showing}

-- the manner in which a performance is shown
abbrev pub manner_in : Showing → Manner
manner_in showing = manner showing.style showing.canvas

-- the script of these bytes was performed to its end, and the screen has got frames of its pictures, the last of which shows its last
-- picture
pub record IsShown (settings : Settings) (manner : Manner) (screen : Receipt) (outcome : Outcome) (s : Streams) (read : List ℕ) : Type 0 where
  pub all_read : IsAtEnd s.left
  pub performed : IsPerformance (task settings 0 0) outcome s read
  pub shown : ShowsLast manner (complete_list performed.complete.script.last.pictures) screen

-- a script was performed and shown, that of the reader
abbrev pub Shows : Settings → Manner → Receipt → Streams → Outcome → Type 0
Shows settings manner screen s outcome = HasRead s (IsShown settings manner screen outcome s)

-- whatever the screen had got before: where the script was read through, and the easel has drawn it unless the drawing failed, it is shown
abbrev pub ShowsAtEnd : Settings → Easel → Performer → Result (Unit {0}) RunFault → Receipt → Outcome → Type 0
ShowsAtEnd settings easel performer drawn screen outcome =
    (first : Option (List ℕ)) (s : Streams) → IsAtEnd s.left → ReadsThrough s performer → OnOk drawn (HasDrawn easel (receipt first screen.held))
    → Shows settings (manner_of easel) (receipt first screen.holds) s outcome

-- the fault of a performance that is stopped while it reads its script
abbrev pub fault_of_stop : Stopped ProgramFault → ProgramFault
fault_of_stop (stopped.Run fault) = Run fault
fault_of_stop (stopped.Observer fault) = fault

-- what a fault says of the transcript: it has got what the first of the completely read lines print, which may be cut after a `WriteFault`,
-- as that may be a fault of the transcript
abbrev pub TellsOfShow : Limits → ProgramFault → Passage → Type 0
TellsOfShow limits (Run (WriteFault count)) p = (rest : List ℕ) × IsTextSoFar limits p.left p.read (p.written ++ rest)
TellsOfShow limits _ p = IsTextSoFar limits p.left p.read p.written
