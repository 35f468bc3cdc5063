-- The state of a run whose bytes so far are known.
use Rattle.std.specs.Prelude.{ℕ, ◌+◌, List, [], Option, ◌≡◌, ◌++◌, length, take}
use Rattle.std.specs.Io.KnownBytes.{IsAtEnd}
use Rattle.std.specs.Str.Lines.{lines}
use Rattle.mf_desk.specs.Ended.{ended_lines, unended_line}
use Rattle.mf_desk.specs.Faults.{Stops}
use Rattle.mf_desk.specs.Streams.{Gets, HasRead, MakesPassage, Passes, Streams}
use Rattle.mf_desk_session.specs.Sessions.{HasPerformed, limits}
use Rattle.mf_desk_session.specs.States.{start}
use Rattle.mf_desk_session.specs.Transcript.{due_lines}
use Rattle.mf_text.specs.Limits.{longest_line}
use Rattle.mf_desk.specs.declared.performer.Performer.{Performer}
use Rattle.mf_desk.specs.declared.observer.Stopped.{Stopped}
use Rattle.mf_desk.specs.declared.progress.Progress.{Progress}

-- these lines have been performed from the start on, and the bytes of their texts are counted
pub record HasCounted (held : Option (List ℕ)) (ls : List (List ℕ)) (performer : Performer) (holds : Option (List ℕ)) : Type 0 where
  pub done : HasPerformed (due_lines (limits performer.session) start ls) performer.session held holds
  pub counted : performer.written ≡ length done.text

-- the run after these bytes of the script: the lines that a line feed ended have been performed, and of the unended line two bytes more
-- than a line may have are kept
pub record IsAfter (held : Option (List ℕ)) (read : List ℕ) (progress : Progress) (holds : Option (List ℕ)) : Type 0 where
  pub lines : HasCounted held (ended_lines read) progress.performer holds
  pub line : progress.line ≡ take (longest_line + 2) (unended_line read)

-- nothing has been read or written, whatever its writer holds
abbrev pub HasReadNothing : Progress → Type 0
HasReadNothing progress = (held : Option (List ℕ)) → IsAfter held [] progress held

-- what was read was performed as a complete script
abbrev pub ReadsThrough : Streams → Performer → Type 0
ReadsThrough s performer = HasRead s (λ read. HasCounted s.held (lines read) performer s.holds)

-- a run that began in this state was stopped, and what has passed through its streams is what the stop says
abbrev pub StopsIn : {F : Type 0} → Progress → Streams → Stopped F → Type 0
StopsIn run s stopped = Passes s (Stops (limits run.performer.session) stopped)

-- whatever was read before these bytes, the run has taken them and goes on
pub record GoesOn (before : Progress) (bytes : List ℕ) (held holds : Option (List ℕ)) (after : Progress) : Type 0 where
  pub goes_on : (first : Option (List ℕ)) (read : List ℕ) → IsAfter first read before held → IsAfter first (read ++ bytes) after holds

-- whatever was read before these bytes, and whatever comes after them, the script is stopped
pub record StopsDuring {F : Type 0} (before : Progress) (bytes : List ℕ) (held holds : Option (List ℕ)) (stopped : Stopped F) : Type 0 where
  pub stops : (first left : Option (List ℕ)) (read more : List ℕ) → IsAfter first read before held
      → Gets first holds (MakesPassage (Stops (limits before.performer.session) stopped) left (read ++ bytes ++ more))

-- whatever was read, to the end of the script, it is stopped
abbrev pub StopsAtEnd : {F : Type 0} → Progress → Option (List ℕ) → Option (List ℕ) → Stopped F → Type 0
StopsAtEnd before held holds stopped = (first left : Option (List ℕ)) (read : List ℕ) → IsAtEnd left → IsAfter first read before held
    → Gets first holds (MakesPassage (Stops (limits before.performer.session) stopped) left read)
