-- A run whose script has ended.
use Rattle.std.specs.Prelude.{◌≡◌, ◌<◌, ◌∷◌, ◌++◌, ℕ, All, IfErr, IfOk, List, Option, Result, Vec, [], length, map}
use Rattle.std.specs.Io.KnownBytes.{IsAtEnd}
use Rattle.std.specs.declared.alloc.Global.{Global}
use Rattle.mf_gf.specs.Keeping.{Keeps, max_bytes_of}
use Rattle.mf_live.specs.Writers.{ended_identity, ended_published_list}
use Rattle.mf_live.specs.declared.look.NoLook.{NoLook}
use Rattle.mf_desk.specs.declared.ended_run.EndedRun.{EndedRun}
use Rattle.mf_desk.specs.declared.fault.RunFault.{RunFault}
use Rattle.mf_desk.specs.declared.outcome.Outcome.{Outcome}
use Rattle.mf_desk.specs.declared.settings.Settings.{Settings}
use Rattle.mf_desk_watch.specs.declared.glance.Glance.{Glance}
use Rattle.mf_desk_session.specs.Endings.{complete_list}
use Rattle.mf_desk.specs.Performances.{IsCompleteText, Performs, TellsOfRun, run_limits, task}
use Rattle.mf_desk_session.specs.States.{Limits}
use Rattle.mf_desk.specs.Streams.{Gets, HasRead, Passes, Streams, streams}
use Rattle.mf_desk_watch.specs.Watchers.{HasSeen, glance_at, record_of}
use Rattle.mf_desk_watch.specs.declared.watcher.Watcher.{Watcher}

-- the run of these bytes after the end of the script, once this text was written and counted: the transcript, and the lines of so many
-- viewers; everything that was accepted is published, and the font file, which has the limit, keeps what was shipped
pub record IsOver (limits : Limits) (viewers : ℕ) (read : List ℕ) (run : EndedRun) (text : List ℕ) : Type 0 where
  pub complete : IsCompleteText limits viewers read text
  pub published : ended_published_list run.ended ≡ complete_list complete.script.last.pictures
  pub file : Keeps run.file [] complete.script.last.characters
  pub max_bytes_is : max_bytes_of run.file ≡ limits.max_bytes
  pub counted : run.written ≡ length text

-- what was read was performed as a complete script, and the writer has got its transcript and the lines of so many viewers
abbrev pub EndsWith : Limits → ℕ → Streams → EndedRun → Type 0
EndsWith limits viewers s run = HasRead s (λ read. Gets s.held s.holds (IsOver limits viewers read run))

-- whatever passed before, the writer has got the lines of so many viewers
abbrev pub ShowsLines : ℕ → EndedRun → Option (List ℕ) → Option (List ℕ) → EndedRun → Type 0
ShowsLines viewers before holds later after = (limits : Limits) (unread left held : Option (List ℕ))
    → EndsWith limits 0 (streams unread left held holds) before → EndsWith limits viewers (streams unread left held later) after

-- whatever passed before, and whatever the threads of the viewers gave back, the fault says what has passed by then
abbrev pub StopsShowing : Result (Vec Watcher Global) NoLook → EndedRun → Option (List ℕ) → Option (List ℕ) → RunFault → Type 0
StopsShowing joined before holds later fault = (settings : Settings) (viewers : ℕ) (unread left held : Option (List ℕ))
    → IsAtEnd left → IfOk joined (λ watchers. length watchers.items ≡ viewers) → IfErr joined (λ _. 0 < viewers)
    → EndsWith (run_limits settings) 0 (streams unread left held holds) before → Passes (streams unread left held later) (TellsOfRun settings viewers fault)

-- the glance that a look at its last picture gives
abbrev pub glance : EndedRun → Glance
glance run = glance_at (ended_published_list run.ended)

-- these glances are the record of this many looks and one more, at its last picture
abbrev pub HasSeenLast : EndedRun → ℕ → Vec Glance Global → Type 0
HasSeenLast run looks glances = HasSeen (ended_published_list run.ended) looks glances.items

-- whatever passed before, where these are the records of all viewers, and their lines are written, the run has performed its task
abbrev pub Concludes : Settings → EndedRun → List (Vec Glance Global) → Outcome → Type 0
Concludes settings run records outcome = (looks : ℕ) (s : Streams) → All (HasSeenLast run looks) records
    → EndsWith (run_limits settings) (length records) s run → Performs (task settings (length records) looks) s outcome

-- the record of a viewer, and the glance at the last picture after it
abbrev pub whole_record : EndedRun → Watcher → List Glance
whole_record run watcher = (record_of watcher).items ++ glance run ∷ []

-- the glances of these records
abbrev pub glances_of : List (Vec Glance Global) → List (List Glance)
glances_of = map (λ seen. seen.items)

-- the picture and the font file are as they were
pub record IsSameEnd (before after : EndedRun) : Type 0 where
  pub identity : ended_identity after.ended ≡ ended_identity before.ended
  pub published : ended_published_list after.ended ≡ ended_published_list before.ended
  pub file : after.file ≡ before.file
