-- What a run answers, with viewers or without.
use Rattle.std.specs.Prelude.{◌≡◌, ◌≤◌, ◌<◌, ◌⊎◌, ℕ, zero, suc, All, List, [], ◌++◌, Option, codes, decimal, length}
use Rattle.std.specs.Fmt.{signed_decimal}
use Rattle.std.specs.Io.KnownBytes.{Appends, IsAtEnd}
use Rattle.mf_gf.specs.Files.{IsLongFile, file_if_any}
use Rattle.mf_desk.specs.declared.fault.RunFault.{RunFault}
use Rattle.mf_desk.specs.declared.fault.RunFault.TheVariants.{OutOfMemory, NoPlace, FileTooLong, ReadFault, WriteFault, NoLook}
use Rattle.mf_desk_watch.specs.declared.glance.Glance.{Glance}
use Rattle.mf_desk.specs.declared.outcome.Outcome.{Outcome}
use Rattle.mf_desk.specs.declared.settings.Settings.{Settings}
use Rattle.mf_desk_session.specs.Endings.{complete_list}
use Rattle.mf_desk.specs.Ended.{ended_lines}
use Rattle.mf_desk.specs.Faults.{IsTextSoFar}
use Rattle.mf_desk.specs.Streams.{HasRead, IsCutAfter, Passage, Streams}
use Rattle.mf_desk_session.specs.States.{Limits, least_bytes, limits_of}
use Rattle.mf_desk_session.specs.Transcript.{IsTextOf, IsTranscript}
use Rattle.mf_desk_watch.specs.Watchers.{HasSeen, glance_at}

-- the limits of a session, from the settings of a run
abbrev pub run_limits : Settings → Limits
run_limits settings = limits_of settings.max_ops settings.max_bytes

-- the line of the viewer with this number, whose last glance is this
abbrev pub viewer_line : ℕ → Glance → List ℕ
viewer_line number g =
    codes "viewer " ++ decimal number ++ codes " revision " ++ decimal g.revision ++ codes " totalweight " ++ signed_decimal g.total ++ codes "\n"

-- the lines of the first n viewers
unfoldable pub viewer_lines : ℕ → Glance → List ℕ
viewer_lines zero g = []
viewer_lines (suc n) g = viewer_lines n g ++ viewer_line n g

-- the transcript of these bytes of a script, and the lines of this many viewers
pub record IsCompleteText (limits : Limits) (viewers : ℕ) (read text : List ℕ) : Type 0 where
  pub transcript : List ℕ
  pub script : IsTranscript limits read transcript
  pub is : text ≡ transcript ++ viewer_lines viewers (glance_at (complete_list script.last.pictures))

-- what a run is asked for: its limits and its font, how many viewers look on, and how often each looks in its thread
pub record Task : Type 0 where
  pub settings : Settings
  pub viewers : ℕ
  pub looks : ℕ

-- these three, in this order
abbrev pub task : Settings → ℕ → ℕ → Task
task settings viewers looks = record { settings = settings; viewers = viewers; looks = looks }

-- a successful run on these bytes: its writer has got the transcript and the line of each viewer, and the
-- outcome is the font file of exactly the characters that were shipped, which is not too long, and the record of each viewer; a run
-- without viewers has no line of one, and no record
pub record IsPerformance (t : Task) (outcome : Outcome) (s : Streams) (input : List ℕ) : Type 0 where
  pub text : List ℕ
  pub complete : IsCompleteText (run_limits t.settings) t.viewers input text
  pub out : Appends s.held s.holds text
  pub fits : IsLongFile (run_limits t.settings).max_bytes t.settings.font [] complete.script.last.characters → ⊥
  pub font : outcome.gf ≡ file_if_any t.settings.font [] complete.script.last.characters
  pub count : length outcome.seen.items ≡ t.viewers
  pub seen : All (λ v. HasSeen (complete_list complete.script.last.pictures) t.looks v.items) outcome.seen.items

-- the run was successful on the bytes that it has read; where the reader is at its end, they are all that it had
abbrev pub Performs : Task → Streams → Outcome → Type 0
Performs t s outcome = HasRead s (IsPerformance t outcome s)

-- the script was read to its end, and this is the complete transcript, and the lines of none or of all of these viewers
pub record IsShownText (limits : Limits) (viewers : ℕ) (left : Option (List ℕ)) (read text : List ℕ) : Type 0 where
  pub all_read : IsAtEnd left
  pub shown : ℕ
  pub none_or_all : (shown ≡ 0) ⊎ (shown ≡ viewers)
  pub complete : IsCompleteText limits shown read text

-- what the first of the completely read lines print, or the complete transcript and the lines of none or of all of these viewers
abbrev pub IsDueText : Limits → ℕ → Option (List ℕ) → List ℕ → List ℕ → Type 0
IsDueText limits viewers left read text = IsTextSoFar limits left read text ⊎ IsShownText limits viewers left read text

-- nothing was read or written
abbrev pub IsNothing : Passage → Type 0
IsNothing p = (p.read ≡ []) × (p.written ≡ [])

-- what each fault says that ends a run beside this many viewers. After `OutOfMemory` a due text was written, and after `WriteFault` the
-- start of one, with as many bytes as its number says; after `ReadFault` the texts of the lines that a line feed ended. After `NoLook`
-- no line of a viewer is written. After `FileTooLong` all is written, and the font file would be too long, or the limit is below the
-- length of the shortest preamble, and nothing was read or written. After `NoPlace`, which comes only where there is a viewer, nothing
-- was, either
abbrev pub TellsOfRun : Settings → ℕ → RunFault → Passage → Type 0
TellsOfRun settings viewers OutOfMemory p = IsDueText (run_limits settings) viewers p.left p.read p.written
TellsOfRun settings viewers (WriteFault count) p = IsCutAfter count (IsDueText (run_limits settings) viewers p.left p.read) p.written
TellsOfRun settings viewers ReadFault p = IsTextOf (run_limits settings) (ended_lines p.read) p.written
TellsOfRun settings viewers NoLook p = (some : IsShownText (run_limits settings) viewers p.left p.read p.written) × (some.shown < viewers)
TellsOfRun settings viewers FileTooLong p =
    (IsAtEnd p.left × (all : IsCompleteText (run_limits settings) viewers p.read p.written)
    × IsLongFile (run_limits settings).max_bytes settings.font [] all.script.last.characters)
    ⊎ ((settings.max_bytes < least_bytes) × IsNothing p)
TellsOfRun settings viewers NoPlace p = (0 < viewers) × IsNothing p
