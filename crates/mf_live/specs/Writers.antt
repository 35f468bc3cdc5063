-- What contracts say about writers and what they become at the end.
use Rattle.std.specs.Prelude.{◌≡◌, ◌<◌, ℕ, List}
use Rattle.logbook.specs.Pages.{Book}
use Rattle.mf_rows.specs.Dots.{Dot}
use Rattle.mf_live.specs.declared.closing.Closing.{Closing}
use Rattle.mf_live.specs.declared.closing.CloseFault.{CloseFault}
use Rattle.mf_live.specs.declared.closing.CloseFault.TheVariants.{Kept, Halfway}
use Rattle.mf_live.specs.declared.closing.Ended.{Ended}
use Rattle.mf_live.specs.declared.writer.Writer.{Writer}
use Rattle.mf_live.specs.Entries.{End, Entry, accepted_list_with, picture_at, revision_at}
use Rattle.mf_live.specs.Holders as holders
use Rattle.mf_live.specs.Rule.{version_list}

-- which picture it is
abbrev pub identity : Writer → Book
identity w = holders.identity w.holder

-- what was accepted
abbrev pub accepted_list : Writer → List Entry
accepted_list w = holders.accepted_list w.holder

-- what of that is published
abbrev pub published_list : Writer → List Entry
published_list w = holders.published_list w.holder

-- what the writer's copies show
abbrev pub visible_list : Writer → List Entry
visible_list w = version_list (holders.version w.holder)

-- the greatest number of operations that it accepts
abbrev pub max_ops : Writer → ℕ
max_ops w = w.max_ops

-- everything that was accepted, followed by the end mark
abbrev pub complete_list : Writer → List Entry
complete_list w = accepted_list_with (accepted_list w) (published_list w) End

-- the working picture: that of everything that was accepted
abbrev pub working_picture : Writer → List Dot
working_picture w = picture_at (accepted_list w)

-- fewer operations were accepted than may be
abbrev pub IsBelowLimit : Writer → Type 0
IsBelowLimit w = revision_at (accepted_list w) < max_ops w

-- which picture it is whose end mark is set but not published
abbrev pub closing_identity : Closing → Book
closing_identity c = holders.identity c.holder

-- what it has accepted, and what of that is published
abbrev pub closing_accepted_list : Closing → List Entry
closing_accepted_list c = holders.accepted_list c.holder

abbrev pub closing_published_list : Closing → List Entry
closing_published_list c = holders.published_list c.holder

-- which picture has ended
abbrev pub ended_identity : Ended → Book
ended_identity e = holders.identity e.holder

-- what it has published
abbrev pub ended_published_list : Ended → List Entry
ended_published_list e = holders.published_list e.holder

-- the writer is as it was
pub record IsSameWriter (before after : Writer) : Type 0 where
  pub identity : identity after ≡ identity before
  pub accepted : accepted_list after ≡ accepted_list before
  pub published : published_list after ≡ published_list before
  pub max_ops : max_ops after ≡ max_ops before

-- a picture whose end mark is set, but not published, is as it was; and so is one that was closed
pub record IsSameClosing (before after : Closing) : Type 0 where
  pub identity : closing_identity after ≡ closing_identity before
  pub accepted : closing_accepted_list after ≡ closing_accepted_list before
  pub published : closing_published_list after ≡ closing_published_list before

pub record IsSameEnded (before after : Ended) : Type 0 where
  pub identity : ended_identity after ≡ ended_identity before
  pub published : ended_published_list after ≡ ended_published_list before

-- the end mark is set, and nothing was published
pub record IsHalfway (before : Writer) (after : Closing) : Type 0 where
  pub identity : closing_identity after ≡ identity before
  pub accepted : closing_accepted_list after ≡ complete_list before
  pub published : closing_published_list after ≡ published_list before

-- what is handed back where a picture could not be closed
abbrev pub IsHandedBack : Writer → CloseFault → Type 0
IsHandedBack w (Kept v) = IsSameWriter w v
IsHandedBack w (Halfway c) = IsHalfway w c

-- the writer came back, and the end mark is not set
abbrev pub IsKept : CloseFault → Type 0
IsKept (Kept v) = Unit {0}
IsKept (Halfway c) = ⊥
