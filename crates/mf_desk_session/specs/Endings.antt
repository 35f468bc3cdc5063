-- The end of a script: its picture is closed, and its font file is handed out.
use Rattle.std.specs.Prelude.{◌≡◌, List, []}
use Rattle.mf_gf.specs.declared.file.GfFile.{GfFile}
use Rattle.mf_gf.specs.Keeping.{Keeps, max_bytes_of}
use Rattle.mf_live.specs.declared.closing.Closing.{Closing}
use Rattle.mf_live.specs.declared.closing.Ended.{Ended}
use Rattle.mf_live.specs.Entries.{End, Entry, accepted_list_with}
use Rattle.mf_live.specs.Writers.{closing_accepted_list, closing_identity, closing_published_list, ended_identity, ended_published_list}
use Rattle.mf_desk_session.specs.declared.session.EndFault.{EndFault}
use Rattle.mf_desk_session.specs.declared.session.EndFault.TheVariants.{Kept, Halfway}
use Rattle.mf_desk_session.specs.declared.session.Session.{Session}
use Rattle.mf_desk_session.specs.Pictures.{Pictures}
use Rattle.mf_desk_session.specs.Sessions.{StandsFor, identity, limits}
use Rattle.mf_desk_session.specs.States.{State}

-- what `currentpicture` has accepted, followed by the end mark
abbrev pub complete_list : Pictures → List Entry
complete_list p = accepted_list_with p.accepted p.published End

-- the font file keeps the characters, and its greatest number of bytes is that of the session
pub record IsFileOf (session : Session) (s : State) (file : GfFile) : Type 0 where
  pub keeps : Keeps file [] s.characters
  pub max_bytes_is : max_bytes_of file ≡ (limits session).max_bytes

-- everything that was accepted is published, and so is the end mark; the font file keeps what was shipped
pub record HasEnded (session : Session) (s : State) (ended : Ended) (file : GfFile) : Type 0 where
  pub identity_is : ended_identity ended ≡ identity session
  pub published : ended_published_list ended ≡ complete_list s.pictures
  pub file_is : IsFileOf session s file

-- the end mark is set, and nothing was published with it; the font file keeps what was shipped
pub record IsHalfway (session : Session) (s : State) (closing : Closing) (file : GfFile) : Type 0 where
  pub identity_is : closing_identity closing ≡ identity session
  pub accepted : closing_accepted_list closing ≡ complete_list s.pictures
  pub published : closing_published_list closing ≡ s.pictures.published
  pub file_is : IsFileOf session s file

-- a session of the same picture, with the same limits and this state
pub record IsSameSession (session : Session) (s : State) (same : Session) : Type 0 where
  pub identity_is : identity same ≡ identity session
  pub limits_are : limits same ≡ limits session
  pub stands : StandsFor same s

-- what is handed back where an allocation fails
abbrev pub IsHandedBack : Session → State → EndFault → Type 0
IsHandedBack session s (Kept same) = IsSameSession session s same
IsHandedBack session s (Halfway closing file) = IsHalfway session s closing file

-- a session came back, and not an end that is still to be published
abbrev pub IsKept : EndFault → Type 0
IsKept (Kept same) = Unit {0}
IsKept (Halfway closing file) = ⊥
