-- The states that a session represents.
use Rattle.std.specs.Prelude.{◌≡◌, ℕ, List, [], Option}
use Rattle.std.specs.Io.KnownBytes.{Appends}
use Rattle.logbook.specs.Pages.{Book}
use Rattle.mf_gf.specs.Keeping.{Keeps, max_bytes_of}
use Rattle.mf_desk_session.specs.declared.session.Session.{Session}
use Rattle.mf_desk_session.specs.States.{Answer, Limits, State, answer_with}
use Rattle.mf_desk_session.specs.Transcript.{DueLines, Perform}
use Rattle.mf_desk_session.specs.Variables as variables

-- a session has the pictures and the turning check of a state, and its font file keeps the state's characters and no comment
pub record StandsFor (session : Session) (s : State) : Type 0 where
  pub pictures : s.pictures ≡ variables.pictures session.variables
  pub check : s.check ≡ session.check
  pub file : Keeps session.file [] s.characters

-- which live picture its `currentpicture` is
abbrev pub identity : Session → Book
identity session = variables.identity session.variables

-- its limits of operations and of bytes
abbrev pub limits : Session → Limits
limits session = record { max_ops = variables.max_ops session.variables; max_bytes = max_bytes_of session.file }

-- a session that has printed this text represents the state after such an answer
pub record HasAnswered (session : Session) (text : List ℕ) (IsSuch : Answer → Type 0) : Type 0 where
  pub next : State
  pub answer : IsSuch (answer_with text next)
  pub stands : StandsFor session next

-- a session has performed all these lines and represents the state after them; a writer, which held some bytes, has got their texts
pub record HasPerformed (d : DueLines) (session : Session) (held holds : Option (List ℕ)) : Type 0 where
  pub text : List ℕ
  pub last : State
  pub performed : Perform d.limits d.from d.whole (answer_with text last)
  pub stands : StandsFor session last
  pub out : Appends held holds text
