-- What has been written when a line is performed.
use Rattle.std.specs.Prelude.{ℕ, List, ◌≡◌, ◌+◌, ◌<◌, ◌^◌, length}
use Rattle.mf_desk_session.specs.Answers.{Answers}
use Rattle.mf_desk_session.specs.Sessions.{HasAnswered, StandsFor, limits}
use Rattle.mf_desk_session.specs.States.{State, answer_with}
use Rattle.mf_desk.specs.declared.performer.Performer.{Performer}

-- the most bytes that a read gives
abbrev pub longest_read : ℕ
longest_read = 2 ^ 16

-- a line prints fewer bytes than this
abbrev pub longest_text : ℕ
longest_text = 2 ^ 64

-- the most bytes that the lines of a script print: each of at most 2 ^ 20 reads gives bytes, each of which may end a line, and one
-- more line may follow the last line feed
abbrev pub most_written_bytes : ℕ
most_written_bytes = 2 ^ 101

-- the most bytes that a run counts
abbrev pub most_counted_bytes : ℕ
most_counted_bytes = 2 ^ 127

-- a line was performed, whatever state the session represented, and this text of it was written
pub record IsWritten (before : Performer) (line : List ℕ) (after : Performer) (text : List ℕ) : Type 0 where
  pub answered : (s : State) → StandsFor before.session s → HasAnswered after.session text (Answers (limits before.session) s line)
  pub counted : after.written ≡ before.written + length text
  pub short : length text < longest_text

-- this is what a line prints, whatever state the session represents
abbrev pub IsLineText : Performer → List ℕ → List ℕ → Type 0
IsLineText performer line text =
    (s : State) → StandsFor performer.session s → (next : State) × Answers (limits performer.session) s line (answer_with text next)
