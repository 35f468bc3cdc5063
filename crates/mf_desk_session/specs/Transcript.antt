-- The transcript of a script: what its lines print, one after another.
use Rattle.std.specs.Prelude.{◌≡◌, ℕ, List, [], ◌∷◌, ◌++◌}
use Rattle.std.specs.Str.Lines.{lines}
use Rattle.mf_desk_session.specs.Answers.{Answers, Prints}
use Rattle.mf_desk_session.specs.States.{Answer, Limits, State, answer_with, answers_in_turn, start}

-- lines are performed one after another from a state: what they print, and the state after them
abbrev pub Perform : Limits → State → List (List ℕ) → Answer → Type 0
Perform limits s [] a = Prints s [] a
Perform limits s (line ∷ more) a =
    (first : Answer) × (rest : Answer) × Answers limits s line first × Perform limits first.next more rest × (a ≡ answers_in_turn first rest)

-- lines, and then others from the state after them, answer this when they are performed
abbrev pub PerformInTurn : Limits → State → List (List ℕ) → List (List ℕ) → Answer → Type 0
PerformInTurn limits s lines more whole =
    (a : Answer) × (b : Answer) × Perform limits s lines a × Perform limits a.next more b × (whole ≡ answers_in_turn a b)

-- lines that are due to be performed from a state on
pub record DueLines : Type 0 where
  pub limits : Limits
  pub from : State
  pub whole : List (List ℕ)

-- lines with these three, in this order
abbrev pub due_lines : Limits → State → List (List ℕ) → DueLines
due_lines limits from whole = record { limits = limits; from = from; whole = whole }

-- the first of these lines have led to this state, and these are their texts
pub record IsFirstText (d : DueLines) (last : State) (written : List ℕ) : Type 0 where
  pub done : List (List ℕ)
  pub more : List (List ℕ)
  pub first : d.whole ≡ done ++ more
  pub performed : Perform d.limits d.from done (answer_with written last)

-- this is the text of these lines, which are performed from the start on
pub record IsTextOf (limits : Limits) (whole : List (List ℕ)) (text : List ℕ) : Type 0 where
  pub last : State
  pub performed : Perform limits start whole (answer_with text last)

-- the transcript of the bytes of a script; a line ends at a line feed, a carriage return directly before that is not part of the
-- line, and bytes after the last line feed are a line
abbrev pub IsTranscript : Limits → List ℕ → List ℕ → Type 0
IsTranscript limits input text = IsTextOf limits (lines input) text
