-- The state of a script, its limits, and its answers.
use Rattle.std.specs.Prelude.{ℕ, List, [], ◌++◌, min}
use Rattle.mf_geom.specs.declared.check.Check.{Check}
use Rattle.mf_geom.specs.declared.check.Check.TheVariants.{On}
use Rattle.mf_gf.specs.Files.{Character}
use Rattle.mf_gf.specs.Numbers.{greatest_word}
use Rattle.mf_desk_session.specs.Pictures.{Pictures, blank_pictures}

-- the pictures, the turning check, and the characters that were shipped
pub record State : Type 0 where
  pub pictures : Pictures
  pub check : Check
  pub characters : List Character

-- all pictures blank, the turning check on, and nothing shipped
abbrev pub start : State
start = record { pictures = blank_pictures; check = On; characters = [] }

-- what is printed, and the state after it
pub record Answer : Type 0 where
  pub text : List ℕ
  pub next : State

-- the answer with these two, in this order
abbrev pub answer_with : List ℕ → State → Answer
answer_with text next = record { text = text; next = next }

-- an answer, and then another from the state after it
abbrev pub answers_in_turn : Answer → Answer → Answer
answers_in_turn first rest = answer_with (first.text ++ rest.text) rest.next

-- the greatest number of operations that `currentpicture` accepts, and of bytes that the font file may have
pub record Limits : Type 0 where
  pub max_ops : ℕ
  pub max_bytes : ℕ

-- the limits with these numbers, where no font file may have more than 2,147,483,647 bytes
abbrev pub limits_of : ℕ → ℕ → Limits
limits_of max_ops max_bytes = record { max_ops = max_ops; max_bytes = min max_bytes greatest_word }

-- the greatest number of operations that the programs let `currentpicture` accept
abbrev pub most_operations : ℕ
most_operations = 1000000

-- the greatest number of bytes that the programs let a font file have
abbrev pub most_bytes : ℕ
most_bytes = 16777216

-- the number of bytes with which a font file can be begun: those of a preamble without a comment
abbrev pub least_bytes : ℕ
least_bytes = 3
