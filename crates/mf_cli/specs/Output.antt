-- What the program writes to standard output, and the font file that it makes.
use Rattle.std.specs.Prelude.{◌≡◌, ℕ, List, Option, IsSome, pos}
use Rattle.std.specs.Io.KnownBytes.{IsAtEnd}
use Rattle.mf_desk.specs.Performances.{Performs, task}
use Rattle.mf_desk.specs.Streams.{Streams}
use Rattle.mf_desk.specs.declared.outcome.Outcome.{Outcome}
use Rattle.mf_desk.specs.declared.settings.Settings.{Settings}
use Rattle.mf_desk_session.specs.States.{most_bytes, most_operations}

-- the limits of a script, and the numbers of its font (here as well as in the code, as are the looks, so that a wrong constant there
-- is not proved)
abbrev pub settings : Settings
settings = record { max_ops = most_operations; max_bytes = most_bytes; font = record { ds = pos 0; cs = 0; hppp = pos 0; vppp = pos 0 } }

-- how often each viewer looks before its last look
abbrev pub looks : ℕ
looks = 16

-- the script was read to its end, its transcript and then the line of each viewer are written, and this is the font file of exactly
-- the characters that were shipped, or none where none was
pub record GetsOutput (viewers : ℕ) (gf : Option (List ℕ)) (s : Streams) : Type 0 where
  pub all_read : IsAtEnd s.left
  pub outcome : Outcome
  pub gf_is : outcome.gf ≡ gf
  pub performed : Performs (task settings viewers looks) s outcome

-- everything that the script prints is written beside this many viewers, and where a FILE is asked for, there is a font file
abbrev pub EndsWell : ℕ → Option (List ℕ) → Streams → Type 0
EndsWell viewers file s = (gf : Option (List ℕ)) × GetsOutput viewers gf s × (IsSome file → IsSome gf)
