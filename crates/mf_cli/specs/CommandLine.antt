-- The command line of the program, as clap reads it.
use Rattle.std.specs.Prelude.{◌≡◌, ℕ, List, [], Option, codes}
use Rattle.clap.specs.Words.{App, Text, fault_of, matches_of, new_app, with_rule}
use Rattle.mf_cli_options.specs.Options.{file_rule, number_rule, without_flags}
use Rattle.mf_cli_options.specs.Values.{file_in, number_in}

-- the greatest number of viewers (here as well as in the code, so that a wrong number there is not proved)
abbrev pub greatest_viewers : ℕ
greatest_viewers = 16

-- the application `mfpic [--viewers 0..16] [--gf FILE]`, without flags for help or a version
unfoldable pub mfpic : App
mfpic = with_rule (with_rule (without_flags (new_app (codes "mfpic"))) (number_rule (codes "viewers") 0 greatest_viewers)) (file_rule (codes "gf"))

-- the words, of which the first is the program's name, are a command line of the program
abbrev pub IsCommandLine : List Text → Type 0
IsCommandLine words = fault_of mfpic words ≡ []

-- the number of viewers that the words ask for, and 0 where they name none
abbrev pub viewers_in : List Text → ℕ
viewers_in words = number_in (matches_of mfpic words) (codes "viewers") 0

-- the FILE that the words give, if they give one
abbrev pub gf_in : List Text → Option Text
gf_in words = file_in (matches_of mfpic words) (codes "gf")
