-- The command line of the program, as clap reads it.
use Rattle.std.specs.Prelude.{ℕ, List, [], ◌∷◌, codes, fold}
use Rattle.clap.specs.Words.{App, Rule, new_app, with_rule}
use Rattle.mf_cli_options.specs.Options.{file_rule, flag_rule, number_rule, without_flags}

-- the greatest design size in points, and resolution in dots per inch (here as well as in the code, so that a wrong number there is not
-- proved)
abbrev pub greatest_design_size : ℕ
greatest_design_size = 2047

abbrev pub greatest_resolution : ℕ
greatest_resolution = 100000

-- the options and flags
abbrev pub rules : List Rule
rules = number_rule (codes "columns") 1 1000
    ∷ number_rule (codes "rows") 1 1000
    ∷ number_rule (codes "pause") 0 60000
    ∷ number_rule (codes "design-size") 0 greatest_design_size
    ∷ number_rule (codes "resolution") 0 greatest_resolution
    ∷ file_rule (codes "transcript")
    ∷ file_rule (codes "plates")
    ∷ file_rule (codes "gf")
    ∷ flag_rule (codes "frames") (codes "frames")
    ∷ flag_rule (codes "pgm") (codes "pgm")
    ∷ flag_rule (codes "asks-help") (codes "help")
    ∷ flag_rule (codes "asks-version") (codes "version")
    ∷ []

-- the application: the program's name with its options and flags
unfoldable pub mfview : App
mfview = fold with_rule (without_flags (new_app (codes "mfview"))) rules
