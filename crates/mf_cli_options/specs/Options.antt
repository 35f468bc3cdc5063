-- The options of a command line, as clap keeps them.
use Rattle.std.specs.Prelude.{ℕ, Some, pos, true}
use Rattle.clap.specs.Words.{App, Rule, Text, new_rule}
use Rattle.clap.specs.Simple.{on_top}
use Rattle.clap.specs.declared.builder.action.ArgAction.TheVariants.{SetTrue}
use Rattle.clap.specs.declared.builder.value_parser.ValueParser.{ValueParser}
use Rattle.clap.specs.declared.builder.value_parser.ValueParser.TheVariants as parser

-- the parser of the numbers low..high
abbrev pub number_parser : ℕ → ℕ → ValueParser
number_parser low high = parser.Signed (pos low) (pos high)

-- the option `--NAME N` with a number low..high
abbrev pub number_rule : Text → ℕ → ℕ → Rule
number_rule name low high = record (new_rule name) { long = Some name; parser = Some (number_parser low high) }

-- the option `--NAME FILE`
abbrev pub file_rule : Text → Rule
file_rule name = record (new_rule name) { long = Some name }

-- the flag `--NAME`, which is read back by another name
abbrev pub flag_rule : Text → Text → Rule
flag_rule id name = record (new_rule id) { long = Some name; action = Some SetTrue; parser = Some parser.Bool }

-- an application without clap's own flags for help and a version
abbrev pub without_flags : App → App
without_flags = on_top (λ s. record s { disable_help_flag = true; disable_version_flag = true })
