use Rattle.std.proofs.Common.{arith, codes, refl}
use Rattle.clap.specs.Words.{found_of, rows_of}
use Rattle.clap.specs.declared.builder.value_parser.ValueParser.TheVariants.{Bool as flag}
use Rattle.mf_cli_options.proofs.ValuesTyped.{in_bounds}
use Rattle.mf_cli_options.specs.Options.{number_parser}
use Rattle.mf_view_words.specs.CommandLine.{greatest_design_size, greatest_resolution}
use Rattle.mf_view_words.proofs.CommandLines.{number_given}
use Rattle.mf_view_words.proofs.words.words_in.Goals as goal

pub number-requires : goal.number-requires
number-requires c = record { readable = number_given _ c.requires (codes "columns") 1 1000 refl (omega arith) }

pub number-requires-2 : goal.number-requires-2
number-requires-2 c = record { readable = number_given _ c.requires (codes "rows") 1 1000 refl (omega arith) }

pub number-requires-3 : goal.number-requires-3
number-requires-3 c = record { readable = number_given _ c.requires (codes "pause") 0 60000 refl (omega arith) }

pub flag-requires : goal.flag-requires
flag-requires c = record { readable = c.requires (codes "frames") flag refl }

pub flag-requires-2 : goal.flag-requires-2
flag-requires-2 c = record { readable = c.requires (codes "pgm") flag refl }

pub number-requires-4 : goal.number-requires-4
number-requires-4 c = record { readable = number_given _ c.requires (codes "design-size") 0 greatest_design_size refl (omega arith) }

pub number-requires-5 : goal.number-requires-5
number-requires-5 c = record { readable = number_given _ c.requires (codes "resolution") 0 greatest_resolution refl (omega arith) }

pub returns-clause-range : goal.returns-clause-range
returns-clause-range c =
    let found = rows_of (found_of c.args.matches.now) in
    let points = c.requires (codes "design-size") (number_parser 0 greatest_design_size) refl in
    let dots = c.requires (codes "resolution") (number_parser 0 greatest_resolution) refl in
    record {
      design_size = rw c.number-4.ensures (in_bounds 0 greatest_design_size 0 found (codes "design-size") (omega arith) (omega arith) points).1;
      resolution = rw c.number-5.ensures (in_bounds 0 greatest_resolution 0 found (codes "resolution") (omega arith) (omega arith) dots).1;
    }
