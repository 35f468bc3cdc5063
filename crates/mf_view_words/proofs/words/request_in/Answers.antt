use Rattle.std.proofs.Common.{codes, refl}
use Rattle.clap.specs.declared.builder.value_parser.ValueParser.TheVariants.{Bool as flag}
use Rattle.mf_view_words.proofs.words.request_in.Goals as goal

pub flag-requires : goal.flag-requires
flag-requires c = record { readable = c.requires (codes "asks-help") flag refl }

pub flag-requires-2 : goal.flag-requires-2
flag-requires-2 c = record { readable = c.requires (codes "asks-version") flag refl }
