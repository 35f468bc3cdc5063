use Rattle.std.proofs.Common.{◌∙◌, ℕ, Result}
use Rattle.std.specs.Str.Parse.{ExplainsUnsignedError, HasUnsignedDigitsIfOk, ParsesUnsigned}
use Rattle.std.specs.declared.num.ParseIntError.{ParseIntError}
use Rattle.clap.specs.Words.{Text, found_of}
use Rattle.mf_cli_options.proofs.ValuesTyped.{number_read}
use Rattle.mf_cli_options.proofs.values.number.Goals as goal

-- how the text of a `u32` is read
abbrev Reads : Text → Result ℕ ParseIntError → Type 0
Reads = λ bs r. ParsesUnsigned 32 10 bs r × ExplainsUnsignedError 10 bs r × HasUnsignedDigitsIfOk bs r

pub returns : goal.returns
returns c =
    c.unwrap_or.ensures
    ∙ number_read _ Reads (found_of c.args.matches.now) c.args.id.now c.args.default c.get_one.result c.get_one.ensures.none c.get_one.ensures.value
    (λ t x read. read.0) c.requires.readable
