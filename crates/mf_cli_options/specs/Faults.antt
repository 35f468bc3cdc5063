-- What the programs make of clap's refusals.
use Rattle.clap.specs.declared.error.kind.ErrorKind.{ErrorKind}
use Rattle.clap.specs.declared.error.kind.ErrorKind.TheVariants as kind
use Rattle.mf_cli_options.specs.declared.fault.WordsFault.{WordsFault}
use Rattle.mf_cli_options.specs.declared.fault.WordsFault.TheVariants.{BadWords, OutOfMemory}

-- the refusal that each kind of clap's errors becomes
abbrev pub words_fault : ErrorKind → WordsFault
words_fault kind.OutOfMemory = OutOfMemory
words_fault _ = BadWords
