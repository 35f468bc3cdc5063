use Rattle.clap.proofs.WalkLemmas.{first_value-rows}
use Rattle.mf_cli_options.proofs.values.file.Goals as goal
use Rattle.std.proofs.Common.{arith}

pub returns-in_ok-from_str-in-Some : goal.returns-in_ok-from_str-in-Some
returns-in_ok-from_str-in-Some c = grind (arith, first_value-rows)

pub returns-in-None : goal.returns-in-None
returns-in-None c = grind (arith, first_value-rows)
