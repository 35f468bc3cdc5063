use Rattle.std.proofs.Common.{arith}
use Rattle.clap.proofs.WalkLemmas.{one_text-rows}
use Rattle.mf_cli_options.proofs.values.flag.Goals as goal

pub returns : goal.returns
returns c = grind (arith, one_text-rows)
