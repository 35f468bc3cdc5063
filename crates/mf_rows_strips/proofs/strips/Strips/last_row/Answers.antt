use Rattle.std.proofs.Common.{arith}
use Rattle.std.proofs.lemmas.Int.{ints}
use Rattle.mf_rows_strips.proofs.HeadsLemmas.{last_row_is}
use Rattle.mf_rows_strips.proofs.strips.Strips.last_row.Goals as goal

pub returns-in-Some : goal.returns-in-Some
returns-in-Some c = grind (arith, ints, last_row_is)
