use Rattle.std.proofs.Common.{arith}
use Rattle.std.proofs.lemmas.Int.{ints}
use Rattle.mf_rows.proofs.run.Run.lies_in_columns.Goals as goal

pub returns-then-self-ge-FIELD_START : goal.returns-then-self-ge-FIELD_START
returns-then-self-ge-FIELD_START c = (λ test. (omega (arith, ints), omega (arith, ints)), λ within. grind (arith, ints))
