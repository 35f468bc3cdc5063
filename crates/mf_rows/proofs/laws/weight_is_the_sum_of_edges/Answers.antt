use Rattle.std.proofs.Common.{refl}
use Rattle.mf_rows_strips.proofs.PartsLemmas.{part_row}
use Rattle.mf_rows.proofs.laws.weight_is_the_sum_of_edges.Goals as goal

pub returns-clause-rows : goal.returns-clause-rows
returns-clause-rows c = λ p y. part_row p y _ refl
