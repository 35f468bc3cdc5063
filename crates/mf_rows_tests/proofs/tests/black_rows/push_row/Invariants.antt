use Rattle.std.proofs.Common.{length}
use Rattle.mf_rows.specs.BlackRows.{runs_in}
use Rattle.mf_rows_tests.proofs.tests.black_rows.push_row.Given as goal

abbrev pub decreases-loop-run : goal.decreases-loop-run
decreases-loop-run l = length (runs_in l.rows)
