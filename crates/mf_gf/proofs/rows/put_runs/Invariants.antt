use Rattle.std.proofs.Common.{length}
use Rattle.mf_rows.specs.BlackRows.{runs_in}
use Rattle.mf_gf.proofs.SpelledRows.{ArePut}
use Rattle.mf_gf.proofs.rows.put_runs.Given as goal

-- the runs before this column are spelled
abbrev pub invariant-loop-run : goal.invariant-loop-run
invariant-loop-run l = ArePut l.initial.out l.out l.initial.rows l.rows l.initial.column l.column

abbrev pub decreases-loop-run : goal.decreases-loop-run
decreases-loop-run l = length (runs_in l.rows)
