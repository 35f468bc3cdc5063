use Rattle.mf_rows.specs.BlackRows.{black_weights, row_in}
use Rattle.mf_rows.specs.Dots.{weight_at}
use Rattle.mf_gf.proofs.rows.spell_rows.Given as goal
use Rattle.mf_gf.proofs.SpelledRows.{AreSpelled, rows_left}

-- the rows above the one that is read are spelled
abbrev pub invariant-loop-rows : goal.invariant-loop-rows
invariant-loop-rows l = AreSpelled l.initial.out l.out l.left (black_weights (weight_at l.picture)) l.rows l.blank

abbrev pub decreases-loop-rows : goal.decreases-loop-rows
decreases-loop-rows l = rows_left (row_in l.rows)
