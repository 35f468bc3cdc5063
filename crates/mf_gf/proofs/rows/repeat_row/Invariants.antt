use Rattle.mf_gf.proofs.SpelledRows.{AreRepeated}
use Rattle.mf_gf.proofs.rows.repeat_row.Given as goal

-- as many rows as were asked for so far come after the others
abbrev pub invariant-loop : goal.invariant-loop
invariant-loop l = AreRepeated l.initial.out l.out l.offset l.start l.end l.counter
