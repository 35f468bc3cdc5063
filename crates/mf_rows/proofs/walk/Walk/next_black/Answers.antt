use Rattle.std.proofs.Common.{pos, ◌∙◌, arith}
use Rattle.std.proofs.lemmas.Int.{ints}
use Rattle.mf_rows.proofs.BlackRuns.{is_white, more_passed, row_runs-end, white_passed}
use Rattle.mf_rows.proofs.walk.Walk.next_black.Goals as goal

pub loop-self-preserved : goal.loop-self-preserved
loop-self-preserved c =
    more_passed (pos 0) _ _ _ c.loop-self.invariant c.pass_equal.ensures.passed (is_white c.loop-self.self.weight (omega (arith, ints)))

pub returns-then-self-ge-FIELD_END-clause-over : goal.returns-then-self-ge-FIELD_END-clause-over
returns-then-self-ge-FIELD_END-clause-over c = row_runs-end _ _ _ (omega (arith, ints, c.if-self-ge-FIELD_END.true, c.loop-self.self.reading.right))

pub returns-then-self-ge-FIELD_END-clause-next : goal.returns-then-self-ge-FIELD_END-clause-next
returns-then-self-ge-FIELD_END-clause-next c = white_passed _ _ c.loop-self.invariant ∙ returns-then-self-ge-FIELD_END-clause-over c

pub returns-clause-next : goal.returns-clause-next
returns-clause-next c =
    let row = c.loop-self.invariant.row in
    white_passed _ _ c.loop-self.invariant ∙ rw (row.weights, row.row) at c.take_black.ensures.next
