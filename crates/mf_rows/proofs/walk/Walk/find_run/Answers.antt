use Rattle.std.proofs.Common.{◌≡◌, pos, ◌-ℤ◌, sym, ◌∙◌, ap, arith}
use Rattle.std.proofs.lemmas.Int.{ints}
use Rattle.mf_geom.specs.Coordinates.{least_coordinate, greatest_coordinate}
use Rattle.mf_rows.specs.Runs.{runs_of}
use Rattle.mf_rows.proofs.PassedPixels.{blank_passed, dots_from-left}
use Rattle.mf_rows.proofs.RemainingLemmas.{dots_from-below, dots_from-next, dots_from-end}
use Rattle.mf_rows.proofs.walk.Walk.find_run.Goals as goal

pub returns-then-self-lt-FIELD_END-clause-runs : goal.returns-then-self-lt-FIELD_END-clause-runs
returns-then-self-lt-FIELD_END-clause-runs c =
    blank_passed _ _ c.pass_equal.ensures.passed (omega (arith, ints)) ∙ c.loop-self.invariant

pub blank_down_to-bottom-requires : goal.blank_down_to-bottom-requires
blank_down_to-bottom-requires c =
    let passed = c.pass_equal.ensures.passed in
    let weight : c.loop-self.self.weight ≡ pos 0 = omega (arith, ints) in
    let start = c.loop-self.self.reading in
    rw (passed.weights, passed.row) (λ z left right. passed.same z (omega (arith, ints, start.left, start.right)) (omega (arith, ints)) ∙ weight)

pub returns-then-bottom-clause-runs : goal.returns-then-bottom-clause-runs
returns-then-bottom-clause-runs c = blank_passed _ _ c.pass_equal.ensures.passed (omega (arith, ints)) ∙ c.loop-self.invariant

pub returns-then-bottom-clause-over : goal.returns-then-bottom-clause-over
unfolding runs_of
returns-then-bottom-clause-over c = λ _.
    let over : c.pass_equal.new.self.x ≡ greatest_coordinate = omega (arith, ints) in
    let bottom : c.blank_down_to-bottom.result ≡ least_coordinate = omega (arith, ints) in
    let rows = rw bottom at c.blank_down_to-bottom.ensures in
    ap runs_of (dots_from-below over rows ∙ dots_from-end _)

pub loop-self-preserved : goal.loop-self-preserved
loop-self-preserved c =
    let rows = c.blank_down_to-bottom.ensures in
    let walk = c.enter_row.new.self in
    let over : c.pass_equal.new.self.x ≡ greatest_coordinate = omega (arith, ints) in
    let next = dots_from-below over rows ∙ dots_from-next _ _ (omega (arith, ints)) in
    let row : walk.y ≡ c.blank_down_to-bottom.result -ℤ pos 1 = omega (arith, ints) in
    let left = dots_from-left walk.edges _ walk.y walk.reading.left c.enter_row.ensures.column in
    ap runs_of (left ∙ rw (c.enter_row.ensures.weights, row) (sym next)) ∙ blank_passed _ _ c.pass_equal.ensures.passed (omega (arith, ints)) ∙ c.loop-self.invariant
