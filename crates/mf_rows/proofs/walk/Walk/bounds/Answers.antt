use Rattle.std.proofs.Common.{◌≡◌, pos, ◌+ℤ◌, refl, ◌∙◌, arith}
use Rattle.std.proofs.lemmas.Int.{ints}
use Rattle.mf_geom.specs.Coordinates.{least_coordinate, greatest_coordinate}
use Rattle.mf_rows.proofs.BoxesPassed.{in_field, none_at_start, all_rows}
use Rattle.mf_rows.proofs.walk.Walk.bounds.Goals as goal

pub loop-self-init : goal.loop-self-init
loop-self-init c =
    let end : c.args.self.now.y +ℤ pos 1 ≡ greatest_coordinate = omega (arith, ints, c.requires.row) in
    record { bounds = rw end (none_at_start _ (in_field c.args.pixels c.args.self.now)); weights = refl; column = c.requires.column }

pub loop-self-preserved : goal.loop-self-preserved
loop-self-preserved c =
    let so_far = c.loop-self.invariant in
    let passed = c.widen-bounds.ensures.passed in
    let next : c.enter_row.new.self.y +ℤ pos 1 ≡ c.loop-self.self.bottom = omega (arith, ints, c.enter_row.ensures.row, passed.bottom) in
    record {
      bounds = rw (next, ← so_far.weights) c.widen-bounds.ensures.bounds;
      weights = c.enter_row.ensures.weights ∙ passed.weights ∙ so_far.weights;
      column = c.enter_row.ensures.column;
    }

pub returns-then-self-le-FIELD_START : goal.returns-then-self-le-FIELD_START
returns-then-self-le-FIELD_START c =
    let s = c.loop-self.self in
    let last : s.bottom ≡ least_coordinate = omega (arith, ints, c.if-self-le-FIELD_START.true, c.widen-bounds.ensures.passed.bottom, s.reading.rows.low) in
    all_rows _ (in_field c.args.pixels c.args.self.now) _ (rw (last, c.loop-self.invariant.weights) at c.widen-bounds.ensures.bounds)
