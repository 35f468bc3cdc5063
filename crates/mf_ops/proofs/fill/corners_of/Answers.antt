use Rattle.std.proofs.Common.{◌≡◌, ◌<◌, ◌*ℤ◌, ◌++◌, ◌∙◌, reverse, length, ap, arith, to_z, of_z, to_z-of_z, w32, sym}
use Rattle.std.proofs.lemmas.Int.{ints}
use Rattle.mf_geom.specs.Path.{segment_at}
use Rattle.mf_ops.specs.Sides.{HasSide}
use Rattle.mf_ops.proofs.Sides.{AreSides, AreSides-none, AreSides-first, AreSides-second, AreSides-joined}
use Rattle.mf_ops.proofs.Sides.{IsSegment, AreCorners-sides}
use Rattle.mf_ops.proofs.fill.corners_of.Goals.{After-segment_ends, then-from-to+in_ok-push_side, else-from-to+in_ok-push_side-2}
use Rattle.mf_ops.proofs.fill.corners_of.Goals as goal
use Rattle.mf_geom.proofs.Sums.{next_place-below}
use Rattle.mf_geom.proofs.Crossings.{winding-crossings}

pub loop-place-init : goal.loop-place-init
loop-place-init c = rw (c.in_ok-rising.ensures.items, c.in_ok-falling.ensures.items) (AreSides-none _ _)

-- the segment that leaves the vertex
segment : (c : After-segment_ends) → IsSegment (record { from = c.segment_ends.result.0; to = c.segment_ends.result.1 })
unfolding segment_at
segment c =
    let below : c.loop-place.place < length c.args.cycle.now = omega (arith, ap length c.points-count.ensures.points) in
    rw (c.segment_ends.ensures.from, c.segment_ends.ensures.to) (grind (arith, ints, next_place-below, c.segment_ends.ensures.lawful))

pub push_side-requires : goal.push_side-requires
push_side-requires c =
    let is = segment (goal.at.push_side-requires c).After-segment_ends in
    record { segment = is.rectilinear; from = is.from; to = is.to; weight = rw (to_z-of_z c.ranges.weight) c.requires }

pub push_side-requires-else-from-to : goal.push_side-requires-else-from-to
push_side-requires-else-from-to c =
    let is = segment (goal.at.push_side-requires-else-from-to c).After-segment_ends in
    record { segment = is.rectilinear; from = is.from; to = is.to; weight = rw (to_z-of_z c.ranges.weight) c.requires }

pub loop-place-preserved : goal.loop-place-preserved
loop-place-preserved c =
    let ps = c.args.cycle.now in
    let w = c.args.weight in
    let n = c.loop-place.place in
    let rising = c.loop-place.rising.items in
    let falling = c.loop-place.falling.items in
    let weight_is : to_z w32 (of_z w32 w) ≡ w = omega (arith, ints) in
    let so_far : AreSides ps w n (rising ++ falling) = rw weight_is at c.loop-place.invariant in
    rw weight_is (elim c.if-from-to.branch [
      | then-from-to+in_ok-push_side up ↦
          let side : HasSide w (segment_at ps n) rising up.push_side.new.corners.items =
          rw (weight_is, c.segment_ends.ensures.from, c.segment_ends.ensures.to) at up.in_ok-push_side.ensures in
          rw (up.rising-is, up.falling-is) (AreSides-first ps w n _ _ _ so_far side)
      | else-from-to+in_ok-push_side-2 down ↦
          let side : HasSide w (segment_at ps n) falling down.push_side-else-from-to.new.corners.items =
          rw (weight_is, c.segment_ends.ensures.from, c.segment_ends.ensures.to) at down.in_ok-push_side-2.ensures in
          rw (down.rising-is, down.falling-is) (AreSides-second ps w n _ _ _ so_far side)
    ])

pub returns : goal.returns
returns c =
    let ps = c.args.cycle.now in
    let w = c.args.weight in
    let rising = c.loop-place.rising.items in
    let falling = c.loop-place.falling.items in
    let rectilinear = c.points-count.ensures.lawful in
    let weight_is : to_z w32 (of_z w32 w) ≡ w = omega (arith, ints) in
    let count_is = ap length c.points-count.ensures.points in
    let all : c.loop-place.place ≡ length ps = omega (arith, count_is) in
    let apart : AreSides ps w (length ps) (rising ++ falling) = rw (weight_is, all) at c.loop-place.invariant in
    let sides = AreSides-joined ps w (length ps) rising falling apart in
    rw (c.in_ok-extend_from_slice.ensures.items, c.reverse.ensures.items, c.deref.ensures.value) record {
      lawful = AreCorners-sides ps w (reverse rising ++ falling) rectilinear sides;
      added = λ x y. sides.added x y ∙ ap (λ n. w *ℤ n) (sym (winding-crossings ps x y rectilinear));
    }
