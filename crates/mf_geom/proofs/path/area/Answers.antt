use Rattle.std.proofs.Common.{◌≡◌, ◌+ℤ◌, arith, to_z, of_z, w64}
use Rattle.std.proofs.lemmas.Int.{ints, to_z-of_z, quot_fits}
use Rattle.mf_geom.specs.Area.{shoelace_at, area}
use Rattle.mf_geom.proofs.PartialSums.{IsSumTo-none, IsSumTo-more}
use Rattle.mf_geom.proofs.path.area.Goals as goal

pub loop-segment-init : goal.loop-segment-init
loop-segment-init c = IsSumTo-none _ _

pub loop-segment-preserved : goal.loop-segment-preserved
loop-segment-preserved c =
    let so_far = to_z w64 c.loop-segment.doubled-bits in
    let part = shoelace_at c.args.points.now c.loop-segment.segment in
    let widened = c.from-doubled.ensures in
    let sum : to_z w64 (of_z w64 (so_far +ℤ to_z w64 (of_z w64 c.from-doubled.result))) ≡ so_far +ℤ part = omega (arith, ints) in
    rw sum (IsSumTo-more c.loop-segment.invariant (omega (arith, ints)) (omega (arith, ints)))

pub returns : goal.returns
unfolding area
returns c = grind (arith, ints, to_z-of_z, quot_fits)
