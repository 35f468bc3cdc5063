use Rattle.std.proofs.Common.{◌≡◌, ◌+ℤ◌, arith, to_z, of_z, w32}
use Rattle.std.proofs.lemmas.Int.{ints, to_z-of_z, quot_fits}
use Rattle.mf_geom.specs.Turning.{turn_at, turning}
use Rattle.mf_geom.proofs.PartialSums.{IsSumTo-none, IsSumTo-more}
use Rattle.mf_geom.proofs.path.turning.Goals as goal

pub loop-vertex-init : goal.loop-vertex-init
loop-vertex-init c = IsSumTo-none _ _

pub loop-vertex-preserved : goal.loop-vertex-preserved
loop-vertex-preserved c =
    let so_far = to_z w32 c.loop-vertex.turns-bits in
    let turn = turn_at c.args.points.now c.loop-vertex.vertex in
    let sum : to_z w32 (of_z w32 (so_far +ℤ to_z w32 (of_z w32 c.turn-turns.result))) ≡ so_far +ℤ turn = omega (arith, ints) in
    rw sum (IsSumTo-more c.loop-vertex.invariant (omega (arith, ints)) (omega (arith, ints)))

pub returns : goal.returns
unfolding turning
returns c = grind (arith, ints, to_z-of_z, quot_fits)
