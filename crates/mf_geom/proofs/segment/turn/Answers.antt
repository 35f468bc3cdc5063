use Rattle.std.proofs.Common.{◌≡◌, ◌-ℤ◌, arith, rules, to_z, of_z, w32}
use Rattle.std.proofs.lemmas.Int.{ints}
use Rattle.mf_geom.specs.Path.{segment_into}
use Rattle.mf_geom.specs.Turning.{turn, turn_at}
use Rattle.mf_geom.proofs.Passed.{product-passed}
use Rattle.mf_geom.proofs.segment.turn.Goals as goal

pub overflow_sub-product : goal.overflow_sub-product
overflow_sub-product c = omega (arith, ints)

pub returns-clause-value : goal.returns-clause-value
unfolding segment_into turn turn_at
returns-clause-value c =
    let arriving = c.step_along-arriving.result in
    let leaving = c.step_along-leaving.result in
    let first = product-passed arriving.across leaving.up (search rules) (search rules) c.product.ensures.value in
    let second = product-passed arriving.up leaving.across (search rules) (search rules) c.product-2.ensures.value in
    let cross : to_z w32 (of_z w32 (to_z w32 (of_z w32 c.product.result) -ℤ to_z w32 (of_z w32 c.product-2.result)))
    ≡ c.product.result -ℤ c.product-2.result =
    omega (arith, ints) in
    let sign : to_z w32 (of_z w32 c.signum.result) ≡ c.signum.result = omega (arith, ints) in
    rw (sign, c.signum.ensures.value, cross, first, second, c.step_along-arriving.ensures.across, c.step_along-arriving.ensures.up)
    (rw (c.step_along-leaving.ensures.across, c.step_along-leaving.ensures.up, c.previous_place.ensures.value))
