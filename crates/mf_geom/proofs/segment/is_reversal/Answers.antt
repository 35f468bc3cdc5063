use Rattle.std.proofs.Common.{◌≡◌, ◌+ℤ◌, arith, rules, to_z, of_z, w32}
use Rattle.std.proofs.lemmas.Int.{ints}
use Rattle.mf_geom.specs.Path.{segment_into}
use Rattle.mf_geom.proofs.Passed.{product-passed}
use Rattle.mf_geom.proofs.segment.is_reversal.Goals as goal

pub overflow_add-result : goal.overflow_add-result
overflow_add-result c = omega (arith, ints)

pub returns : goal.returns
unfolding segment_into
returns c =
    let arriving = c.step_along-arriving.result in
    let leaving = c.step_along-leaving.result in
    let first = product-passed arriving.across leaving.across (search rules) (search rules) c.product.ensures.value in
    let second = product-passed arriving.up leaving.up (search rules) (search rules) c.product-2.ensures.value in
    let dot : to_z w32 (of_z w32 (to_z w32 (of_z w32 c.product.result) +ℤ to_z w32 (of_z w32 c.product-2.result)))
    ≡ c.product.result +ℤ c.product-2.result =
    omega (arith, ints) in
    rw (dot, first, second, c.step_along-arriving.ensures.across, c.step_along-arriving.ensures.up)
    (rw (c.step_along-leaving.ensures.across, c.step_along-leaving.ensures.up, c.previous_place.ensures.value)
    (λ less. record { opposite = grind (arith, ints) }, λ reversal. let opposite = reversal.opposite in grind (arith, ints)))
