use Rattle.std.proofs.Common.{◌≡◌, ◌-ℤ◌, arith, rules, to_z, of_z, w32}
use Rattle.std.proofs.lemmas.Int.{ints}
use Rattle.mf_geom.specs.Area.{shoelace_at}
use Rattle.mf_geom.specs.Path.{segment_at}
use Rattle.mf_geom.proofs.Passed.{product-passed}
use Rattle.mf_geom.proofs.segment.shoelace.Goals as goal

pub overflow_sub-result : goal.overflow_sub-result
overflow_sub-result c = omega (arith, ints)

pub returns : goal.returns
unfolding shoelace_at segment_at
returns c =
    let from = c.ends.result.0 in
    let to = c.ends.result.1 in
    let first = product-passed from.x to.y (search rules) (search rules) c.product.ensures.value in
    let second = product-passed to.x from.y (search rules) (search rules) c.product-2.ensures.value in
    let difference : to_z w32 (of_z w32 (to_z w32 (of_z w32 c.product.result) -ℤ to_z w32 (of_z w32 c.product-2.result)))
    ≡ c.product.result -ℤ c.product-2.result = omega (arith, ints) in
    record { value = rw (difference, first, second, c.ends.ensures.from, c.ends.ensures.to); least = omega (arith, ints); greatest = omega (arith, ints) }
