-- Outside the field all points lie on one side of the pixel's column, or of its row.
use Rattle.std.proofs.Common.{pos, ◌<ℤ◌, arith, ◌∙◌}
use Rattle.std.proofs.lemmas.Int.{ints, by_lt_z}
use Rattle.mf_geom.specs.Coordinates.{least_coordinate, last_in_field}
use Rattle.mf_geom.specs.Path.{point_at}
use Rattle.mf_geom.proofs.Crossings.{winding-crossings, unit_step-reached, unit_step-beyond, crossings-beside, crossings-over}
use Rattle.mf_geom.proofs.laws.nothing_outside_the_field.Goals as goal

pub returns : goal.returns
returns c ps x y cycle outside =
    let in_range = cycle.range.in_range in
    let at_left =
    λ (left : x <ℤ least_coordinate). crossings-beside ps x y (pos 0)
    (λ i below. let point = (in_range i below).x in unit_step-beyond x (point_at ps i).x (omega (arith, ints))) in
    let at_right =
    λ (right : last_in_field <ℤ x). crossings-beside ps x y (pos 1)
    (λ i below. let point = (in_range i below).x in unit_step-reached x (point_at ps i).x (omega (arith, ints))) in
    let at_bottom =
    λ (under : y <ℤ least_coordinate). crossings-over ps x y (pos 0)
    (λ i below. let point = (in_range i below).y in unit_step-beyond y (point_at ps i).y (omega (arith, ints))) in
    let at_top =
    λ (over : last_in_field <ℤ y). crossings-over ps x y (pos 1)
    (λ i below. let point = (in_range i below).y in unit_step-reached y (point_at ps i).y (omega (arith, ints))) in
    winding-crossings ps x y cycle
    ∙ by_lt_z x least_coordinate at_left (λ left.
    by_lt_z last_in_field x at_right (λ right.
    by_lt_z y least_coordinate at_bottom (λ bottom.
    by_lt_z last_in_field y at_top (λ top.
    absurd (outside record { left = left; right = right; bottom = bottom; top = top })))))
