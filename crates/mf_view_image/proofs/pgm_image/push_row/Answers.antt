use Rattle.std.proofs.Common.{◌≡◌, ◌≤ℤ◌, pos, ◌+ℤ◌, to_z, of_z, w32, ap, ◌∙◌, arith}
use Rattle.std.proofs.lemmas.Int.{ints, to_z-of_z}
use Rattle.mf_view_image.specs.Pgm.{gray_value}
use Rattle.mf_text_show.proofs.ShownRows.{row_none, row_more, row_all}
use Rattle.mf_view_image.proofs.pgm_image.push_row.Goals as goal

pub loop-x-init : goal.loop-x-init
loop-x-init c = row_none _ (omega (arith, ints))

pub loop-x-preserved : goal.loop-x-preserved
loop-x-preserved c =
    let x = to_z w32 c.loop-x.x-bits in
    let column : x ≤ℤ to_z w32 (of_z w32 c.args.last) = omega (arith, ints, c.loop-x-test.true) in
    let next : to_z w32 (of_z w32 (x +ℤ pos 1)) ≡ x +ℤ pos 1 = omega (arith, ints) in
    let weight : to_z w32 (of_z w32 c.weight.result) ≡ c.weight.result = omega (arith, ints) in
    let shown = c.gray_value.ensures ∙ ap gray_value (weight ∙ c.weight.ensures.weight) in
    rw next (row_more column c.in_ok-push.ensures.items shown c.loop-x.invariant)

pub returns : goal.returns
returns c =
    let last = to_z w32 (of_z w32 c.args.last) in
    let over : to_z w32 c.loop-x.x-bits ≡ last +ℤ pos 1 = omega (arith, ints, c.loop-x-test.false, c.loop-x.invariant.right) in
    let at_y = to_z-of_z w32 c.args.y c.ranges.y in
    let from = to_z-of_z w32 c.args.first c.ranges.first in
    let to = to_z-of_z w32 c.args.last c.ranges.last in
    rw (at_y, from, to) at (row_all _ _ _ over c.loop-x.invariant)
