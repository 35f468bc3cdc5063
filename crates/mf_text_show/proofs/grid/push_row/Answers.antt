use Rattle.std.proofs.Common.{◌≡◌, ◌∷◌, [], ◌++◌, ◌≤ℤ◌, pos, ◌+ℤ◌, to_z, of_z, w32, ap, ◌∙◌, arith}
use Rattle.std.proofs.lemmas.Int.{ints, to_z-of_z}
use Rattle.mf_text_show.specs.Grid.{grid_character, line_feed}
use Rattle.mf_text_show.proofs.PassedPixels.{ahead_right, weight_ahead}
use Rattle.mf_text_show.proofs.ShownRows.{row_all, row_more}
use Rattle.mf_text_show.proofs.grid.push_row.Goals as goal

pub loop-x-preserved : goal.loop-x-preserved
loop-x-preserved c =
    let x = to_z w32 c.loop-x.x-bits in
    let so_far = c.loop-x.invariant in
    let column : x ≤ℤ to_z w32 (of_z w32 c.args.last) = omega (arith, ints, c.loop-x-test.true) in
    let next : to_z w32 (of_z w32 (x +ℤ pos 1)) ≡ x +ℤ pos 1 = omega (arith, ints) in
    let weight : to_z w32 (of_z w32 c.weight.result) ≡ c.weight.result = omega (arith, ints) in
    let shown = c.grid_character.ensures ∙ ap grid_character (weight ∙ c.weight.ensures.weight ∙ weight_ahead _ _ so_far.1) in
    rw next (
      row_more column c.in_ok-push.ensures.items shown so_far.0,
      ahead_right _ _ c.weight.ensures.order c.weight.ensures.later so_far.1,
    )

pub returns-clause-text : goal.returns-clause-text
returns-clause-text c =
    let last = to_z w32 (of_z w32 c.args.last) in
    let over : to_z w32 c.loop-x.x-bits ≡ last +ℤ pos 1 = omega (arith, ints, c.loop-x-test.false, c.loop-x.invariant.0.right) in
    let at_y = to_z-of_z w32 c.args.y c.ranges.y in
    let from = to_z-of_z w32 c.args.first c.ranges.first in
    let to = to_z-of_z w32 c.args.last c.ranges.last in
    let row = rw (at_y, from, to) at (row_all _ _ _ over c.loop-x.invariant.0) in
    c.in_ok-push-2.ensures.items ∙ ap (λ text. text ++ line_feed ∷ []) row

pub returns-clause-later : goal.returns-clause-later
returns-clause-later c =
    let over : to_z w32 c.loop-x.x-bits ≡ c.args.last +ℤ pos 1 = omega (arith, ints, c.loop-x-test.false, c.loop-x.invariant.0.right) in
    rw (over, to_z-of_z w32 c.args.y c.ranges.y) at c.loop-x.invariant.1.same
