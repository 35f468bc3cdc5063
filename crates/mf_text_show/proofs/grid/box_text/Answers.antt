use Rattle.std.proofs.Common.{◌≡◌, ◌≤ℤ◌, pos, ◌-ℤ◌, to_z, of_z, w32, sym, ◌∙◌, arith}
use Rattle.std.proofs.lemmas.Int.{ints}
use Rattle.mf_rows.proofs.BoxesOfDots.{least_box_of_field}
use Rattle.mf_text_show.specs.Grid.{grid_character}
use Rattle.mf_rows.specs.Boxes.{extent}
use Rattle.mf_text_show.proofs.GridTexts.{grid_of_box}
use Rattle.mf_text_show.proofs.PassedPixels.{ahead_below, all_ahead, row_ahead}
use Rattle.mf_text_show.proofs.ShownRows.{box_all, box_more, box_none}
use Rattle.mf_text_show.proofs.grid.box_text.Goals as goal

pub byte_count-requires : goal.byte_count-requires
byte_count-requires c = least_box_of_field _ _ c.over-weights.ensures.lawful c.requires

pub overflow_step-y : goal.overflow_step-y
overflow_step-y c = let box = least_box_of_field _ _ c.over-weights.ensures.lawful c.requires in omega (arith, ints)

pub loop-y-init : goal.loop-y-init
loop-y-init c =
    let box = least_box_of_field _ _ c.over-weights.ensures.lawful c.requires in (
      box_none _ _ _ box (omega (arith, ints)) c.in_ok-text.ensures.items,
      all_ahead _ _ _ c.over-weights.ensures.lawful c.over-weights.ensures.runs,
    )

pub push_row-requires : goal.push_row-requires
push_row-requires c =
    let box = least_box_of_field _ _ c.over-weights.ensures.lawful c.requires in
    record { order = c.loop-y.invariant.1.order; least = omega (arith, ints); greatest = omega (arith, ints); columns = omega (arith, ints) }

pub loop-y-preserved : goal.loop-y-preserved
loop-y-preserved c =
    let bounds = c.args.bounds.now in
    let box = least_box_of_field _ _ c.over-weights.ensures.lawful c.requires in
    let so_far = c.loop-y.invariant in
    let inside : bounds.min_y ≤ℤ (to_z w32 c.loop-y.y-bits -ℤ pos 1) = omega (arith, ints, c.loop-y-test.true) in
    let row : to_z w32 (of_z w32 (to_z w32 c.loop-y.y-bits -ℤ pos 1)) ≡ to_z w32 c.loop-y.y-bits -ℤ pos 1 = omega (arith, ints, so_far.0.top) in
    let left : to_z w32 (of_z w32 bounds.min_x) ≡ bounds.min_x = omega (arith, ints) in
    let right : to_z w32 (of_z w32 bounds.max_x) ≡ bounds.max_x = omega (arith, ints) in
    let line = row_ahead grid_character _ _ (extent bounds.min_x bounds.max_x) so_far.1.same in
    let pushed = rw (row, left, right) at c.in_ok-push_row.ensures.text in
    let later = rw (right, row) at c.in_ok-push_row.ensures.later in
    rw row (box_more inside (rw line at pushed) so_far.0, ahead_below _ box c.in_ok-push_row.ensures.order later so_far.1)

pub returns : goal.returns
returns c =
    let h = c.loop-y.invariant.0 in
    let box = least_box_of_field _ _ c.over-weights.ensures.lawful c.requires in
    box_all _ _ _ (omega (arith, ints, h.bottom, c.loop-y-test.false)) h ∙ sym (grid_of_box _ _ c.requires)
