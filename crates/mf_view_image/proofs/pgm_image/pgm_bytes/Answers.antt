use Rattle.std.proofs.Common.{◌≡◌, ◌≤ℤ◌, ◌++◌, pos, ◌-ℤ◌, to_z, of_z, w32, ap, sym, ◌∙◌, arith}
use Rattle.std.proofs.lemmas.Int.{ints}
use Rattle.std.proofs.lemmas.List.{append-nil}
use Rattle.mf_view_image.specs.Pgm.{box_bytes, pgm_bytes, pgm_head}
use Rattle.mf_text_show.proofs.ShownRows.{box_none, box_more, box_all}
use Rattle.mf_view_image.proofs.pgm_image.pgm_bytes.Goals as goal

pub loop-y-init : goal.loop-y-init
loop-y-init c =
    box_none _ _ _ c.requires.field (omega (arith, ints)) (c.in_ok-push_head.ensures ∙ ap (λ old. old ++ pgm_head c.args.bounds.now) c.new-bytes.ensures.items)

pub loop-y-preserved : goal.loop-y-preserved
loop-y-preserved c =
    let bounds = c.args.bounds.now in
    let box = c.requires.field in
    let so_far = c.loop-y.invariant in
    let inside : bounds.min_y ≤ℤ (to_z w32 c.loop-y.y-bits -ℤ pos 1) = omega (arith, ints, c.loop-y-test.true) in
    let row : to_z w32 (of_z w32 (to_z w32 c.loop-y.y-bits -ℤ pos 1)) ≡ to_z w32 c.loop-y.y-bits -ℤ pos 1 = omega (arith, ints, so_far.top) in
    let left : to_z w32 (of_z w32 bounds.min_x) ≡ bounds.min_x = omega (arith, ints) in
    let right : to_z w32 (of_z w32 bounds.max_x) ≡ bounds.max_x = omega (arith, ints) in
    let pushed = rw (row, left, right) at c.in_ok-push_row.ensures ∙ sym (append-nil _) in
    rw row (box_more inside pushed so_far)

pub returns : goal.returns
unfolding pgm_bytes
returns c =
    let ds = c.args.picture.now in
    box_all _ _ _ (omega (arith, ints, c.loop-y.invariant.bottom, c.loop-y-test.false)) c.loop-y.invariant
    ∙ ap (λ b. pgm_head b ++ box_bytes ds b) c.requires.is
