use Rattle.std.proofs.Common.{map, take, get_or, ap, ◌∙◌}
use Rattle.std.specs.Arc.{arc_value}
use Rattle.std.proofs.lemmas.List.{map_push, take_all, take_more}
use Rattle.mf_rows_strips.proofs.pile.joining.share.Goals as goal

pub loop-part-preserved : goal.loop-part-preserved
loop-part-preserved c =
    let part = c.part-item.result in
    let passed = take_more c.args.parts.now c.loop-part.part-index part c.loop-part-test.true in
    let before = map_push arc_value (take c.loop-part.part-index c.args.parts.now) (get_or c.args.parts.now c.loop-part.part-index part) in
    let shared = map_push arc_value c.loop-part.shared.items c.in_ok-try_clone.field-0 in
    cc (c.in_ok-push.ensures.items, c.in_ok-try_clone.ensures)

pub returns : goal.returns
returns c = c.loop-part.invariant ∙ ap (map arc_value) (take_all _ _ c.loop-part-test.false)
