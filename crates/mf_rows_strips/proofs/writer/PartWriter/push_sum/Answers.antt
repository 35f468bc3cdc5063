use Rattle.std.proofs.Common.{to_z-of_z, arith}
use Rattle.std.proofs.lemmas.Int.{ints}
use Rattle.std.proofs.lemmas.List.{nil_from_length}
use Rattle.std.proofs.lemmas.Result.{on_ok_weaker}
use Rattle.mf_rows_strips.proofs.HeadsLemmas.{heads_more, heads_push, strips_push}
use Rattle.mf_rows_strips.proofs.SumsLemmas.{sum_left, sum_right, sum_strip}
use Rattle.mf_rows_strips.proofs.writer.PartWriter.push_sum.Goals as goal

pub returns-then-is_empty : goal.returns-then-is_empty
returns-then-is_empty c =
    let none = nil_from_length c.args.right.now (grind (arith, c.if-is_empty)) in
    on_ok_weaker c.push.result (λ all. sum_strip all (sum_left _ _ c.requires.left none)) (rw (to_z-of_z c.ranges.top) at c.push.ensures)

pub returns-then-is_empty-2 : goal.returns-then-is_empty-2
returns-then-is_empty-2 c =
    let none = nil_from_length c.args.left.now (grind (arith, c.if-is_empty-2)) in
    on_ok_weaker c.push-then-is_empty-2.result (λ all. sum_strip all (sum_right _ _ c.requires.right none))
    (rw (to_z-of_z c.ranges.top) at c.push-then-is_empty-2.ensures)

pub returns : goal.returns
returns c =
    let head = c.in_ok-head.ensures in
    let sum = c.in_ok-push_sum_of_edges.ensures.pushed in
    let pushed = strips_push _ _ _ sum.all _ c.self.invariant c.in_ok-head.head c.args.top (omega (arith, ints, head.top)) (omega (arith, head.start)) (omega (arith, head.end)) in
    sum_strip (rw (c.in_ok-push.ensures.items, ← c.self.view_is) pushed) sum.sum

pub invariant_of-self-2 : goal.invariant_of-self-2
invariant_of-self-2 c =
    let head = c.in_ok-head.ensures in
    rw c.in_ok-push.ensures.items (heads_push _ _ _ c.in_ok-push_sum_of_edges.ensures.pushed.all _ c.self.invariant c.in_ok-head.head c.args.top (omega (arith, ints, head.top)) (omega (arith, head.start)) (omega (arith, head.end)))

pub invariant_of-self : goal.invariant_of-self
invariant_of-self c = let kept = c.in_err-push_sum_of_edges.ensures.kept in heads_more _ _ _ kept.all _ c.self.invariant

pub invariant_of-self-in_err-head : goal.invariant_of-self-in_err-head
invariant_of-self-in_err-head c = heads_more _ _ _ c.in_ok-push_sum_of_edges.ensures.pushed.all _ c.self.invariant

pub invariant_of-self-in_err-push : goal.invariant_of-self-in_err-push
invariant_of-self-in_err-push c = rw c.in_err-push.ensures.items (heads_more _ _ _ c.in_ok-push_sum_of_edges.ensures.pushed.all _ c.self.invariant)
