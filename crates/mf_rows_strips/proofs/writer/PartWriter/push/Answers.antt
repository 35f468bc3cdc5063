use Rattle.std.proofs.Common.{arith}
use Rattle.std.proofs.lemmas.Int.{ints}
use Rattle.mf_rows_strips.proofs.HeadsLemmas.{heads_push, strips_push}
use Rattle.mf_rows_strips.proofs.writer.PartWriter.push.Goals as goal

pub returns : goal.returns
returns c =
    let head = c.in_ok-head.ensures in
    let pushed = strips_push _ _ _ c.in_ok-push_row.ensures.pushed _ c.self.invariant c.in_ok-head.head c.args.top (omega (arith, ints, head.top))
    (omega (arith, head.start)) (omega (arith, head.end)) in
    rw (c.in_ok-push.ensures.items, ← c.self.view_is) pushed

pub invariant_of-self-2 : goal.invariant_of-self-2
invariant_of-self-2 c =
    let head = c.in_ok-head.ensures in
    rw c.in_ok-push.ensures.items (heads_push _ _ _ c.in_ok-push_row.ensures.pushed _ c.self.invariant c.in_ok-head.head c.args.top (omega (arith, ints, head.top)) (omega (arith, head.start)) (omega (arith, head.end)))
