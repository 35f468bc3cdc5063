use Rattle.std.proofs.Common.{refl, ◌≡◌, ◌-◌, length, take, drop, sym, ◌∙◌, inl, inr, arith}
use Rattle.std.proofs.lemmas.Int.{ints}
use Rattle.std.proofs.lemmas.List.{length-drop, take_all}
use Rattle.mf_rows_strips.proofs.HeadsLemmas.{same_edges, edges_back, heads_more, heads_push, strips_push, row_back}
use Rattle.mf_rows_strips.proofs.writer.PartWriter.push_mapped.Goals as goal

pub returns-then-eq : goal.returns-then-eq
returns-then-eq c =
    let mapped = c.in_ok-push_mapped_edges.ensures.pushed in
    let es = c.push_mapped_edges.new.mapped.items in
    let hs = c.self.inside.heads.items in
    let n = c.len-start.result in
    let ds = c.deref.result.now in
    let rest : take (length ds - n) (drop n ds) ≡ drop n ds = take_all (length ds - n) (drop n ds) (omega (arith, length-drop n ds)) in
    let equal = same_edges (take (length ds - n) (drop n ds)) c.last_row.result.now c.if-eq.ensures in
    let same : drop n es ≡ c.last_row.result.now = rw (← c.deref.ensures.value) (sym rest ∙ equal) in
    let start : n ≡ length c.self.inside.edges.items = omega (arith, c.len-start.ensures) in
    let last = row_back _ _ es mapped.all hs c.self.invariant n start (same ∙ c.last_row.ensures) in
    let back = edges_back _ _ es mapped.all hs c.self.invariant n start in
    record { edges = mapped.more; mapped = mapped.mapped; strips = inr (rw (← c.self.view_is) last, rw (c.truncate.ensures.items, back, ← c.self.view_is) refl) }

pub returns : goal.returns
returns c =
    let head = c.in_ok-head.ensures in
    let mapped = c.in_ok-push_mapped_edges.ensures.pushed in
    let pushed = strips_push _ _ _ mapped.all _ c.self.invariant c.in_ok-head.head c.args.top (omega (arith, ints, head.top)) (omega (arith, head.start)) (omega (arith, head.end)) in
    record { edges = mapped.more; mapped = mapped.mapped; strips = inl (rw (c.in_ok-push.ensures.items, ← c.self.view_is) pushed) }

pub invariant_of-self : goal.invariant_of-self
invariant_of-self c = let kept = c.in_err-push_mapped_edges.ensures.kept in heads_more _ _ _ kept.all _ c.self.invariant

pub invariant_of-self-2 : goal.invariant_of-self-2
invariant_of-self-2 c = heads_more _ _ _ c.in_ok-push_mapped_edges.ensures.pushed.all _ c.self.invariant

pub invariant_of-self-then-eq : goal.invariant_of-self-then-eq
invariant_of-self-then-eq c =
    let mapped = c.in_ok-push_mapped_edges.ensures.pushed in
    rw (c.truncate.ensures.items, edges_back _ _ _ mapped.all _ c.self.invariant c.len-start.result (omega (arith, c.len-start.ensures))) c.self.invariant

pub invariant_of-self-in_err-head : goal.invariant_of-self-in_err-head
invariant_of-self-in_err-head c = heads_more _ _ _ c.in_ok-push_mapped_edges.ensures.pushed.all _ c.self.invariant

pub invariant_of-self-in_err-push : goal.invariant_of-self-in_err-push
invariant_of-self-in_err-push c = rw c.in_err-push.ensures.items (heads_more _ _ _ c.in_ok-push_mapped_edges.ensures.pushed.all _ c.self.invariant)

pub invariant_of-self-3 : goal.invariant_of-self-3
invariant_of-self-3 c =
    let head = c.in_ok-head.ensures in
    rw c.in_ok-push.ensures.items (heads_push _ _ _ c.in_ok-push_mapped_edges.ensures.pushed.all _ c.self.invariant c.in_ok-head.head c.args.top (omega (arith, ints, head.top)) (omega (arith, head.start)) (omega (arith, head.end)))
