use Rattle.std.proofs.Common.{◌≡◌, ◌-ℤ◌, pos, neg_ℤ, get_or, to_z, of_z, w16, w32, ◌∙◌, arith}
use Rattle.std.proofs.lemmas.Int.{ints}
use Rattle.std.proofs.lemmas.List.{drop_all}
use Rattle.mf_rows_strips.specs.declared.strips.Head.{Head}
use Rattle.mf_rows_edges.specs.Axes.{opposite}
use Rattle.mf_rows_strips.specs.Moves.{moved_rows}
use Rattle.mf_rows_strips.specs.Parts.{weight_in_part}
use Rattle.mf_rows_strips.proofs.Mirrors.{lists_opposite, opposite_heads, opposite_more}
use Rattle.mf_rows_strips.proofs.StripMaps.{AreLists, tops_of_part}
use Rattle.mf_rows_strips.proofs.moves.mirrored_rows.Goals as goal
use Rattle.mf_rows_strips.proofs.moves.mirrored_rows.Goals.{After-reverse}

pub overflow_sub-head : goal.overflow_sub-head
overflow_sub-head c =
    let d : Head = record { top = pos 0; count = 0; start = 0 } in
    let height = tops_of_part c.args.part.now _ c.deref-head-items.ensures.value c.loop-head.head-index d c.loop-head-test.true in
    omega (arith, ints, height)

pub loop-head-preserved : goal.loop-head-preserved
loop-head-preserved c =
    let hs = c.deref-head-items.result.now in
    let i = c.loop-head.head-index in
    let d : Head = record { top = pos 0; count = 0; start = 0 } in
    let h : Head = get_or hs i d in
    let height = tops_of_part c.args.part.now hs c.deref-head-items.ensures.value i d c.loop-head-test.true in
    let top : to_z w16 (of_z w16 (pos 0 -ℤ to_z w16 (of_z w16 h.top))) ≡ neg_ℤ h.top = omega (arith, ints, height) in
    rw (c.in_ok-push.ensures.items, top)
    (opposite_more (opposite_heads 0 0 hs) hs c.loop-head.heads.items c.loop-head.start c.loop-head.count i d c.loop-head-test.true c.loop-head.invariant)

lists : (c : After-reverse) → AreLists c.args.part.now (moved_rows opposite (weight_in_part c.args.part.now)) c.extend_from_slice.new.self.items c.reverse.new.self.items
lists c =
    let part = c.args.part.now in
    let edges : c.extend_from_slice.new.self.items ≡ part.edges.items = rw (c.in_ok-extend_from_slice.ensures.items, c.new-edges.ensures.items) (cc) in
    let heads : c.reverse.new.self.items ≡ opposite_heads 0 0 part.heads.items =
    c.reverse.ensures.items ∙ (rw (drop_all c.loop-head.head-index c.deref-head-items.result.now c.loop-head-test.false, c.deref-head-items.ensures.value) at c.loop-head.invariant) in
    rw (edges, heads) (lists_opposite part)

pub of-requires : goal.of-requires
of-requires c =
    let same : to_z w32 (of_z w32 c.reach.result) ≡ c.args.part.now.reach = omega (arith, ints) in
    let new = lists (goal.at.of-requires c).After-reverse in
    rw same (record { placed = new.placed; lawful = new.lawful })

pub returns-clause-weights : goal.returns-clause-weights
returns-clause-weights c = rw c.of.ensures.strips (lists (goal.at.returns-clause-weights c).After-reverse).weights
