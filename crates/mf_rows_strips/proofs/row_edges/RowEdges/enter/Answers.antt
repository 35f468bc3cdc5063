use Rattle.std.proofs.Common.{◌≡◌, ◌<◌, rules, take, length, to_z, of_z, to_z-of_z, w32, refl, sym, ap, ◌∙◌, arith}
use Rattle.std.specs.Arc.{arc_value}
use Rattle.std.specs.Vec.{vec_len}
use Rattle.std.proofs.lemmas.Int.{ints}
use Rattle.std.proofs.lemmas.List.{take_all}
use Rattle.mf_rows_strips.specs.Parts.{weight_in_parts}
use Rattle.mf_rows_strips.specs.Piles.{most_parts}
use Rattle.mf_rows_strips.specs.RowEdges.{weight_left, weights_of}
use Rattle.mf_rows_strips.proofs.PileReads.{both_same, weight_in_parts-more}
use Rattle.mf_rows_strips.proofs.PartEdgesLemmas.{weight_in_all-set}
use Rattle.mf_rows_strips.proofs.row_edges.RowEdges.enter.Goals as goal
use Rattle.mf_rows_strips.proofs.row_edges.RowEdges.enter.Goals.{After-loop-i}

pub loop-i-init : goal.loop-i-init
unfolding weight_in_parts
loop-i-init c = rw (to_z-of_z c.ranges.y) (record {
  edges = λ x. refl;
  rows = record { low = omega (arith, ints); order = c.requires.least; same = λ x v low high. refl };
})

pub loop-i-preserved : goal.loop-i-preserved
loop-i-preserved c =
    let parts = c.deref.result.now in
    let i = c.loop-i.i in
    let y = to_z-of_z c.ranges.y in
    let so_far = rw y at c.loop-i.invariant in
    let found = rw (y, c.deref-in-loop-i.ensures ∙ ap arc_value c.index-parts-i.is) at c.equal_rows-rows.ensures in
    let bottom : to_z w32 (of_z w32 c.equal_rows-rows.result.bottom) ≡ c.equal_rows-rows.result.bottom = omega (arith, ints) in
    let next : to_z w32 (of_z w32 c.max-bottom.result) ≡ c.max-bottom.result = omega (arith, ints) in
    let more = weight_in_parts-more parts i c.index-parts-i.result c.loop-i-test.true in
    let room : length c.args.self.now.edges ≡ most_parts = search rules in
    let in_edges : i < length c.loop-i.edges = omega (arith, room, c.args.self.now.pile.now.lawful.few, c.deref.ensures.len) in
    rw (y, next) (record {
      edges = λ x. weight_in_all-set c.loop-i.edges i c.of.result in_edges x ∙ rw (c.of.ensures, so_far.edges, found.row) (sym (more x c.args.y));
      rows = both_same more so_far.rows (found.rows c.requires) _ (rw bottom at c.max-bottom.ensures.value);
    })

parts_end : (c : After-loop-i) → take c.loop-i.i c.deref.result.now ≡ c.args.self.now.pile.now.parts.items
parts_end c = take_all c.loop-i.i c.deref.result.now c.loop-i-test.false ∙ c.deref.ensures.value

pub returns-clause-row : goal.returns-clause-row
unfolding weight_left weights_of
returns-clause-row c = λ x.
    let end : vec_len c.args.self.now.pile.now.parts ≡ c.loop-i.i = omega (arith, c.loop-i.auto.i-end, c.loop-i-test.false, c.deref.ensures.len) in
    rw end (rw (to_z-of_z c.ranges.y, parts_end (goal.at.returns-clause-row c).After-loop-i) at (c.loop-i.invariant.edges x))

pub returns-clause-rows : goal.returns-clause-rows
unfolding weights_of
returns-clause-rows c = rw (to_z-of_z c.ranges.y, parts_end (goal.at.returns-clause-rows c).After-loop-i) at c.loop-i.invariant.rows

pub returns-clause-same : goal.returns-clause-same
unfolding weights_of
returns-clause-same c = refl
