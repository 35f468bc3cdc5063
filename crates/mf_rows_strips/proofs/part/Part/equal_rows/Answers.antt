use Rattle.std.proofs.Common.{◌≡◌, [], true, false, to_z, of_z, to_z-of_z, w32, unwrap_or, take, drop, ◌∙◌, sym, ap, subst, take-append-drop, arith, rules}
use Rattle.std.specs.List.Sorted.{IsPartitionPoint}
use Rattle.std.proofs.lemmas.Fn.{always_returns_same}
use Rattle.std.proofs.lemmas.Int.{ints}
use Rattle.mf_geom.specs.Coordinates.{least_coordinate}
use Rattle.mf_rows_edges.specs.Edges.{weight_in}
use Rattle.mf_rows_edges.proofs.Falls.{All-take_within}
use Rattle.mf_rows_strips.specs.Parts.{first_top, strips_of, strips_in}
use Rattle.mf_rows_strips.specs.Strips.{AreAbove, AreStrips, row_in, weight_in_strips}
use Rattle.mf_rows_strips.specs.Sums.{IsFrom}
use Rattle.mf_rows_strips.proofs.Finding.{begins_above, IsPartitionedBy-begins_above, first_above, from_others, found_row, found_rows, AreSplitAt}
use Rattle.mf_rows_strips.proofs.PartsLemmas.{part_row}
use Rattle.mf_rows_strips.proofs.part.Part.equal_rows.Goals as goal
use Rattle.mf_rows_strips.proofs.part.Part.equal_rows.Goals.{After-last_row}

lawful : (c : After-last_row) → AreStrips c.args.self.now.reach (strips_of c.strips-strips.result)
lawful c = rw c.strips-strips.ensures c.args.self.now.lawful

split : (c : After-last_row)
    → IsPartitionPoint (λ head. begins_above c.args.y head ≡ true) (λ head. begins_above c.args.y head ≡ false) c.strips-strips.result.heads.now
    c.partition_point-above.result
split c =
    let heads = c.strips-strips.result.heads.now in
    subst (λ y. IsPartitionPoint (λ head. begins_above y head ≡ true) (λ head. begins_above y head ≡ false) heads c.partition_point-above.result) (to_z-of_z c.ranges.y)
    (c.partition_point-above.ensures.partitioned (begins_above (to_z w32 (of_z w32 c.args.y)))
    (search (rules, always_returns_same)) (IsPartitionedBy-begins_above _ _ c.strips-strips.result.edges.now heads (lawful c)))

above : (c : After-last_row) → AreAbove c.args.y (take c.partition_point-above.result (strips_of c.strips-strips.result))
above c = first_above c.args.y c.strips-strips.result.edges.now c.strips-strips.result.heads.now c.partition_point-above.result
    (All-take_within (λ head. begins_above c.args.y head ≡ true) c.strips-strips.result.heads.now c.partition_point-above.result c.partition_point-above.ensures.bound (split c).0)

from : (c : After-last_row) → IsFrom (drop c.partition_point-above.result (strips_of c.strips-strips.result)) c.args.y
from c =
    from_others c.args.y c.strips-strips.result.edges.now c.partition_point-above.result c.strips-strips.result.heads.now
    (λ d lt. let at = (split c).1 c.partition_point-above.result d (omega arith) lt in grind (arith, ints))

ends : (c : After-last_row) → to_z w32 (of_z w32 c.unwrap_or.result)
    ≡ unwrap_or (first_top (drop c.partition_point-above.result (strips_of c.strips-strips.result))) least_coordinate
ends c =
    let bottom = c.unwrap_or.ensures ∙ ap (λ t. unwrap_or t least_coordinate) (c.top.ensures ∙ ap first_top c.split_at.ensures.below) in
    let is : to_z w32 (of_z w32 c.unwrap_or.result) ≡ c.unwrap_or.result = omega (arith, ints) in
    is ∙ bottom

at_row : (c : After-last_row)
    → AreSplitAt c.args.y c.args.self.now.reach (to_z w32 (of_z w32 c.unwrap_or.result)) (strips_of c.strips-strips.result)
    (take c.partition_point-above.result (strips_of c.strips-strips.result)) (drop c.partition_point-above.result (strips_of c.strips-strips.result))
at_row c = record { all = sym (take-append-drop _ _); strips = lawful c; above = above c; from = from c; ends = ends c }

row : (c : After-last_row) → c.last_row.result.now ≡ row_in [] (strips_in c.args.self.now) c.args.y
row c =
    c.last_row.ensures ∙ rw (c.split_at.ensures.above, found_row (at_row c), c.strips-strips.ensures)

pub returns-clause-edges : goal.returns-clause-edges
returns-clause-edges c = part_row c.args.self.now c.args.y _ (row c)

pub returns-clause-row : goal.returns-clause-row
unfolding weight_in_strips
returns-clause-row c = λ x. ap (λ es. weight_in es x) (row c)

pub returns-clause-rows : goal.returns-clause-rows
returns-clause-rows c = rw c.strips-strips.ensures at (found_rows (at_row c))
