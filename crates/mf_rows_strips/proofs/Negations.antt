-- Strips with negated weights.
use Rattle.std.proofs.Common.{◌≡◌, ℤ, neg_ℤ, List, map, get_or, w32, refl, ◌∙◌, arith}
use Rattle.std.specs.Int.{int_wrapping_neg}
use Rattle.std.proofs.lemmas.Int.{ints, wrapping_neg_is, int_wrap_fits}
use Rattle.mf_rows_edges.specs.declared.edge.Edge.{Edge}
use Rattle.mf_rows_edges.specs.Edges.{AreEdges}
use Rattle.mf_rows_edges.specs.Merging.{IsChange}
use Rattle.mf_rows_edges.specs.Reaches.{StaysInReach}
use Rattle.mf_rows_edges.proofs.EdgeChanges.{RowBecomes, negate_row, negative_edge, row_negative}
use Rattle.mf_rows_edges.proofs.EdgesAt.{all_steps, step_is_change}
use Rattle.mf_rows_strips.specs.declared.part.Part.{Part}
use Rattle.mf_rows_strips.specs.Changes.{negated_edge, negated_weight_in}
use Rattle.mf_rows_strips.specs.Parts.{strips_in}
use Rattle.mf_rows_strips.proofs.StripMaps.{AreLists, each_row, heads-map, map_same, strips_at-map}

pub wrapped_negation : (z : ℤ) → IsChange z → int_wrapping_neg w32 z ≡ neg_ℤ z
wrapped_negation z change = wrapping_neg_is w32 z (omega (arith, ints, change)) ∙ int_wrap_fits w32 (neg_ℤ z) (omega (arith, ints, change))

pub row_negated : (reach : ℤ) (es : List Edge) → AreEdges es → StaysInReach reach es → RowBecomes negate_row reach es (map negated_edge es)
row_negated reach es edges reached =
    rw (map_same negated_edge negative_edge es (λ k d lt.
    let weight = wrapped_negation (get_or es k d).weight (step_is_change edges (all_steps es edges.sorted k d lt)) in
    λ i. record { x = (get_or es k d).x; weight = weight i }))
    (row_negative reach es edges reached)

pub lists_negated : (p : Part) → AreLists p (negated_weight_in (strips_in p)) (map negated_edge p.edges.items) p.heads.items
unfolding negated_weight_in
lists_negated p =
    let same = strips_at-map negated_edge p.edges.items p.heads.items in
    let new = each_row (map negated_edge) negate_row p.reach (strips_in p) p.lawful refl (row_negated p.reach) in
    record { placed = heads-map negated_edge p.edges.items p.heads.items p.placed; lawful = rw same new.strips; weights = rw same new.weights }
