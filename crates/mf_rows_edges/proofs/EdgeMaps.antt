-- A row of edges after each weight is mapped, edge by edge.
use Rattle.std.proofs.Common.{◌≡◌, ℤ, pos, ◌+ℤ◌, ◌-ℤ◌, ◌≤ℤ◌, ◌<ℤ◌, FitsSigned, to_z, of_z, w32, List, [], ◌∷◌, ◌++◌, sym, ap, ◌∙◌, arith}
use Rattle.std.specs.List.{All}
use Rattle.std.proofs.lemmas.Int.{ints, by_lt_z}
use Rattle.std.proofs.lemmas.List.Elements.{All-nil, All-weaker}
use Rattle.mf_geom.specs.Coordinates.{least_coordinate}
use Rattle.mf_rows_edges.specs.declared.edge.Edge.{Edge}
use Rattle.mf_rows_edges.specs.declared.weight_map.WeightMap.{WeightMap}
use Rattle.mf_rows_edges.specs.LawfulWeights.{IsLawfulWeight}
use Rattle.mf_rows_edges.specs.Edges.{weight_in, AreEdgesFrom, AreEdges}
use Rattle.mf_rows_edges.specs.Merging.{AreEdgesBefore, unless_zero}
use Rattle.mf_rows_edges.specs.WeightMaps.{mapped_in, mapped_weight, AreMapped, IsWeightMap}
use Rattle.mf_rows_edges.proofs.EdgesAt.{ArePassed, both_weights, none_passed, one_passed, passed_after, passed_before, passed_in}
use Rattle.mf_rows_edges.proofs.EdgesLemmas.{weight_in-left, weight_in-right}
use Rattle.mf_rows_edges.proofs.EdgeSums.{weight_in-push, sorted_push, before_push}

-- new edges, to the left of those that are left, have the mapped weights of the edges of a row that were passed
pub record IsMappedSoFar (m : WeightMap) (es left new : List Edge) (weight image : ℤ) : Type 0 where
  pub passed : ArePassed es left weight
  pub sorted : AreEdgesFrom least_coordinate new
  pub before : All (λ e. e.x <ℤ passed.low) new
  pub weights : (x : ℤ) → weight_in new x ≡ mapped_weight m (passed_in es left x)
  pub image_is : image ≡ mapped_weight m weight

pub mapped_none : (m : WeightMap) (es : List Edge) → AreEdges es → IsWeightMap m → IsMappedSoFar m es es [] (pos 0) (pos 0)
unfolding weight_in
mapped_none m es row map = grind (arith, ints, All-nil, none_passed, sym, ap)

-- what the code computes at an edge: 32 bits hold all of it
pub record IsNext (m : WeightMap) (weight change image next : ℤ) : Type 0 where
  pub change_is : to_z w32 (of_z w32 change) ≡ change
  pub sum_is : to_z w32 (of_z w32 (weight +ℤ change)) ≡ weight +ℤ change
  pub next_is : to_z w32 (of_z w32 next) ≡ next
  pub fits : FitsSigned w32 (next -ℤ image)
  pub value : next ≡ mapped_weight m (weight +ℤ change)

pub next_at : {m : WeightMap} {es left new : List Edge} {e : Edge} {weight image : ℤ} → AreEdges es → IsWeightMap m
    → IsMappedSoFar m es (e ∷ left) new weight image → (next : ℤ) → next ≡ mapped_weight m (to_z w32 (of_z w32 (weight +ℤ to_z w32 (of_z w32 e.weight))))
    → IsNext m weight e.weight image next
next_at {m = m} {e = e} {weight = weight} row map so_far next computed =
    let weights = both_weights so_far.passed IsLawfulWeight row.lawful in
    let images = both_weights so_far.passed (λ w. IsLawfulWeight (mapped_weight m w)) (λ x. map.lawful _ (row.lawful x)) in
    let image_is = so_far.image_is in
    let change_is : to_z w32 (of_z w32 e.weight) ≡ e.weight = omega (arith, ints) in
    let sum_is : to_z w32 (of_z w32 (weight +ℤ e.weight)) ≡ weight +ℤ e.weight = omega (arith, ints) in
    let value = rw (change_is, sum_is) at computed in
    record { change_is = change_is; sum_is = sum_is; next_is = omega (arith, ints, value, images); fits = omega (arith, ints, value, images); value = value }

pub mapped_more : {m : WeightMap} {es left new : List Edge} {e : Edge} {weight image next : ℤ} → IsMappedSoFar m es (e ∷ left) new weight image
    → next ≡ mapped_weight m (weight +ℤ e.weight)
    → IsMappedSoFar m es left (new ++ unless_zero (record { x = e.x; weight = next -ℤ image })) (weight +ℤ e.weight) next
mapped_more {m = m} {new = new} {e = e} {weight = weight} {image = image} {next = next} so_far next_is =
    let passed = so_far.passed in
    let from : passed.low ≤ℤ e.x = passed.sorted.1 in
    let made : Edge = record { x = e.x; weight = next -ℤ image } in
    let before : AreEdgesBefore e.x new = record {
      sorted = so_far.sorted;
      before = All-weaker (λ d. d.x <ℤ passed.low) (λ d. d.x <ℤ e.x) (λ d lt. omega (arith, ints)) new so_far.before;
      column = passed.sorted.0.column;
    } in
    record {
      passed = one_passed passed;
      sorted = sorted_push new made before;
      before = before_push new made before;
      weights = λ x.
          weight_in-push new made x
          ∙ by_lt_z x e.x
          (λ lt. weight_in-right made new x lt ∙ so_far.weights x ∙ ap (mapped_weight m) (sym (passed_before passed x lt)))
          (λ le.
          let old = so_far.weights x ∙ ap (mapped_weight m) (passed.sum x (omega (arith, ints, le, from))) ∙ sym so_far.image_is in
          let more = weight_in-left made new x le in
          rw (passed_after passed x le, ← next_is) (omega (arith, ints)));
      image_is = next_is;
    }

pub mapped_all : {m : WeightMap} {es new : List Edge} {weight image : ℤ} → AreEdges es → IsWeightMap m → IsMappedSoFar m es [] new weight image → AreMapped m es new
unfolding mapped_in weight_in
mapped_all {m = m} {es = es} {new = new} row map so_far =
    let weights : (x : ℤ) → weight_in new x ≡ mapped_weight m (weight_in es x) = λ x. so_far.weights x ∙ ap (mapped_weight m) (omega (arith, ints)) in
    grind (arith, ints, sym)
