-- The sum of two rows of edges, column by column.
use Rattle.std.proofs.Common.{◌≡◌, ◌≢◌, ℕ, Bool, true, false, cond, ℤ, pos, ◌+ℤ◌, ◌-ℤ◌, ◌≤ℤ◌, ◌<ℤ◌}
use Rattle.std.proofs.Common.{List, [], ◌∷◌, ◌++◌, take, drop, refl, ap, sym, ◌∙◌, arith}
use Rattle.std.specs.List.{All}
use Rattle.std.specs.Int.RustNames.{int_le}
use Rattle.std.proofs.lemmas.Bool.{cond_both}
use Rattle.std.proofs.lemmas.Bool.Decides.{Decides-int_eq, not_from_Decides}
use Rattle.std.proofs.lemmas.Int.{ints, by_lt_z}
use Rattle.std.proofs.lemmas.List.{append-nil, append_assoc}
use Rattle.std.proofs.lemmas.List.Elements.{All-append, All-drop, All-head, All-tail, All-nil, All-weaker, All-push}
use Rattle.mf_geom.specs.Coordinates.{least_coordinate}
use Rattle.mf_rows_edges.specs.declared.edge.Edge.{Edge}
use Rattle.mf_rows_edges.specs.LawfulWeights.{IsLawfulWeight}
use Rattle.mf_rows_edges.specs.Edges.{weight_in, AreEdgesFrom, AreEdges}
use Rattle.mf_rows_edges.specs.Merging.{IsDifference, AreChanges, AreEdgesBefore, AreEdgesLeft, BeginFrom, IsSplitAt, unless_zero}
use Rattle.mf_rows_edges.specs.Sums.{weight_in_both, IsEdgeSum, HasMoreEdges}
use Rattle.mf_rows_edges.proofs.EdgesAt.{IsStep, all_steps}
use Rattle.mf_rows_edges.proofs.EdgesLemmas.{weight_in-append, weight_in-left, weight_in-right, weight_in-parts}
use Rattle.mf_rows_edges.proofs.EdgesLemmas.{edges_from-append, edges_from-drop, edges_from-take}

-- ---- the edges at a column

pub split_here : (e : Edge) (others : List Edge) → AreEdgesLeft e.x (e ∷ others) → IsSplitAt (e ∷ others) e.x e.weight others
unfolding weight_in
split_here e others left = record {
  weights = record { weights = λ c. refl };
  difference = All-head (λ e. IsDifference e.weight) e others left.differences;
  rest = record { sorted = left.sorted.2; differences = All-tail (λ e. IsDifference e.weight) e others left.differences };
}

-- an edge of weight 0 adds nothing
weight_in-zero : (x c : ℤ) (es : List Edge) → weight_in (record { x = x; weight = pos 0 } ∷ es) c ≡ weight_in es c
weight_in-zero x c es = grind (arith, ints, by_lt_z, weight_in-right, weight_in-left)

pub split_after : (es : List Edge) (x : ℤ) → AreEdgesLeft x es → BeginFrom (x +ℤ pos 1) es → IsSplitAt es x (pos 0) es
split_after es x left from = grind (arith, ints, sym, weight_in-zero, edges_from-drop x (x +ℤ pos 1) 0 es left.sorted from)

-- ---- rows of edges as changes

pub zero_lawful : IsLawfulWeight (pos 0)
zero_lawful = record { least = omega (arith, ints); greatest = omega (arith, ints) }

-- the edges of a row are also changes, of weights that were 0
pub changes_of_edges : (es : List Edge) → AreEdges es → AreChanges es
changes_of_edges es edges = grind (arith, ints)

-- each of their edges is the difference of two changes
pub changes_left : (es : List Edge) → AreChanges es → AreEdgesLeft least_coordinate es
changes_left es changes = record {
  sorted = changes.sorted;
  differences = All-weaker (IsStep es) (λ e. IsDifference e.weight) (λ e step.
      let old = changes.changes (e.x -ℤ pos 1) in
      let new = changes.changes e.x in
      record { least = omega (arith, ints, step); greatest = omega (arith, ints, step) }) es (all_steps es changes.sorted);
}

-- ---- an edge is pushed

-- one more edge at the end, unless its weight is 0
pub by_push : (P : List Edge → Type 0) (es : List Edge) (e : Edge) → (e.weight ≡ pos 0 → P es) → (e.weight ≢ pos 0 → P (es ++ e ∷ [])) → P (es ++ unless_zero e)
by_push P es e none some = grind (arith, ints, cond_both, append-nil, Decides-int_eq, not_from_Decides)

pub weight_in-push : (es : List Edge) (e : Edge) (c : ℤ) → weight_in (es ++ unless_zero e) c ≡ weight_in (e ∷ es) c
unfolding weight_in
weight_in-push es e c = grind (arith, ints, by_push, sym, weight_in-zero, weight_in-append)

pub sorted_push : (es : List Edge) (e : Edge) → AreEdgesBefore e.x es → AreEdgesFrom least_coordinate (es ++ unless_zero e)
sorted_push es e edges =
    by_push (AreEdgesFrom least_coordinate) es e (λ _. edges.sorted) (λ nonzero.
    edges_from-append least_coordinate e.x es (e ∷ []) edges.column.least edges.sorted edges.before
    (record { column = edges.column; nonzero = nonzero }, omega (arith, ints), tt))

pub before_push : (es : List Edge) (e : Edge) → AreEdgesBefore e.x es → All (λ d. d.x <ℤ (e.x +ℤ pos 1)) (es ++ unless_zero e)
before_push es e edges =
    let old = All-weaker (λ d. d.x <ℤ e.x) (λ d. d.x <ℤ (e.x +ℤ pos 1)) (λ d lt. omega (arith, ints)) es edges.before in
    by_push (All (λ d. d.x <ℤ (e.x +ℤ pos 1))) es e (λ _. old) (λ _. All-push (λ d. d.x <ℤ (e.x +ℤ pos 1)) es e old (omega (arith, ints)))

-- ---- the sum so far

-- new edges have, together with the edges that are left of two rows, the weights f; the edges that are left are at or to the right of
-- column low, and the new ones are to the left of it
pub record IsSumSoFar (f : ℤ → ℤ) (low : ℤ) (new es fs : List Edge) : Type 0 where
  pub reach : least_coordinate ≤ℤ low
  pub sorted : AreEdgesFrom least_coordinate new
  pub below : All (λ e. e.x <ℤ low) new
  pub left : AreEdgesLeft low es
  pub right : AreEdgesLeft low fs
  pub weights : (x : ℤ) → weight_in new x +ℤ weight_in_both es fs x ≡ f x

pub sum_none : (es fs : List Edge) → AreEdges es → AreChanges fs → IsSumSoFar (weight_in_both es fs) least_coordinate [] es fs
unfolding weight_in
sum_none es fs left right = grind (arith, ints, All-nil, changes_left, changes_of_edges)

pub cond-sum : (test : Bool) (v w : ℤ) → cond test (v +ℤ w) (pos 0) ≡ cond test v (pos 0) +ℤ cond test w (pos 0)
cond-sum true v w = refl
cond-sum false v w = refl

abbrev pub nothing_more : (es : List Edge) → HasMoreEdges es es
nothing_more es = record { more = []; all = sym (append-nil es) }

abbrev pub still_more : {before after : List Edge} → HasMoreEdges before after → (es : List Edge) → HasMoreEdges before (after ++ es)
still_more {before = before} m es = record { more = m.more ++ es; all = ap (λ t. t ++ es) m.all ∙ append_assoc before m.more es }

-- the next change comes after the first n edges of the left row, which join
module _ {f : ℤ → ℤ} {low : ℤ} {new es fs : List Edge} {e : Edge} (so_far : IsSumSoFar f low new es (e ∷ fs)) (n : ℕ)
    (below : All (λ d. d.x <ℤ e.x) (take n es)) (from : BeginFrom e.x (drop n es)) where
  pub sum_kept : IsSumSoFar f e.x (new ++ take n es) (drop n es) (e ∷ fs)
  unfolding weight_in_both
  sum_kept =
      let start : low ≤ℤ e.x = so_far.right.sorted.1 in
      record {
        reach = omega (arith, ints, so_far.reach);
        sorted = edges_from-append least_coordinate low new (take n es) so_far.reach so_far.sorted so_far.below (edges_from-take low n es so_far.left.sorted);
        below = All-append (λ d. d.x <ℤ e.x) new (take n es)
            (All-weaker (λ d. d.x <ℤ low) (λ d. d.x <ℤ e.x) (λ d lt. omega (arith, ints)) new so_far.below) below;
        left = record {
          sorted = edges_from-drop low e.x n es so_far.left.sorted from;
          differences = All-drop (λ e. IsDifference e.weight) n es so_far.left.differences;
        };
        right = record { sorted = (so_far.right.sorted.0, omega (arith, ints), so_far.right.sorted.2); differences = so_far.right.differences };
        weights = λ x. omega (arith, ints, so_far.weights x, weight_in-append new (take n es) x, weight_in-parts n es x);
      }

-- then the change joins with the edge at its column
pub sum_more : {f : ℤ → ℤ} {new es fs others : List Edge} {e : Edge} {v : ℤ} → IsSumSoFar f e.x new es (e ∷ fs) → IsSplitAt es e.x v others
    → IsSumSoFar f (e.x +ℤ pos 1) (new ++ unless_zero (record { x = e.x; weight = v +ℤ e.weight })) others fs
unfolding weight_in weight_in_both
sum_more {new = new} {fs = fs} {e = e} {v = v} so_far split =
    let sum : Edge = record { x = e.x; weight = v +ℤ e.weight } in
    let before : AreEdgesBefore e.x new = record { sorted = so_far.sorted; before = so_far.below; column = so_far.right.sorted.0.column } in
    record {
      reach = omega (arith, ints, so_far.reach);
      sorted = sorted_push new sum before;
      below = before_push new sum before;
      left = split.rest;
      right = record { sorted = so_far.right.sorted.2; differences = All-tail (λ e. IsDifference e.weight) e fs so_far.right.differences };
      weights = λ x. omega (arith, ints, so_far.weights x, weight_in-push new sum x, split.weights.weights x, cond-sum (int_le e.x x) v e.weight);
    }

-- where no change is left, all other edges of the left row join
pub sum_all : {whole_left whole_right new es : List Edge} {low : ℤ} → IsSumSoFar (weight_in_both whole_left whole_right) low new es []
    → IsEdgeSum whole_left whole_right (new ++ es)
unfolding weight_in weight_in_both
sum_all {new = new} {es = es} so_far = grind (arith, ints, edges_from-append, weight_in-append)
