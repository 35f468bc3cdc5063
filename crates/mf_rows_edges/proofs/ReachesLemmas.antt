-- The reach of edges, and of the sum of two rows.
use Rattle.std.proofs.Common.{◌≡◌, nat_abs, ℤ, pos, ◌+ℤ◌, ◌-ℤ◌, ◌≤ℤ◌, List, [], ◌∷◌, sym, ap, arith}
use Rattle.std.specs.Ordering.{int_cmp, ord_max}
use Rattle.std.proofs.lemmas.Cmp.{by_ranked, int_ranked}
use Rattle.std.proofs.lemmas.Int.{ints, by_lt_z}
use Rattle.mf_geom.specs.Coordinates.{least_coordinate}
use Rattle.mf_rows_edges.specs.declared.edge.Edge.{Edge}
use Rattle.mf_rows_edges.specs.LawfulWeights.{IsInReach, IsLawfulWeight}
use Rattle.mf_rows_edges.specs.Edges.{weight_in, AreEdges}
use Rattle.mf_rows_edges.specs.Merging.{AreChanges}
use Rattle.mf_rows_edges.specs.Reaches.{IsLeastReach, StaysInReach}
use Rattle.mf_rows_edges.specs.Sums.{IsEdgeSum, weight_in_both}
use Rattle.mf_rows_edges.proofs.EdgesAt.{ArePassed, here, none_passed, one_passed, passed_after, passed_before, passed_in}
use Rattle.mf_rows_edges.proofs.EdgesLemmas.{weight_in-before}

pub wider_reach : {reach next w : ℤ} → reach ≤ℤ next → IsInReach reach w → IsInReach next w
wider_reach wider within = record { least = omega (arith, ints, within); greatest = omega (arith, ints, within) }

-- the greater of two numbers is one of them
by_greater : (P : ℤ → Type 0) (a b : ℤ) → (b ≤ℤ a → P a) → (a ≤ℤ b → P b) → P (ord_max int_cmp a b)
by_greater P a b first second = grind (arith, ints, by_ranked, int_ranked, sym)

-- ---- the least reach of edges, edge by edge

-- no weight that the edges that were passed give exceeds a reach in absolute value, and a weight of all edges has it
pub record IsReachSoFar (es left : List Edge) (w reach : ℤ) : Type 0 where
  pub passed : ArePassed es left w
  pub within : (x : ℤ) → IsInReach reach (passed_in es left x)
  pub x : ℤ
  pub here : pos (nat_abs (weight_in es x)) ≡ reach

pub reach_none : (es : List Edge) → AreChanges es → IsReachSoFar es es (pos 0) (pos 0)
reach_none es changes = record {
  passed = none_passed es changes.sorted;
  within = λ x. record { least = omega (arith, ints); greatest = omega (arith, ints) };
  x = least_coordinate -ℤ pos 1;
  here = ap (λ w. pos (nat_abs w)) (weight_in-before least_coordinate es (least_coordinate -ℤ pos 1) changes.sorted (omega (arith, ints)));
}

module _ {es left : List Edge} {e : Edge} {w reach : ℤ} (so_far : IsReachSoFar es (e ∷ left) w reach) where
  reach_grows : (next : ℤ) → reach ≤ℤ next → pos (nat_abs (w +ℤ e.weight)) ≤ℤ next → (x : ℤ) → pos (nat_abs (weight_in es x)) ≡ next
      → IsReachSoFar es left (w +ℤ e.weight) next
  reach_grows next wider enough x here = record {
    passed = one_passed so_far.passed;
    within = λ x. by_lt_z x e.x
        (λ lt. rw (passed_before so_far.passed x lt) (wider_reach wider (so_far.within x)))
        (λ le. rw (passed_after so_far.passed x le) (record { least = omega (arith, ints); greatest = omega (arith, ints) }));
    x = x;
    here = here;
  }

  -- the greater of the reach and the absolute value of the next weight is the next reach
  pub reach_more : IsReachSoFar es left (w +ℤ e.weight) (ord_max int_cmp reach (pos (nat_abs (w +ℤ e.weight))))
  reach_more =
      by_greater (IsReachSoFar es left (w +ℤ e.weight)) reach (pos (nat_abs (w +ℤ e.weight)))
      (λ enough. reach_grows reach (omega (arith, ints)) enough so_far.x so_far.here)
      (λ wider. reach_grows (pos (nat_abs (w +ℤ e.weight))) wider (omega (arith, ints)) e.x (ap (λ v. pos (nat_abs v)) (here so_far.passed)))

pub reach_all : (es : List Edge) (w reach : ℤ) → IsReachSoFar es [] w reach → IsLeastReach reach es
unfolding weight_in
reach_all es w reach so_far = grind (arith, ints)

-- ---- reaches that fit

-- the least reach of a row is one
pub reach_of_row : (reach : ℤ) (es : List Edge) → AreEdges es → IsLeastReach reach es → StaysInReach reach es
reach_of_row reach es edges least = grind (arith, ints)

-- ---- the sum of two rows

module _ (es fs sum : List Edge) (is_sum : IsEdgeSum es fs sum) where
  -- it is changes
  pub sum_is_changes : AreEdges es → AreEdges fs → AreChanges sum
  unfolding weight_in_both
  sum_is_changes left right = grind (arith, ints)

  -- where its weights are lawful, it is the edges of a row
  sum_is_row : AreEdges es → AreChanges fs → ((x : ℤ) → IsLawfulWeight (weight_in_both es fs x)) → AreEdges sum
  unfolding weight_in_both
  sum_is_row left right lawful = grind (arith, ints, sym)

  -- which they are where they stay in reach
  pub row_in_reach : (reach : ℤ) → AreEdges es → AreChanges fs → StaysInReach reach sum → AreEdges sum
  row_in_reach reach left right stays = grind (arith, ints, sum_is_row)
