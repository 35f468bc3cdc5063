-- The total weight of a row, by its edges.
use Rattle.std.proofs.Common.{◌≡◌, ◌≤◌, ℤ, pos, ◌+ℤ◌, ◌-ℤ◌, ◌*ℤ◌, ◌≤ℤ◌, ◌<ℤ◌, List, [], ◌∷◌, FitsSigned, to_z, of_z, w32, refl, subst, sym, ◌∙◌, arith}
use Rattle.std.specs.Int.RustNames.{unsigned_abs}
use Rattle.std.proofs.lemmas.Int.{ints, by_lt_z}
use Rattle.mf_geom.specs.Coordinates.{least_coordinate, greatest_coordinate}
use Rattle.mf_geom.specs.Sum.{sum_below}
use Rattle.mf_rows_edges.specs.declared.edge.Edge.{Edge}
use Rattle.mf_rows_edges.specs.Edges.{weight_in, AreEdges, AreEdgesFrom}
use Rattle.mf_rows_edges.specs.LawfulWeights.{IsLawfulWeight, greatest_weight}
use Rattle.mf_rows_edges.proofs.EdgesAt.{ArePassed, all_before, both_weights, none_passed, one_passed, passed_in}
use Rattle.mf_rows_strips.specs.RowEdges.{weight_left, weights_of}
use Rattle.mf_rows.specs.declared.walk.Walk.{Walk}
use Rattle.mf_rows.specs.Totals.{edges_total, row_total, sum_from}
use Rattle.mf_rows.proofs.PassedPixels.{edges_closed, lawful_weight, left_of_field}
use Rattle.mf_rows.proofs.PassedTotals.{greatest_row, row_fits, sum_from-bound, sum_from-equal}

-- the edges before those that are left were passed, the last of them at column x, and w and total are the sums of their weights and of the
-- weights to the left of x
pub record IsTotalSoFar (es left : List Edge) (x w total : ℤ) : Type 0 where
  pub passed : ArePassed es left w
  pub begins : passed.low ≡ x +ℤ pos 1
  pub least : (least_coordinate -ℤ pos 1) ≤ℤ x
  pub greatest : x ≤ℤ greatest_coordinate
  pub is : total ≡ edges_total es x

total_start : (es : List Edge) → edges_total es (least_coordinate -ℤ pos 1) ≡ pos 0
unfolding edges_total sum_from sum_below
total_start es = refl

pub total_none : (es : List Edge) → AreEdgesFrom least_coordinate es → IsTotalSoFar es es (least_coordinate -ℤ pos 1) (pos 0) (pos 0)
total_none es sorted = record {
  passed = none_passed es sorted;
  begins = omega (arith, ints);
  least = omega (arith, ints);
  greatest = omega (arith, ints);
  is = sym (total_start es);
}

rest_weight : (es : List Edge) (z w : ℤ) → passed_in es [] z ≡ w → weight_in es z ≡ w
unfolding weight_in
rest_weight es z w is = omega (arith, ints, is)

module _ {es : List Edge} (edges : AreEdges es) where
  total_bound : (x : ℤ) → (least_coordinate -ℤ pos 1) ≤ℤ x → x ≤ℤ greatest_coordinate → unsigned_abs (edges_total es x) ≤ greatest_row
  unfolding edges_total
  total_bound x least greatest =
      omega (arith, ints, sum_from-bound (unsigned_abs greatest_weight) (least_coordinate -ℤ pos 1) x (weight_in es) (λ z. let w = edges.lawful z in omega (arith, ints)))

  -- pixels of one weight more
  total_more : (x e w : ℤ) → (least_coordinate -ℤ pos 1) ≤ℤ x → x ≤ℤ e → ((z : ℤ) → x ≤ℤ z → z <ℤ e → weight_in es z ≡ w)
      → edges_total es e ≡ edges_total es x +ℤ w *ℤ (e -ℤ x)
  unfolding edges_total
  total_more x e w = sum_from-equal (least_coordinate -ℤ pos 1) x e w (weight_in es)

  -- an edge is passed
  pub record IsEdgeStep (left : List Edge) (e : Edge) (x w total : ℤ) : Type 0 where
    pub column : to_z w32 (of_z w32 e.x) ≡ e.x
    pub change : to_z w32 (of_z w32 e.weight) ≡ e.weight
    pub width : to_z w32 (of_z w32 (e.x -ℤ x)) ≡ e.x -ℤ x
    pub width_fits : FitsSigned w32 (e.x -ℤ x)
    pub product_fits : FitsSigned w32 (w *ℤ (e.x -ℤ x))
    pub sum_fits : FitsSigned w32 (total +ℤ w *ℤ (e.x -ℤ x))
    pub weight_fits : FitsSigned w32 (w +ℤ e.weight)
    pub next : IsTotalSoFar es left e.x (w +ℤ e.weight) (total +ℤ w *ℤ (e.x -ℤ x))

  pub edge_step : {left : List Edge} {e : Edge} {x w total : ℤ} → IsTotalSoFar es (e ∷ left) x w total → IsEdgeStep left e x w total
  edge_step {left = left} {e = e} {x = x} {w = w} {total = total} so_far =
      let passed = so_far.passed in
      let at = passed.sorted.0.column in
      let order : x <ℤ e.x = omega (arith, ints, so_far.begins, passed.sorted.1) in
      let lawful = both_weights passed IsLawfulWeight edges.lawful in
      let same = λ (z : ℤ) (from : x ≤ℤ z) (to : z <ℤ e.x). all_before passed z to ∙ passed.sum z (omega (arith, ints, so_far.begins)) in
      let more : edges_total es e.x ≡ edges_total es x +ℤ w *ℤ (e.x -ℤ x) = total_more x e.x w so_far.least (omega (arith, ints, order)) same in
      let old = total_bound x so_far.least so_far.greatest in
      let new = total_bound e.x (omega (arith, ints, at.least)) at.greatest in
      let fits = row_fits _ _ _ more old new in
      let total_is = so_far.is in
      record {
        column = omega (arith, ints, at);
        change = omega (arith, ints, lawful);
        width = omega (arith, ints, at, so_far.least, so_far.greatest);
        width_fits = omega (arith, ints, at, so_far.least, so_far.greatest);
        product_fits = fits.0;
        sum_fits = rw total_is (fits.1);
        weight_fits = omega (arith, ints, lawful);
        next = record {
          passed = one_passed passed;
          begins = refl;
          least = omega (arith, ints, at.least);
          greatest = at.greatest;
          is = omega (arith, ints, more, total_is);
        };
      }

  -- to the right of the last edge all weights are 0
  pub total_all : {x w total : ℤ} → IsTotalSoFar es [] x w total → total ≡ edges_total es greatest_coordinate
  total_all {x = x} {w = w} {total = total} so_far =
      let passed = so_far.passed in
      let here = λ (z : ℤ) (from : x ≤ℤ z). rest_weight es z w (passed.sum z (omega (arith, ints, so_far.begins))) in
      let none : w ≡ pos 0 = omega (arith, ints, here greatest_coordinate so_far.greatest, edges.closed) in
      let more = total_more x greatest_coordinate (pos 0) so_far.least so_far.greatest (λ z from to. here z from ∙ none) in
      omega (arith, ints, more, so_far.is)

-- ---- the row of a walk that has passed none of its pixels, by the edges that are left

module _ (s : Walk) (es : List Edge) (start : s.x <ℤ least_coordinate) (same : (x : ℤ) → weight_left s.edges x ≡ weight_in es x) where
  weight_there : (z : ℤ) → s.x ≤ℤ z → weights_of s.edges z s.y ≡ weight_in es z
  weight_there z from =
      omega (arith, ints, same z, s.reading.after z from, s.reading.after s.x (omega (arith, ints)), s.reading.before s.x (omega (arith, ints)), left_of_field s.edges s.x s.y start)

  pub row_edges : AreEdgesFrom least_coordinate es → AreEdges es
  row_edges sorted = record {
    sorted = sorted;
    lawful = λ x. by_lt_z x s.x
        (λ lt. let none = s.reading.before x (omega (arith, ints)) in omega (arith, ints, same x, none))
        (λ from. subst IsLawfulWeight (weight_there x from) (lawful_weight s.edges x s.y));
    closed = sym (same greatest_coordinate) ∙ edges_closed s start;
  }

  pub row_total_is : edges_total es greatest_coordinate ≡ row_total (weights_of s.edges) s.y greatest_coordinate
  unfolding edges_total row_total sum_from
  row_total_is = λ t.
      sum_below (unsigned_abs (greatest_coordinate -ℤ (least_coordinate -ℤ pos 1)))
      (λ i. sym (weight_there (least_coordinate -ℤ pos 1 +ℤ pos i) (omega (arith, ints, start))) t)
