-- The sum of two lists of strips, which is made from the top down.
use Rattle.std.proofs.Common.{◌≡◌, inl, inr, ℤ, to_z, of_z, w32, pos, ◌+ℤ◌, ◌-ℤ◌, ◌≤ℤ◌, List, [], ◌∷◌, ◌++◌, refl, ap, sym, subst, ◌∙◌, arith}
use Rattle.std.proofs.lemmas.Int.{ints, by_lt_z}
use Rattle.mf_geom.specs.Coordinates.{least_coordinate, greatest_coordinate}
use Rattle.mf_rows_edges.specs.declared.edge.Edge.{Edge}
use Rattle.mf_rows_edges.specs.Edges.{weight_in, AreEdges}
use Rattle.mf_rows_edges.specs.LawfulWeights.{IsLawfulWeight}
use Rattle.mf_rows_edges.specs.Merging.{AreChanges}
use Rattle.mf_rows_edges.specs.Reaches.{StaysInReach}
use Rattle.mf_rows_edges.specs.Sums.{IsEdgeSum, IsUnlawfulColumn, weight_in_both}
use Rattle.mf_rows_edges.proofs.EdgeSums.{changes_of_edges}
use Rattle.mf_rows_edges.proofs.ReachesLemmas.{row_in_reach, sum_is_changes}
use Rattle.mf_rows_strips.specs.declared.side.Side.{Side}
use Rattle.mf_rows_strips.specs.Corners.{IsReach}
use Rattle.mf_rows_strips.specs.Parts.{strips_of, HasPassed, HavePassed}
use Rattle.mf_rows_strips.specs.Strips.{EdgeStrip, last_row, row_in, weight_in_strips, AreStrips, AreStripsDownTo, HaveStripWeights, IsUnlawfulSomewhere}
use Rattle.mf_rows_strips.specs.Sums.{sum_in_strips, HasSumStrip, IsWithin}
use Rattle.mf_rows_strips.proofs.HeadsLemmas.{last_row-push}
use Rattle.mf_rows_strips.proofs.Outside.{by_field, strips_outside}
use Rattle.mf_rows_strips.proofs.StripMaps.{rows_lawful}
use Rattle.mf_rows_strips.proofs.StripsLemmas.{no_weight, row_in-front, row_in-lowest, starts_from, wider_strips}
use Rattle.mf_rows_strips.proofs.Written.{ArePassed, GoOn, all_passed, go_on, go_on_with, none_passed, one_passed, passes, strips_closed, strips_none}

-- ---- one side

-- the strips of a side that begin above height `low` were passed, and it has the row of the last one
pub record IsSide (low reach : ℤ) (ss : List EdgeStrip) (s : Side) : Type 0 where
  pub passed : List EdgeStrip
  pub so_far : ArePassed low reach ss passed (strips_of s.strips)
  pub row : s.row.now ≡ last_row passed

-- which is the row below that height
module _ {low reach : ℤ} {ss : List EdgeStrip} {s : Side} (side : IsSide low reach ss s) where
  side_row : row_in [] ss low ≡ s.row.now
  side_row = grind (arith, ints, row_in-front, starts_from, row_in-lowest)

  pub side_weight : (x : ℤ) → weight_in_strips ss x low ≡ weight_in s.row.now x
  unfolding weight_in_strips
  side_weight x = ap (λ es. weight_in es x) side_row

  pub side_lawful : AreEdges s.row.now × StaysInReach reach s.row.now
  side_lawful = subst (λ es. AreEdges es × StaysInReach reach es) side_row (rows_lawful reach ss side.so_far.whole low)

-- the strip at a height was passed, where there is one
record SidePasses (top reach : ℤ) (ss before : List EdgeStrip) (s : Side) : Type 0 where
  side : IsSide (top -ℤ pos 1) reach ss s
  goes : GoOn top reach s.row.now before side.passed

side_next : {low reach : ℤ} {ss : List EdgeStrip} {s : Side} (side : IsSide low reach ss s) (top : ℤ) (t : Side) → top ≤ℤ low → HasPassed top s t
    → SidePasses top reach ss side.passed t
side_next side top t le (inl is) =
    let here : EdgeStrip = record { top = top; edges = t.row.now } in
    let so_far = rw is at side.so_far in
    record { side = record { passed = side.passed ++ here ∷ []; so_far = one_passed so_far; row = sym (last_row-push side.passed here) }; goes = passes so_far }
side_next {low = low} {reach = reach} {s = s} side top t le (inr (same, from)) =
    let so_far = side.so_far in
    let goes = go_on low top reach s.row.now side.passed so_far.above le side.row in
    rw same (record {
      side = record {
        passed = side.passed;
        so_far = grind (arith, ints);
        row = side.row;
      };
      goes = goes;
    })

-- ---- the sum so far

-- the sum of the strips that were passed
pub record IsSumSoFar (ss ts : List EdgeStrip) (l r reach : ℤ) (left right : Side) (out : List EdgeStrip) : Type 0 where
  pub low : ℤ
  pub on_left : IsSide low l ss left
  pub on_right : IsSide low r ts right
  pub written : AreStripsDownTo low reach out
  pub weights : HaveStripWeights (sum_in_strips on_left.passed on_right.passed) out
  pub reached : IsReach reach

pub sum_none : {ss ts : List EdgeStrip} {l r : ℤ} (left right : Side) → left.row.now ≡ [] → right.row.now ≡ [] → strips_of left.strips ≡ ss → strips_of right.strips ≡ ts
    → AreStrips l ss → AreStrips r ts → IsSumSoFar ss ts l r (pos 0) left right []
unfolding sum_in_strips weight_in_strips row_in weight_in
sum_none {ss} {ts} {l} {r} left right none_l none_r is_l is_r on_l on_r = record {
  low = greatest_coordinate;
  on_left = record { passed = []; so_far = rw is_l (none_passed l ss on_l); row = none_l };
  on_right = record { passed = []; so_far = rw is_r (none_passed r ts on_r); row = none_r };
  written = strips_none (pos 0);
  weights = record { weights = λ x y. omega (arith, ints) };
  reached = record { least = omega (arith, ints); most = omega (arith, ints) };
}

pub sum_all : {ss ts : List EdgeStrip} {l r reach : ℤ} {left right : Side} {out : List EdgeStrip} → IsSumSoFar ss ts l r reach left right out
    → (strips_of left.strips ≡ []) × (strips_of right.strips ≡ []) → HaveStripWeights (sum_in_strips ss ts) out × AreStrips reach out
unfolding sum_in_strips weight_in_strips
sum_all so_far over =
    let weights = rw (all_passed so_far.on_left.so_far over.0, all_passed so_far.on_right.so_far over.1) at so_far.weights in (
      weights,
      strips_closed _ _ so_far.low _ so_far.written weights (λ x. rw (so_far.on_left.so_far.whole.closed, so_far.on_right.so_far.whole.closed, no_weight x) refl)
          so_far.reached.least so_far.reached.most,
    )

-- ---- the strips at the next height were passed

module _ {ss ts : List EdgeStrip} {l r reach top : ℤ} {left left' right right' : Side} {out : List EdgeStrip} (so_far : IsSumSoFar ss ts l r reach left right out)
    (passed : HavePassed top left left' right right') where
  pub bounds : (top ≤ℤ so_far.low) × (least_coordinate ≤ℤ top)
  bounds = grind (arith, ints)

  pub high : top ≤ℤ greatest_coordinate
  high = omega (arith, ints, bounds.0, so_far.on_left.so_far.high)

  on_left : SidePasses top l ss so_far.on_left.passed left'
  on_left = side_next so_far.on_left top left' bounds.0 passed.left

  on_right : SidePasses top r ts so_far.on_right.passed right'
  on_right = side_next so_far.on_right top right' bounds.0 passed.right

  pub left_lawful : AreEdges left'.row.now × StaysInReach l left'.row.now
  left_lawful = side_lawful on_left.side

  pub right_lawful : AreEdges right'.row.now × StaysInReach r right'.row.now
  right_lawful = side_lawful on_right.side

  module _ (after : List EdgeStrip) (pushed : HasSumStrip out top left'.row.now right'.row.now after) where
    pub row_changes : AreChanges (last_row after)
    row_changes = sum_is_changes _ _ _ pushed.sum left_lawful.0 right_lawful.0

    pub row_within : IsWithin (l +ℤ r) (last_row after)
    unfolding weight_in_both
    row_within = record {
      within = λ x.
          let sum = pushed.sum.weights.weights x in
          let left = left_lawful.1.within x in
          let right = right_lawful.1.within x in
          record { least = omega (arith, ints); greatest = omega (arith, ints) };
    }

    -- where a weight is unlawful, so is that of the strips, in the row below the height
    pub unlawful_somewhere : IsUnlawfulColumn (weight_in (last_row after)) → IsUnlawfulSomewhere (sum_in_strips ss ts)
    unfolding sum_in_strips weight_in_both
    unlawful_somewhere column =
        let x = column.x in
        let y = top -ℤ pos 1 in
        let is : sum_in_strips ss ts x y ≡ weight_in (last_row after) x =
        omega (arith, ints, side_weight on_left.side x, side_weight on_right.side x, pushed.sum.weights.weights x) in
        let unlawful : IsLawfulWeight (sum_in_strips ss ts x y) → ⊥ = λ lawful. column.unlawful (subst IsLawfulWeight is lawful) in
        record {
          x = x;
          y = y;
          in_field = by_field x y (λ inside. inside) (λ outside.
              let a = strips_outside l ss x y so_far.on_left.so_far.whole outside in
              let b = strips_outside r ts x y so_far.on_right.so_far.whole outside in
              absurd (unlawful (record { least = omega (arith, ints); greatest = omega (arith, ints) })));
          unlawful = unlawful;
        }

    -- otherwise the strips go on
    pub sum_next : (next : ℤ) → reach ≤ℤ next → StaysInReach next (last_row after) → IsSumSoFar ss ts l r next left' right' after
    unfolding sum_in_strips weight_in_both
    sum_next next le stays =
        let wide : AreStripsDownTo so_far.low next out = record { strips = wider_strips greatest_coordinate reach next out le stays.most so_far.written.strips; above = so_far.written.above } in
        let edges = row_in_reach _ _ _ pushed.sum next left_lawful.0 (changes_of_edges _ right_lawful.0) stays in
        let goes = go_on_with so_far.low top next (last_row after) out wide bounds.0 high (record { bottom = bounds.1; edges = edges; reached = stays }) in
        rw pushed.all (record {
          low = top -ℤ pos 1;
          on_left = on_left.side;
          on_right = on_right.side;
          written = goes.strips;
          weights = record {
            weights = λ x y. by_lt_z y top
                (λ lt. omega (arith, ints, goes.below x y lt, pushed.sum.weights.weights x, on_left.goes.below x y lt, on_right.goes.below x y lt))
                (λ ge. omega (arith, ints, goes.above x y ge, so_far.weights.weights x y, on_left.goes.above x y ge, on_right.goes.above x y ge));
          };
          reached = record { least = omega (arith, ints, so_far.reached.least); most = stays.most };
        })

-- ---- a row beside a blank one

pub sum_left : (es fs : List Edge) → AreEdges es → fs ≡ [] → IsEdgeSum es fs es
unfolding weight_in_both weight_in
sum_left es fs row none = record { sorted = row.sorted; weights = record { weights = λ x. rw none (omega (arith, ints)) } }

pub sum_right : (es fs : List Edge) → AreChanges fs → es ≡ [] → IsEdgeSum es fs fs
unfolding weight_in_both weight_in
sum_right es fs changes none = record { sorted = changes.sorted; weights = record { weights = λ x. rw none (omega (arith, ints)) } }

-- the strip with the sum of two rows
pub sum_strip : {before : List EdgeStrip} {top : ℤ} {es fs edges : List Edge} {after : List EdgeStrip} → after ≡ before ++ record { top = top; edges = edges } ∷ []
    → IsEdgeSum es fs edges → HasSumStrip before top es fs after
sum_strip {before} {top} {es} {fs} {edges} {after} all sum =
    let row : edges ≡ last_row after = sym (ap last_row all ∙ last_row-push before (record { top = top; edges = edges })) in
    record { all = all ∙ (λ i. before ++ record { top = top; edges = row i } ∷ []); sum = subst (IsEdgeSum es fs) row sum }

-- what a call asks
pub both_reaches : {ss ts : List EdgeStrip} {l r x y : ℤ} → x ≡ l → y ≡ r → AreStrips l ss → AreStrips r ts
    → to_z w32 (of_z w32 (to_z w32 (of_z w32 x) +ℤ to_z w32 (of_z w32 y))) ≡ l +ℤ r
both_reaches is_l is_r on_l on_r = omega (arith, ints, on_l.least, on_l.most, on_r.least, on_r.most)
