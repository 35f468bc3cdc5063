-- What a walk over pixels has left after it passed some of them.
use Rattle.std.proofs.Common.{◌≡◌, ◌≢◌, ℤ, pos, ◌+ℤ◌, ◌-ℤ◌, ◌≤ℤ◌, ◌<ℤ◌, ◌∷◌, FitsSigned, to_z, of_z, w32, refl, sym, ap, ◌∙◌, arith}
use Rattle.std.specs.Int.RustNames.{unsigned_abs}
use Rattle.std.proofs.lemmas.Int.{ints, by_lt_z}
use Rattle.mf_geom.specs.Coordinates.{least_coordinate, greatest_coordinate, last_in_field}
use Rattle.mf_geom.specs.Field.{IsInField}
use Rattle.mf_rows_edges.specs.declared.edge.Edge.{Edge}
use Rattle.mf_rows_edges.specs.LawfulWeights.{IsLawfulWeight}
use Rattle.mf_rows_edges.specs.Merging.{IsDifference}
use Rattle.mf_rows_strips.specs.declared.row_edges.RowEdges.{RowEdges}
use Rattle.mf_rows_strips.specs.PartEdges.{IsNextEdge}
use Rattle.mf_rows_strips.specs.RowEdges.{AreSameRows, weight_left, weights_of}
use Rattle.mf_rows.specs.declared.walk.Walk.{Walk}
use Rattle.mf_rows.specs.Reading.{IsReading}
use Rattle.mf_rows.specs.Remaining.{remaining_runs, dots_from, HasPassed, HasPassedRow, IsAtStart}
use Rattle.mf_rows.specs.Runs.{runs_of}
use Rattle.mf_rows.specs.Weights.{picture_of}
use Rattle.mf_rows.proofs.PicturePiles.{by_field, parts_outside, pile_lawful}
use Rattle.mf_rows.proofs.RemainingLemmas.{dots_from-blank, dots_from-start, row_of-run}
use Rattle.mf_rows.proofs.WeightsLemmas.{weight_at-above}

-- there are no weights outside the field
pub outside : (r : RowEdges) (x y : ℤ) → (IsInField x y → ⊥) → weights_of r x y ≡ pos 0
unfolding weights_of
outside r x y out = parts_outside r.pile.now.parts.items x y out

pub lawful_weight : (r : RowEdges) (x y : ℤ) → IsLawfulWeight (weights_of r x y)
unfolding weights_of
lawful_weight r x y = pile_lawful r.pile.now x y

pub left_of_field : (r : RowEdges) (x y : ℤ) → x <ℤ least_coordinate → weights_of r x y ≡ pos 0
left_of_field r x y lt = outside r x y (λ inside. omega (arith, ints, inside.left))

-- the edges of a row have a sum of 0
pub edges_closed : (s : Walk) → s.x <ℤ least_coordinate → weight_left s.edges greatest_coordinate ≡ pos 0
edges_closed s start =
    let end = outside s.edges greatest_coordinate s.y (λ inside. omega (arith, ints, inside.right)) in
    omega (arith, ints, end, s.reading.after greatest_coordinate (omega (arith, ints)), s.reading.after s.x (omega (arith, ints)), s.reading.before s.x (omega (arith, ints)), left_of_field s.edges s.x s.y start)

-- ---- the next edge

-- an edge that is passed, as the code adds its weight
pub record IsStep (w : ℤ) (e : Edge) : Type 0 where
  pub before : to_z w32 (of_z w32 w) ≡ w
  pub column : to_z w32 (of_z w32 e.x) ≡ e.x
  pub change : to_z w32 (of_z w32 e.weight) ≡ e.weight
  pub fits : FitsSigned w32 (w +ℤ e.weight)
  pub sum : to_z w32 (of_z w32 (w +ℤ e.weight)) ≡ w +ℤ e.weight

module _ (s : Walk) where
  -- the weight is one of the row
  pub weight_here : weights_of s.edges s.x s.y ≡ s.weight
  weight_here = omega (arith, ints, s.reading.after s.x (omega (arith, ints)), s.reading.before s.x (omega (arith, ints)))

  -- and that of a pixel of the field where it is not 0
  pub inside : s.weight ≢ pos 0 → IsInField s.x s.y
  inside some = by_field s.x s.y (λ inside. inside) (λ out. absurd (some (sym weight_here ∙ outside s.edges s.x s.y out)))

  -- its numbers pass a call
  pub column_fits : to_z w32 (of_z w32 s.x) ≡ s.x
  column_fits = omega (arith, ints, s.reading.left, s.reading.right)

  pub row_fits : to_z w32 (of_z w32 s.y) ≡ s.y
  row_fits = omega (arith, ints, s.reading.top, s.reading.rows.low, s.reading.rows.order)

  pub bottom_fits : to_z w32 (of_z w32 s.bottom) ≡ s.bottom
  bottom_fits = omega (arith, ints, s.reading.top, s.reading.rows.low, s.reading.rows.order)

  pub differences : (z : ℤ) → IsDifference (weight_left s.edges z)
  differences z =
      let here = lawful_weight s.edges s.x s.y in
      let there = lawful_weight s.edges z s.y in
      by_lt_z z s.x
      (λ lt. let none = s.reading.before z (omega (arith, ints)) in record { least = omega (arith, ints); greatest = omega (arith, ints) })
      (λ le.
      let is = s.reading.after z le in
      record {
        least = omega (arith, ints, weight_here, here.greatest, there.least);
        greatest = omega (arith, ints, weight_here, here.least, there.greatest);
      })

  module _ (h : ℤ → ℤ) (e : Edge) (next : IsNextEdge (weight_left s.edges) h e) where
    pub further : s.x <ℤ greatest_coordinate → s.x <ℤ e.x
    further more =
        by_lt_z s.x e.x (λ lt. lt)
        (λ le. absurd (next.nonzero (omega (arith, ints)) (next.weight ∙ s.reading.before e.x le)))

    pub order : s.x ≤ℤ e.x
    order = by_lt_z s.x greatest_coordinate (λ lt. omega (arith, ints, further lt))
        (λ end. by_lt_z e.x greatest_coordinate (λ lt. absurd (next.nonzero lt (next.weight ∙ s.reading.before e.x (omega (arith, ints))))) (λ le. omega (arith, ints, s.reading.right)))

    pub passed_same : (z : ℤ) → s.x ≤ℤ z → z <ℤ e.x → weights_of s.edges z s.y ≡ s.weight
    passed_same z left right = omega (arith, ints, s.reading.after z left, next.edge.left z right)

    pub passed_edge : IsReading (weights_of s.edges) h e.x s.y (s.weight +ℤ e.weight) s.bottom
    passed_edge = record {
      left = omega (arith, ints, s.reading.left, order);
      right = next.within;
      top = s.reading.top;
      before = next.edge.passed;
      after = λ z le. omega (arith, ints, s.reading.after z (omega (arith, ints, order)), next.weight, next.edge.right z le);
      rows = s.reading.rows;
    }

    pub step : IsStep s.weight e
    step =
        let here = lawful_weight s.edges s.x s.y in
        let there = lawful_weight s.edges e.x s.y in
        let at = weight_here in
        let after = s.reading.after e.x order in
        let change = next.weight in
        record {
          before = omega (arith, ints);
          column = omega (arith, ints, s.reading.left, next.within, order);
          change = omega (arith, ints);
          fits = omega (arith, ints);
          sum = omega (arith, ints);
        }

-- at the left end of a row
pub entered : (r : RowEdges) (g : ℤ → ℤ) (y bottom : ℤ) → y ≤ℤ last_in_field → ((z : ℤ) → g z ≡ weights_of r z y) → AreSameRows (weights_of r) bottom y
    → IsReading (weights_of r) g (least_coordinate -ℤ pos 1) y (pos 0) bottom
entered r g y bottom top all rows = record {
  left = omega (arith, ints);
  right = omega (arith, ints);
  top = top;
  before = λ z le. all z ∙ left_of_field r z y (omega (arith, ints));
  after = λ z _. omega (arith, ints, all z);
  rows = rows;
}

-- ---- a row

pub no_pixels : (r : Walk) → HasPassedRow r r
no_pixels r = record { weights = refl; row = refl; bottom = refl }

pub more_pixels : (r s t : Walk) → HasPassedRow r s → HasPassed s t → HasPassedRow r t
more_pixels r s t row passed = record { weights = passed.weights ∙ row.weights; row = passed.row ∙ row.row; bottom = passed.bottom ∙ row.bottom }

-- ---- what is left

-- to the left of the field no pixel is passed
pub dots_from-left : (r : RowEdges) (x y : ℤ) → (least_coordinate -ℤ pos 1) ≤ℤ x → x <ℤ least_coordinate
    → dots_from (weights_of r) x y ≡ dots_from (weights_of r) least_coordinate y
dots_from-left r x y low high =
    dots_from-blank (weights_of r) x least_coordinate y (omega (arith, ints)) (omega (arith, ints)) (λ z _ lt. left_of_field r z y lt)

pub runs_at_start : (f : ℤ → ℤ → ℤ) (w : Walk) → IsAtStart f w → remaining_runs w ≡ runs_of (picture_of f)
runs_at_start f w start =
    ap runs_of (dots_from-left w.edges w.x w.y w.reading.left start.column
    ∙ ap (dots_from (weights_of w.edges) least_coordinate) start.row ∙ ap (λ f. dots_from f least_coordinate last_in_field) start.weights ∙ dots_from-start f)

-- pixels of weight 0 were no runs
pub blank_passed : (s t : Walk) → HasPassed s t → s.weight ≡ pos 0 → remaining_runs t ≡ remaining_runs s
blank_passed s t passed blank =
    rw (passed.weights, passed.row)
    (ap runs_of (sym (dots_from-blank (weights_of s.edges) s.x t.x s.y passed.order t.reading.right (λ z left right. passed.same z left right ∙ blank))))

-- pixels of another weight were a run
pub run_passed : (s t : Walk) → HasPassed s t → (s.x <ℤ greatest_coordinate → s.x <ℤ t.x) → (t.x <ℤ greatest_coordinate → t.weight ≢ s.weight) → s.weight ≢ pos 0
    → remaining_runs s ≡ record { y = t.y; x = s.x; len = unsigned_abs (t.x -ℤ s.x); weight = s.weight } ∷ remaining_runs t
unfolding dots_from
run_passed s t passed further next nonzero =
    let there = weight_here t in
    rw (passed.weights, passed.row)
    (row_of-run (weights_of s.edges) s.y _ (λ x. weight_at-above _ _ _ x s.y (omega (arith, ints))) s.x t.x s.weight nonzero (further (omega (arith, ints, (inside s nonzero).right))) t.reading.right passed.same
    (λ left same. next left (sym (rw (passed.weights, passed.row) at there) ∙ same)))
