-- The black runs of a row, as a walk passes its pixels.
use Rattle.std.proofs.Common.{◌≡◌, ℤ, pos, ◌-ℤ◌, ◌≤ℤ◌, ◌<ℤ◌, int_lt, [], ◌∷◌, ◌++◌, if◌then◌else◌, sym, ap, ◌∙◌, append-nil, refl, arith}
use Rattle.std.specs.Int.RustNames.{unsigned_abs}
use Rattle.std.specs.List.{flat_map}
use Rattle.std.proofs.lemmas.Bool.{cond-true, cond-false}
use Rattle.std.proofs.lemmas.Int.{ints, by_lt_z}
use Rattle.mf_geom.specs.Coordinates.{least_coordinate, greatest_coordinate}
use Rattle.mf_rows_strips.specs.RowEdges.{AreSameRows, weights_of}
use Rattle.mf_rows.specs.declared.walk.Walk.{Walk}
use Rattle.mf_rows.specs.BlackRows.{black_weights, row_runs}
use Rattle.mf_rows.specs.Dots.{weight_at}
use Rattle.mf_rows.specs.Order.{IsRun}
use Rattle.mf_rows.specs.Remaining.{HasPassed, HasPassedRow}
use Rattle.mf_rows.specs.Runs.{dots_of, runs_of}
use Rattle.mf_rows.specs.Weights.{row_of}
use Rattle.mf_rows.proofs.PassedPixels.{inside, left_of_field, more_pixels, weight_here}
use Rattle.mf_rows.proofs.RemainingLemmas.{row_of-blank, row_of-run}
use Rattle.mf_rows.proofs.RunsLemmas.{dots_of-runs_of}
use Rattle.mf_rows.proofs.WeightsLemmas.{weight_at-row}

-- the black weight of a pixel of weight w
abbrev black : ℤ → ℤ
black w = if int_lt (pos 0) w then pos 1 else pos 0

pub is_black : (w : ℤ) → pos 0 <ℤ w → black w ≡ pos 1
is_black w lt = cond-true _ (pos 1) (pos 0) (grind (arith, ints))

pub is_white : (w : ℤ) → w ≤ℤ pos 0 → black w ≡ pos 0
is_white w le = cond-false _ (pos 1) (pos 0) (grind (arith, ints))

-- pixels of a row were passed at which the black weight is b
pub record HasPassedOnly (b : ℤ) (s t : Walk) : Type 0 where
  pub row : HasPassedRow s t
  pub order : s.x ≤ℤ t.x
  pub same : (z : ℤ) → s.x ≤ℤ z → z <ℤ t.x → black_weights (weights_of s.edges) z s.y ≡ b

pub more_passed : (b : ℤ) (r s t : Walk) → HasPassedOnly b r s → HasPassed s t → black s.weight ≡ b → HasPassedOnly b r t
unfolding black_weights
more_passed b r s t so_far passed is = record {
  row = more_pixels _ _ _ so_far.row passed;
  order = omega (arith, ints, so_far.order, passed.order);
  same = λ z left right. by_lt_z z s.x (so_far.same z left)
      (λ after. rw (← so_far.row.weights, ← so_far.row.row) (ap black (passed.same z after right)) ∙ is);
}

module _ (s t : Walk) where
  -- pixels that are not black were no runs
  pub white_passed : HasPassedOnly (pos 0) s t
      → row_runs (black_weights (weights_of s.edges)) s.y s.x ≡ row_runs (black_weights (weights_of s.edges)) s.y t.x
  unfolding row_runs
  white_passed passed = ap runs_of (row_of-blank _ s.x t.x s.y passed.order t.reading.right passed.same)

  module _ (passed : HasPassedOnly (pos 1) s t) (first : pos 0 <ℤ s.weight) (over : t.weight ≤ℤ pos 0) where
    weight_after : weights_of s.edges t.x s.y ≡ t.weight
    weight_after = rw (passed.row.weights, passed.row.row) at (weight_here t)

    some : s.x <ℤ t.x
    some = by_lt_z s.x t.x (λ lt. lt) (λ le.
        let end : t.x ≡ s.x = omega (arith, ints, passed.order) in
        absurd (omega (arith, ints, weight_here s, rw end at weight_after)))

    -- black pixels were a run
    pub black_passed : row_runs (black_weights (weights_of s.edges)) s.y s.x
        ≡ record { y = t.y; x = s.x; len = unsigned_abs (t.x -ℤ s.x); weight = pos 1 } ∷ row_runs (black_weights (weights_of s.edges)) s.y t.x
    unfolding row_runs black_weights weight_at
    black_passed =
        let f = black_weights (weights_of s.edges) in
        let own = row_of-run f s.y [] (λ _. refl) s.x t.x (pos 1) (λ is. omega (arith, ints, is)) some t.reading.right passed.same (λ _ is. grind (arith, ints, weight_after)) in
        rw passed.row.row (rw (append-nil, append-nil) at own)

    pub black_run : IsRun (record { y = t.y; x = s.x; len = unsigned_abs (t.x -ℤ s.x); weight = pos 1 })
    black_run =
        let at = inside s (λ is. omega (arith, ints, is)) in
        record {
          some = omega (arith, ints, some);
          left = at.left;
          right = omega (arith, ints, some, t.reading.right);
          bottom = omega (arith, ints, at.bottom, passed.row.row);
          top = omega (arith, ints, at.top, passed.row.row);
          lawful = record { least = omega (arith, ints); greatest = omega (arith, ints) };
          nonzero = λ is. omega (arith, ints, is);
        }

-- nor were pixels to the left of the field
pub row_runs-left : (s : Walk) → s.x <ℤ least_coordinate
    → row_runs (black_weights (weights_of s.edges)) s.y s.x ≡ row_runs (black_weights (weights_of s.edges)) s.y least_coordinate
unfolding row_runs black_weights
row_runs-left s start =
    ap runs_of (row_of-blank _ s.x least_coordinate s.y (omega (arith, ints)) (omega (arith, ints)) (λ z _ lt. ap black (left_of_field s.edges z s.y lt)))

-- at the end of the row there are none
pub row_runs-end : (f : ℤ → ℤ → ℤ) (y x : ℤ) → x ≡ greatest_coordinate → row_runs f y x ≡ []
unfolding row_runs row_of runs_of
row_runs-end f y x end = rw end refl

-- ---- equal rows

pub same_black : (f : ℤ → ℤ → ℤ) (bottom y : ℤ) → AreSameRows f bottom y → AreSameRows (black_weights f) bottom y
unfolding black_weights
same_black f bottom y rows = record { low = rows.low; order = rows.order; same = λ x v low high. ap black (rows.same x v low high) }

-- where a row has no runs left, neither has an equal one
pub same_over : (s t : Walk) → weights_of t.edges ≡ weights_of s.edges → t.x ≡ s.x → AreSameRows (black_weights (weights_of s.edges)) t.y s.y
    → row_runs (black_weights (weights_of s.edges)) s.y s.x ≡ [] → row_runs (black_weights (weights_of t.edges)) t.y t.x ≡ []
unfolding row_runs runs_of row_of weight_at
same_over s t weights column rows none =
    let f = black_weights (weights_of s.edges) in
    let n = unsigned_abs (greatest_coordinate -ℤ s.x) in
    let blank : row_of f s.y s.x n ≡ [] = sym (dots_of-runs_of (row_of f s.y s.x n)) ∙ ap (flat_map dots_of) none in
    rw (weights, column)
    (ap runs_of (row_of-blank f s.x greatest_coordinate t.y s.reading.right (omega (arith, ints))
    (λ z left right. rows.same z t.y (omega (arith, ints)) rows.order
    ∙ sym (weight_at-row f s.y s.x n [] z refl left (omega (arith, ints))) ∙ ap (λ ds. weight_at (ds ++ []) z s.y) blank)))

-- what the readers of black pixels use
pub ruleset of_black_rows = (row_runs-left, same_over)
