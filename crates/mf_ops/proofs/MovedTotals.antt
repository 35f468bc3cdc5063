-- The total weight of a picture that was shifted, scaled or turned.
use Rattle.std.proofs.Common.{◌≡◌, ◌⊎◌, inl, inr, ℕ, zero, suc, ◌*◌, false, None, ℤ, pos, negsuc, ◌+ℤ◌}
use Rattle.std.proofs.Common.{◌-ℤ◌, ◌*ℤ◌, ◌≤ℤ◌, ◌<ℤ◌, nat_abs, List, refl, sym, ◌∙◌, ap, subst, arith}
use lib.IntN.{ℤ_discrete}
use Rattle.std.specs.Int.RustNames.{unsigned_abs}
use Rattle.std.specs.List.{All, list_any}
use Rattle.std.proofs.lemmas.Int.{ints, unsigned_abs-mul}
use Rattle.mf_geom.specs.Field.{IsColumnOrRow, sum_over_field}
use Rattle.mf_rows_edges.specs.declared.stretch.Stretch.{Stretch}
use Rattle.mf_rows.specs.Dots.{Dot, IsPicture, start_of_field, total_of, weight_at}
use Rattle.mf_rows_edges.specs.Axes.{IsStretch, StaysInside, opposite, source_of, target_of}
use Rattle.mf_rows.specs.Moves.{turned_once}
use Rattle.mf_rows.specs.Weights.{picture_of}
use Rattle.mf_rows.proofs.DotsLemmas.{dots_from-lawful}
use Rattle.mf_rows.proofs.FieldTotals.{total_of-picture_of, total_of-picture}
use Rattle.mf_rows.proofs.StretchBounds.{holds_at_weight}
use Rattle.mf_rows_edges.proofs.Sources.{source_of-is, target_of-next}
use Rattle.mf_ops.specs.Moves.{AreFactors, Factors, IsFactor, scale_by, scale_source, shift_by, turn_by}
use Rattle.mf_ops.specs.Step.{op_fault, step_at, next_picture}
use Rattle.mf_ops.specs.declared.op.Op.TheVariants as ops
use Rattle.mf_ops.specs.declared.op.Op.TheVariants.{Scale, Shift}
use Rattle.mf_ops.specs.declared.quarter.TurnCount.{TurnCount}
use Rattle.mf_ops.specs.declared.quarter.TurnCount.TheVariants.{Once, Twice, Thrice}
use Rattle.mf_ops.proofs.AxisSums.{IsMove, sum_over_field-move, sum_over_field-turn}
use Rattle.mf_ops.proofs.Faults.{stays-accepted}
use Rattle.mf_ops.proofs.Leaving.{PixelsStayInside-none_leaves, column_inside, leaves_by, row_inside}
use Rattle.mf_ops.proofs.ScaleSources.{IsStretch-size, end-negative, opposite-opposite, scale_source-negative}
use Rattle.mf_ops.proofs.ScaleSources.{scale_source-positive, source_of-end, source_of-start, start-negative}

sum_over_field-turn_by : (q : TurnCount) (f : ℤ → ℤ → ℤ) → sum_over_field (turn_by q f) ≡ sum_over_field f
sum_over_field-turn_by Once f = sum_over_field-turn f
sum_over_field-turn_by Twice f = sum_over_field-turn (turned_once f) ∙ sum_over_field-turn f
sum_over_field-turn_by Thrice f = sum_over_field-turn (turned_once (turned_once f)) ∙ sum_over_field-turn (turned_once f) ∙ sum_over_field-turn f

pub total_of-turn : (ds : List Dot) (q : TurnCount) → IsPicture ds → total_of (next_picture ds (ops.Quarter q)) ≡ total_of ds
unfolding next_picture
total_of-turn ds q picture =
    total_of-picture_of (step_at ds (ops.Quarter q)) ∙ sum_over_field-turn_by q (weight_at ds) ∙ sym (total_of-picture ds picture)

-- a column, or row, of the field that a stretch takes to a part of the field
abbrev Stays : Stretch → ℤ → Type 0
Stays s p = IsColumnOrRow p × StaysInside s p

shift_move : (d : ℤ) → IsMove 1 (λ q. q -ℤ d) (Stays (shift_by d))
shift_move d = record {
  first = λ p. p +ℤ d;
  start = λ q. omega (arith, ints);
  end = λ q. omega (arith, ints);
  only = λ p q start end. omega (arith, ints);
  before = λ p kept. kept.0;
  after = λ p kept. (omega (arith, ints, kept.1.start.least), omega (arith, ints, kept.1.end.greatest));
}

source_of-only : (s : Stretch) (p q : ℤ) → IsStretch s → target_of s p ≤ℤ q → q <ℤ (target_of s p +ℤ s.factor) → source_of s q ≡ p
source_of-only s p q stretch start end = let next = target_of-next s p in source_of-is s p q stretch start (rw next end)

-- a scale by n + 1
abbrev times : ℕ → Stretch
times n = scale_by (pos (suc n))

-- so the ends of a column change places
times-opposite_start : (n : ℕ) (p : ℤ) → target_of (times n) (opposite p) ≡ ((p +ℤ pos 1) *ℤ negsuc n) +ℤ pos 0
times-opposite_start n p = ap (λ a. a +ℤ pos 0) (sym (end-negative n p))

times-opposite_end : (n : ℕ) (p : ℤ) → target_of (times n) (opposite p) +ℤ pos (suc n) ≡ (p *ℤ negsuc n) +ℤ pos 0
times-opposite_end n p = sym (target_of-next (times n) (opposite p)) ∙ ap (λ a. a +ℤ pos 0) (sym (start-negative n p))

scale_move : (f : ℤ) → IsFactor f → IsMove (nat_abs f) (scale_source f) (Stays (scale_by f))
scale_move (pos zero) factor = absurd (factor.nonzero refl)
scale_move (pos (suc n)) factor =
    let stretch = IsStretch-size (pos (suc n)) factor in
    subst (λ source. IsMove (suc n) source (Stays (times n))) (λ t q. sym (scale_source-positive (suc n) q) t) record {
      first = target_of (times n);
      start = λ q. source_of-start (times n) q stretch;
      end = λ q. source_of-end (times n) q stretch;
      only = λ p q. source_of-only (times n) p q stretch;
      before = λ p kept. kept.0;
      after = λ p kept. let next = target_of-next (times n) p in (kept.1.start.least, rw (← next) kept.1.end.greatest);
    }
scale_move (negsuc n) factor =
    let stretch = IsStretch-size (negsuc n) factor in
    subst (λ source. IsMove (suc n) source (Stays (scale_by (negsuc n)))) (λ t q. sym (scale_source-negative n q) t) record {
      first = λ p. target_of (times n) (opposite p);
      start = λ q. rw (opposite-opposite (source_of (times n) q)) (source_of-start (times n) q stretch);
      end = λ q. rw (opposite-opposite (source_of (times n) q)) (source_of-end (times n) q stretch);
      only = λ p q start end. ap opposite (source_of-only (times n) (opposite p) q stretch start end) ∙ opposite-opposite p;
      before = λ p kept. kept.0;
      after = λ p kept. grind (arith, ints, times-opposite_start, times-opposite_end);
    }

-- what holds of all dots holds of each pixel, or it has weight 0
holds_or_blank : (P : ℤ → ℤ → Type 0) (ds : List Dot) → All (λ d. P d.x d.y) ds → (x y : ℤ) → P x y ⊎ (weight_at ds x y ≡ pos 0)
holds_or_blank P ds all x y =
    elim (ℤ_discrete (weight_at ds x y) (pos 0)) [
      | yes blank ↦ inr blank
      | no nonzero ↦ inl (holds_at_weight P ds x y all nonzero)
    ]

total_of-move : (m n : ℕ) (column row : ℤ → ℤ) (columns rows : Stretch) (ds : List Dot) → IsMove m column (Stays columns)
    → IsMove n row (Stays rows) → IsPicture ds → list_any (leaves_by columns rows) ds ≡ false
    → total_of (picture_of (λ x y. weight_at ds (column x) (row y))) ≡ pos (m * n) *ℤ total_of ds
total_of-move m n column row columns rows ds moved_columns moved_rows picture none =
    let dots = dots_from-lawful start_of_field ds picture.dots in
    let inside = PixelsStayInside-none_leaves columns rows ds none in
    total_of-picture_of (λ x y. weight_at ds (column x) (row y))
    ∙ sum_over_field-move m n column row (Stays columns) (Stays rows) (weight_at ds) moved_columns moved_rows
    (holds_or_blank (λ x y. Stays columns x) ds (λ k d lt. (column_inside _ _ (dots k d lt).in_field, inside.across k d lt)))
    (holds_or_blank (λ x y. Stays rows y) ds (λ k d lt. (row_inside _ _ (dots k d lt).in_field, inside.up k d lt)))
    ∙ ap (λ s. pos (m * n) *ℤ s) (sym (total_of-picture ds picture))

pub total_of-shift : (ds : List Dot) (dx dy : ℤ) → IsPicture ds → op_fault ds (Shift dx dy) ≡ None → total_of (next_picture ds (Shift dx dy)) ≡ total_of ds
unfolding next_picture
total_of-shift ds dx dy picture none =
    total_of-move 1 1 (λ q. q -ℤ dx) (λ q. q -ℤ dy) (shift_by dx) (shift_by dy) ds
    (shift_move dx) (shift_move dy) picture (stays-accepted ds (Shift dx dy) none).none_leaves
    ∙ omega (arith, ints)

pub total_of-scale : (ds : List Dot) (s : Factors) → IsPicture ds → AreFactors s → op_fault ds (Scale s) ≡ None
    → total_of (next_picture ds (Scale s)) ≡ pos (unsigned_abs (s.x *ℤ s.y)) *ℤ total_of ds
unfolding next_picture
total_of-scale ds s picture factors none =
    total_of-move (nat_abs s.x) (nat_abs s.y) (scale_source s.x) (scale_source s.y) (scale_by s.x) (scale_by s.y) ds
    (scale_move s.x factors.columns) (scale_move s.y factors.rows) picture (stays-accepted ds (Scale s) none).none_leaves
    ∙ ap (λ k. pos k *ℤ total_of ds) (sym (unsigned_abs-mul s.x s.y))
