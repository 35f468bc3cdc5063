use Rattle.std.proofs.Common.{ℤ, pos, List, refl}
use Rattle.std.proofs.lemmas.Bool.{cond_both}
use Rattle.mf_rows_edges.specs.LawfulWeights.{IsLawfulWeight}
use Rattle.mf_rows_edges.proofs.EdgeSums.{zero_lawful}
use Rattle.mf_rows.specs.Dots.{Dot, IsPicture, start_of_field, weight_at}
use Rattle.mf_rows.proofs.DotsLemmas.{dots_from-lawful}
use Rattle.mf_rows.proofs.WeightsLemmas.{lawful_weight_at}
use Rattle.mf_rows_edges.specs.WeightMaps.{is_within}
use Rattle.mf_ops.specs.Moves.{scale_source, turn_by}
use Rattle.mf_ops.specs.declared.cull.CullRule.TheVariants.{Keeping, Dropping}
use Rattle.mf_ops.specs.declared.op.Op.TheVariants as ops
use Rattle.mf_ops.specs.declared.quarter.TurnCount.{TurnCount}
use Rattle.mf_ops.specs.declared.quarter.TurnCount.TheVariants.{Once, Twice, Thrice}
use Rattle.mf_ops.proofs.Faults.{accepted-lawful, may_leave, not_too_large-lawful, stays_anyway}
use Rattle.mf_ops.proofs.laws.never_refused.Goals as goal

-- a move gives each pixel the weight that some pixel had
lawful_at : (ds : List Dot) → IsPicture ds → (x y : ℤ) → IsLawfulWeight (weight_at ds x y)
lawful_at ds picture x y = lawful_weight_at ds x y (dots_from-lawful start_of_field ds picture.dots)

lawful_turn : (q : TurnCount) (ds : List Dot) → IsPicture ds → (x y : ℤ) → IsLawfulWeight (turn_by q (weight_at ds) x y)
lawful_turn Once ds picture x y = lawful_at ds picture _ _
lawful_turn Twice ds picture x y = lawful_at ds picture _ _
lawful_turn Thrice ds picture x y = lawful_at ds picture _ _

pub returns : goal.returns
returns c = record {
  clear = λ ds. accepted-lawful ds ops.Clear (stays_anyway ds ops.Clear refl refl) (λ x y. zero_lawful);
  turn = λ ds q picture. accepted-lawful ds (ops.Quarter q) (stays_anyway ds (ops.Quarter q) refl refl) (lawful_turn q ds picture);
  keeping = λ ds a b w lawful.
      accepted-lawful ds (ops.Cull (Keeping a b w)) (stays_anyway ds (ops.Cull (Keeping a b w)) refl refl)
      (λ x y. cond_both (is_within a b (weight_at ds x y)) w (pos 0) IsLawfulWeight (λ _. lawful) (λ _. zero_lawful));
  dropping = λ ds a b w lawful.
      accepted-lawful ds (ops.Cull (Dropping a b w)) (stays_anyway ds (ops.Cull (Dropping a b w)) refl refl)
      (λ x y. cond_both (is_within a b (weight_at ds x y)) (pos 0) w IsLawfulWeight (λ _. zero_lawful) (λ _. lawful));
  shift = λ ds dx dy picture. not_too_large-lawful ds (ops.Shift dx dy) (λ x y. lawful_at ds picture _ _);
  scale = λ ds s picture. not_too_large-lawful ds (ops.Scale s) (λ x y. lawful_at ds picture (scale_source s.x x) (scale_source s.y y));
  contour = λ ds ps w check. may_leave ds (ops.Contour ps w check);
  also = λ ds es s. may_leave ds (ops.Also es s);
}
