use Rattle.std.proofs.Common.{◌≡◌, List, refl, subst, sym, ap, ◌∙◌}
use Rattle.mf_geom.specs.declared.point.Point.{Point}
use Rattle.mf_rows_edges.specs.Axes.{opposite}
use Rattle.mf_rows.specs.Dots.{Dot, weight_at}
use Rattle.mf_ops.specs.Squares.{MovesPixels}
use Rattle.mf_ops.specs.Step.{step_at}
use Rattle.mf_ops.specs.declared.op.Op.{Op}
use Rattle.mf_ops.specs.declared.op.Op.TheVariants.{Shift, Scale, Quarter}
use Rattle.mf_ops.specs.declared.quarter.TurnCount.TheVariants.{Once, Twice, Thrice}
use Rattle.mf_ops.proofs.ScaleSources.{opposite-opposite}
use Rattle.mf_ops.proofs.Squares.{source, covered, only}
use Rattle.mf_ops.proofs.laws.squares_move_with_the_plane.Goals as goal

-- the step takes the weight of the source
from_source : (ds : List Dot) (op : Op) (q : Point) → MovesPixels op → step_at ds op q.x q.y ≡ weight_at ds (source op q).x (source op q).y
from_source ds (Shift dx dy) q moves = refl
from_source ds (Scale s) q moves = refl
from_source ds (Quarter Once) q moves = refl
from_source ds (Quarter Twice) q moves = refl
from_source ds (Quarter Thrice) q moves = ap (λ x. weight_at ds (opposite q.y) x) (opposite-opposite q.x)
from_source ds op q moves = absurd moves

pub returns : goal.returns
returns c = record {
  covered = λ op q moves. (source op q, covered op q moves);
  only = λ op p r q moves one other. sym (only op p q moves one) ∙ only op r q moves other;
  weight = λ ds op p q moves covers.
      subst (λ r. step_at ds op q.x q.y ≡ weight_at ds r.x r.y) (only op p q moves covers) (from_source ds op q moves);
}
