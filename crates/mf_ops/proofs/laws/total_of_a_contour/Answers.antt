-- The total is the sum over the field of what the contour adds to weights of 0.
use Rattle.std.proofs.Common.{◌≡◌, ℤ, pos, ◌+ℤ◌, ◌*ℤ◌, List, [], ◌∙◌, arith}
use Rattle.std.proofs.lemmas.Int.{ints}
use Rattle.mf_geom.specs.Field.{sum_over_field}
use Rattle.mf_geom.specs.declared.check.Check.{Check}
use Rattle.mf_geom.specs.declared.check.Check.TheVariants.{Off, On}
use Rattle.mf_geom.specs.declared.point.Point.{Point}
use Rattle.mf_geom.specs.Area.{area}
use Rattle.mf_geom.specs.Lawful.{IsRectilinearCycle}
use Rattle.mf_geom.specs.Winding.{contour, filling_weight}
use Rattle.mf_geom.proofs.Areas.{sum_over_field-contour}
use Rattle.mf_rows.specs.Dots.{total_of, weight_at}
use Rattle.mf_rows.proofs.FieldTotals.{total_of-picture_of}
use Rattle.mf_ops.specs.Step.{step_at, next_picture}
use Rattle.mf_ops.specs.declared.op.Op.TheVariants.{Contour}
use Rattle.mf_ops.proofs.laws.total_of_a_contour.Goals as goal

total : (ps : List Point) (w : ℤ) (check : Check) → IsRectilinearCycle ps
    → total_of (next_picture [] (Contour ps w check)) ≡ filling_weight check ps w *ℤ area ps
unfolding next_picture weight_at
total ps w check cycle =
    let alone : (x y : ℤ) → pos 0 +ℤ contour ps w check x y ≡ contour ps w check x y = λ x y. omega (arith, ints) in
    total_of-picture_of (step_at [] (Contour ps w check))
    ∙ (λ t. sum_over_field (λ x y. alone x y t))
    ∙ sum_over_field-contour ps w check cycle

pub returns : goal.returns
returns c = record {
  checked = λ ps w. total ps w On;
  unchecked = λ ps w. total ps w Off;
}
