use Rattle.std.proofs.Common.{◌≡◌, ◌↔◌, ℤ, pos, List, Some}
use Rattle.mf_geom.specs.declared.point.Point.{Point}
use Rattle.mf_geom.specs.Field.{IsInField}
use Rattle.mf_geom.specs.Lawful.{IsRectilinearCycle}
use Rattle.mf_geom.specs.Winding.{winding}
use Rattle.mf_rows.specs.Dots.{Dot, IsPicture}
use Rattle.mf_ops.specs.Step.{HasLawfulValues, LiesOutside, op_fault, step_at}
use Rattle.mf_ops.specs.declared.op.Op.{Op}
use Rattle.mf_ops.specs.declared.op.Op.TheVariants.{Contour, Also, Cull, Shift, Scale, Quarter, Clear}
use Rattle.mf_ops.specs.declared.op.OpFault.TheVariants.{OutOfField}
use Rattle.mf_ops.proofs.OutOfField.{shift-refused, shift-outside, scale-refused, scale-outside}
use Rattle.mf_ops.proofs.OutOfField.{contour-inside, also-inside, cull-inside, turn-inside, clear-inside}
use Rattle.mf_ops.proofs.Faults.{MayLeave, may_leave}
use Rattle.mf_ops.proofs.laws.refused_where_a_pixel_leaves.Goals as goal

-- neither is the case for an operation that takes no pixel out of the field
neither : (ds : List Dot) (op : Op) → (MayLeave op → ⊥) → (LiesOutside (step_at ds op) → ⊥) → (op_fault ds op ≡ Some OutOfField) ↔ LiesOutside (step_at ds op)
neither ds op stays inside = (λ refused. absurd (stays (may_leave ds op refused)), λ outside. absurd (inside outside))

exactly : ((ps : List Point) (x y : ℤ) → IsRectilinearCycle ps → (IsInField x y → ⊥) → winding ps x y ≡ pos 0) → (ds : List Dot) (op : Op)
    → IsPicture ds → HasLawfulValues op → (op_fault ds op ≡ Some OutOfField) ↔ LiesOutside (step_at ds op)
exactly unwound ds (Shift dx dy) picture values = (shift-refused ds dx dy picture, shift-outside ds dx dy)
exactly unwound ds (Scale s) picture factors = (scale-refused ds s picture factors, scale-outside ds s factors)
exactly unwound ds (Contour ps w check) picture cycle =
    neither ds (Contour ps w check) (λ may. may) (contour-inside ds ps w check picture (λ x y outside. unwound ps x y cycle outside))
exactly unwound ds (Also es s) picture other = neither ds (Also es s) (λ may. may) (also-inside ds es s picture other)
exactly unwound ds (Cull c) picture lawful = neither ds (Cull c) (λ may. may) (cull-inside ds c picture lawful)
exactly unwound ds (Quarter q) picture values = neither ds (Quarter q) (λ may. may) (turn-inside ds q picture)
exactly unwound ds Clear picture values = neither ds Clear (λ may. may) (clear-inside ds)

pub returns : goal.returns
returns c = exactly c.nothing_outside_the_field.ensures
