use Rattle.std.proofs.Common.{◌≢◌, ℤ, List, refl, ap}
use Rattle.mf_geom.specs.declared.point.Point.{Point}
use Rattle.std.specs.Option.{option_map}
use Rattle.mf_ops.specs.declared.op.Op.{Op}
use Rattle.mf_ops.specs.declared.op.Op.TheVariants.{Contour, Also, Cull, Shift, Scale, Quarter, Clear}
use Rattle.mf_ops.specs.declared.op.OpFault.TheVariants.{Cycle}
use Rattle.mf_geom.specs.declared.check.Check.TheVariants.{On, Off}
use Rattle.mf_ops.specs.Step.{TurnsLawfully}
use Rattle.mf_ops.proofs.Faults.{op_fault-cycle, turning_fault-refused, not_turning}
use Rattle.mf_ops.proofs.laws.refused_where_it_turns_back.Goals as goal

not_checked : (op : Op) → ((ps : List Point) (w : ℤ) → op ≢ Contour ps w On) → TurnsLawfully op
not_checked (Contour ps w On) none = absurd (none ps w refl)
not_checked (Contour ps w Off) none = record { none = refl }
not_checked (Also es s) none = record { none = refl }
not_checked (Cull c) none = record { none = refl }
not_checked (Shift dx dy) none = record { none = refl }
not_checked (Scale s) none = record { none = refl }
not_checked (Quarter q) none = record { none = refl }
not_checked Clear none = record { none = refl }

pub returns : goal.returns
returns c = record {
  checked = λ ds ps w fault. (
    turning_fault-refused ds ps w fault,
    λ is. op_fault-cycle ds (Contour ps w On) (Cycle fault) (ap (option_map Cycle) is),
  );
  unchecked = not_checked;
  lawful = not_turning;
}
