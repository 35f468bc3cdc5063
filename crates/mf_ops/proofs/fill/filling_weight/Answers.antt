use Rattle.std.proofs.Common.{◌≡◌, ◌*ℤ◌, refl, ap, to_z, of_z, w32, arith}
use Rattle.std.proofs.lemmas.Int.{ints}
use Rattle.std.specs.Int.{int_signum}
use Rattle.std.specs.Option.{option_map}
use Rattle.mf_geom.specs.declared.check.Check.TheVariants.{Off, On}
use Rattle.mf_geom.specs.Turning.{turning}
use Rattle.mf_ops.specs.declared.op.Op.TheVariants.{Contour}
use Rattle.mf_ops.specs.declared.op.OpFault.TheVariants.{Cycle}
use Rattle.mf_ops.proofs.Faults.{FillsWith-checked, op_fault-cycle}
use Rattle.mf_ops.proofs.fill.filling_weight.Goals as goal

pub returns-in-Ok-clause-fills : goal.returns-in-Ok-clause-fills
returns-in-Ok-clause-fills c =
    let ps = c.args.cycle.now in
    let turned_is : to_z w32 (of_z w32 c.in-Ok.turned) ≡ c.args.weight *ℤ int_signum (turning ps) = omega (arith, ints, c.in-Ok.ensures.value) in
    rw (c.in-On.is, turned_is) (FillsWith-checked ps c.args.weight On (ap (option_map Cycle) c.in-Ok.ensures.passes))

pub returns-in-Off-clause-fills : goal.returns-in-Off-clause-fills
returns-in-Off-clause-fills c =
    let weight_is : to_z w32 (of_z w32 c.get.result) ≡ c.args.weight = omega (arith, ints) in
    rw (c.in-Off.is, weight_is) (FillsWith-checked c.args.cycle.now c.args.weight Off refl)

pub returns-in-Err-clause-refused : goal.returns-in-Err-clause-refused
returns-in-Err-clause-refused c ds =
    rw c.in-On.is (op_fault-cycle ds (Contour c.args.cycle.now c.args.weight On) (Cycle c.in-Err.fault) (ap (option_map Cycle) c.in-Err.ensures.refused))
