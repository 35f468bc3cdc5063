-- The names of faults, as texts show them.
use Rattle.std.specs.Prelude.{ℕ, List, ◌++◌, codes, decimal}
use Rattle.mf_geom.specs.declared.cycle.CycleFault.{CycleFault}
use Rattle.mf_geom.specs.declared.cycle.CycleFault.TheVariants.{TooFewPoints, TooManyPoints, PointOutOfRange, NotRectilinear, Backtracks, TurningZero}

-- the name of a fault, followed by a space and its place where it has one
abbrev pub fault_text : CycleFault → List ℕ
fault_text TooFewPoints = codes "TooFewPoints"
fault_text TooManyPoints = codes "TooManyPoints"
fault_text (PointOutOfRange i) = codes "PointOutOfRange " ++ decimal i
fault_text (NotRectilinear i) = codes "NotRectilinear " ++ decimal i
fault_text (Backtracks i) = codes "Backtracks " ++ decimal i
fault_text TurningZero = codes "TurningZero"
