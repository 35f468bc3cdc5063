-- What a form gives: a command, or a refusal of its values.
use Rattle.std.specs.Prelude.{◌≡◌, ◌⊎◌, ◌≤◌, ℤ, pos, int_lt, List, length, Some, Result, Ok, Err, if◌then◌else◌}
use Rattle.mf_geom.specs.Faults.{form_fault}
use Rattle.mf_geom.specs.Lawful.{IsRectilinearCycle, most_points}
use Rattle.mf_geom.specs.declared.check.Check.{Check}
use Rattle.mf_geom.specs.declared.check.Check.TheVariants.{Off, On}
use Rattle.mf_geom.specs.declared.cycle.CycleFault.{CycleFault}
use Rattle.mf_geom.specs.declared.point.Point.{Point}
use Rattle.mf_ops.specs.ContourWeight.{IsContourWeight}
use Rattle.mf_ops.specs.Cull.{IsLawfulCull}
use Rattle.mf_ops.specs.Moves.{Factors, AreFactors, degrees}
use Rattle.mf_ops.specs.declared.cull.CullRule.{CullRule}
use Rattle.mf_ops.specs.declared.cull.CullRule.TheVariants.{Keeping, Dropping}
use Rattle.mf_ops.specs.declared.quarter.TurnCount.{TurnCount}
pub use Rattle.mf_text.specs.declared.command.Command.{Command}
use Rattle.mf_text.specs.declared.command.Command.TheVariants as command
pub use Rattle.mf_text.specs.declared.fault.TextFault.{TextFault}
use Rattle.mf_text.specs.declared.fault.TextFault.TheVariants as faults
use Rattle.mf_text.specs.Grammar.{Form, Nothing, AddContour, AddPicture, CullKeeping, CullDropping, Clear, Move}
use Rattle.mf_text.specs.Grammar.{ShowTotal, ShowPicture, ShowProof, ShipOut, SetCheck, PublishAll, Shifted, Scaled}
use Rattle.mf_text.specs.Grammar.{XScaled, YScaled, Rotated, weight_value, path_value, Name, int_value, pair_value}

-- a value of a form that is checked
pub data Value : Type 0 where
  -- the points of a cycle; the turning check comes only when it is filled
  Points : List Point → Value
  AWeight : ℤ → Value
  ACull : CullRule → Value
  AScale : Factors → Value
  -- the angle of a turn
  Angle : ℤ → Value

-- what a form means: its command, after checks of its values in this order; or a turn of a picture by an angle
pub data Meaning : Type 0 where
  Is : Command → Meaning
  If : Value → Meaning → Meaning
  Turns : Name → ℤ → Meaning

-- the points of a contour are checked before its weight
abbrev pub contour_meaning : Name → List Point → ℤ → Meaning
contour_meaning name points weight = If (Points points) (If (AWeight weight) (Is (command.Contour name points weight)))

-- the weight of a cull is checked before its range
abbrev pub cull_meaning : Name → CullRule → ℤ → Meaning
cull_meaning name rule weight = If (AWeight weight) (If (ACull rule) (Is (command.Cull name rule)))

-- the factors of a scale are checked
abbrev pub scale_meaning : Name → Factors → Meaning
scale_meaning name factors = If (AScale factors) (Is (command.Scale name factors))

-- the turning check is on exactly where its number is positive
abbrev pub check_of : ℤ → Check
check_of n = if int_lt (pos 0) n then On else Off

-- what each form means
abbrev pub meaning : Form → Meaning
meaning Nothing = Is command.Nothing
meaning (AddContour name path weight) = contour_meaning name (path_value path) (weight_value weight)
meaning (AddPicture name sign source) = Is (command.Also name source sign)
meaning (CullKeeping name range weight) = cull_meaning name (Keeping (pair_value range).x (pair_value range).y (weight_value weight)) (weight_value weight)
meaning (CullDropping name range weight) = cull_meaning name (Dropping (pair_value range).x (pair_value range).y (weight_value weight)) (weight_value weight)
meaning (Clear name) = Is (command.Clear name)
meaning (Move name (Shifted p)) = Is (command.Shift name (pair_value p).x (pair_value p).y)
meaning (Move name (Scaled n)) = scale_meaning name (record { x = int_value n; y = int_value n })
meaning (Move name (XScaled n)) = scale_meaning name (record { x = int_value n; y = pos 1 })
meaning (Move name (YScaled n)) = scale_meaning name (record { x = pos 1; y = int_value n })
meaning (Move name (Rotated n)) = Turns name (int_value n)
meaning (ShowTotal source) = Is (command.Total source)
meaning (ShowPicture source) = Is (command.Show source)
meaning (ShowProof source) = Is (command.Proof source)
meaning (ShipOut source code dx width) = Is (command.Ship source code.int.magnitude (int_value dx) (int_value width))
meaning (SetCheck n) = Is (command.Turning (check_of (int_value n)))
meaning PublishAll = Is command.Publish

-- the value is lawful; an angle is 90, 180 or 270 degrees
abbrev pub IsLawfulValue : Value → Type 0
IsLawfulValue (Points points) = IsRectilinearCycle points
IsLawfulValue (AWeight weight) = IsContourWeight weight
IsLawfulValue (ACull rule) = IsLawfulCull rule
IsLawfulValue (AScale factors) = AreFactors factors
IsLawfulValue (Angle angle) = (quarter : TurnCount) × (degrees quarter ≡ angle)

-- this refusal is the fault of the points, so it is not one of the turning check
pub record HasCycleFault (points : List Point) (refused : TextFault) : Type 0 where
  pub cause : CycleFault
  pub fault : form_fault points ≡ Some cause
  pub is : refused ≡ faults.Cycle cause

-- this is the refusal of the value, if it is not lawful
abbrev pub HasRefusal : Value → TextFault → Type 0
HasRefusal (Points points) refused = HasCycleFault points refused
HasRefusal (AWeight weight) refused = refused ≡ faults.BadWeight
HasRefusal (ACull rule) refused = refused ≡ faults.BadCull
HasRefusal (AScale factors) refused = refused ≡ faults.BadScale
HasRefusal (Angle angle) refused = refused ≡ faults.BadTurn

-- the value is not lawful, and this is its refusal
pub record IsUnlawful (value : Value) (refused : TextFault) : Type 0 where
  pub unlawful : IsLawfulValue value → ⊥
  pub is : HasRefusal value refused

-- all checks of the meaning pass, and this is its command
abbrev pub Means : Meaning → Command → Type 0
Means (Is made) given = given ≡ made
Means (If value after) given = IsLawfulValue value × Means after given
Means (Turns name angle) given = (quarter : TurnCount) × (degrees quarter ≡ angle) × (given ≡ command.Quarter name quarter)

-- this is the refusal of the first value of the meaning that is not lawful
abbrev pub Refuses : Meaning → TextFault → Type 0
Refuses (Is made) refused = ⊥
Refuses (If value after) refused = IsUnlawful value refused ⊎ (IsLawfulValue value × Refuses after refused)
Refuses (Turns name angle) refused = IsUnlawful (Angle angle) refused

-- the form may be answered with `OutOfMemory`: it is that of a contour of no more points than a cycle may have
abbrev pub TakesMemory : Form → Type 0
TakesMemory (AddContour name path weight) = length (path_value path) ≤ most_points
TakesMemory form = ⊥

-- the answer to a form: its command, the refusal of its values, or `OutOfMemory` where that may come
abbrev pub IsAnswerOf : Form → Result Command TextFault → Type 0
IsAnswerOf form (Ok given) = Means (meaning form) given
IsAnswerOf form (Err faults.OutOfMemory) = TakesMemory form
IsAnswerOf form (Err refused) = Refuses (meaning form) refused
