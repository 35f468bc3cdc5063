-- What an operation makes of a picture, pixel by pixel.
use Rattle.std.specs.Prelude.{◌≡◌, ◌≢◌, ◌&&◌, Bool, false, not, ℤ, pos, ◌+ℤ◌, ◌-ℤ◌, List, Option, None, Some, if◌then◌else◌}
use Rattle.std.specs.List.{list_any}
use Rattle.std.specs.Option.{option_map, option_or}
use Rattle.mf_rows_edges.specs.LawfulWeights.{least_weight, greatest_weight}
use Rattle.mf_rows_edges.specs.WeightMaps.{is_within}
use Rattle.mf_geom.specs.declared.check.Check.TheVariants.{On}
use Rattle.mf_geom.specs.Faults.{turning_fault}
use Rattle.mf_geom.specs.Field.{IsInField}
use Rattle.mf_geom.specs.Lawful.{IsRectilinearCycle}
use Rattle.mf_geom.specs.Winding.{contour}
use Rattle.mf_rows.specs.declared.sign.Sign.TheVariants.{Plus, Minus}
use Rattle.mf_rows.specs.Dots.{Dot, IsPicture, weight_at}
use Rattle.mf_rows.specs.Weights.{picture_of}
use Rattle.mf_ops.specs.Cull.{IsLawfulCull, culled_weight}
use Rattle.mf_ops.specs.Moves.{AreFactors, scale_by, scale_source, shift_by, stays_inside, turn_by}
use Rattle.mf_ops.specs.declared.op.Op.{Op}
use Rattle.mf_ops.specs.declared.op.Op.TheVariants.{Contour, Also, Cull, Shift, Scale, Quarter, Clear}
use Rattle.mf_ops.specs.declared.op.OpFault.{OpFault}
use Rattle.mf_ops.specs.declared.op.OpFault.TheVariants.{OutOfField, WeightTooLarge, OutOfMemory}

-- the weight of the pixel (x, y) after an operation on the picture ds
abbrev pub step_at : List Dot → Op → ℤ → ℤ → ℤ
step_at ds (Contour ps w check) x y = weight_at ds x y +ℤ contour ps w check x y
step_at ds (Also es Plus) x y = weight_at ds x y +ℤ weight_at es x y
step_at ds (Also es Minus) x y = weight_at ds x y -ℤ weight_at es x y
step_at ds (Cull c) x y = culled_weight c (weight_at ds x y)
step_at ds (Shift dx dy) x y = weight_at ds (x -ℤ dx) (y -ℤ dy)
step_at ds (Scale s) x y = weight_at ds (scale_source s.x x) (scale_source s.y y)
step_at ds (Quarter q) x y = turn_by q (weight_at ds) x y
step_at ds Clear x y = pos 0

-- the picture that an operation makes of the picture ds at the pixels of the field, whether or not the operation is refused
unfoldable pub next_picture : List Dot → Op → List Dot
next_picture ds op = picture_of (step_at ds op)

-- whether an operation takes a pixel out of the field: only a shift or a scale can (the law `refused_where_a_pixel_leaves`)
abbrev pub leaves : Op → Dot → Bool
leaves (Shift dx dy) d = not (stays_inside (shift_by dx) d.x && stays_inside (shift_by dy) d.y)
leaves (Scale s) d = not (stays_inside (scale_by s.x) d.x && stays_inside (scale_by s.y) d.y)
leaves op d = false

-- the operation takes no pixel of the picture ds out of the field
pub record StaysInField (ds : List Dot) (op : Op) : Type 0 where
  pub none_leaves : list_any (leaves op) ds ≡ false

-- whether a weight exceeds 32767 in absolute value: what `IsLawfulWeight` denies, as a value, since a refusal is computed
abbrev pub is_too_large : ℤ → Bool
is_too_large w = not (is_within least_weight greatest_weight w)

-- the refusal of a picture for its weights, if there is one
abbrev pub weight_fault : List Dot → Option OpFault
weight_fault ds = if list_any (λ d. is_too_large d.weight) ds then Some WeightTooLarge else None

-- the refusal of an operation on the picture ds for its pixels, if there is one
abbrev pub pixel_fault : List Dot → Op → Option OpFault
pixel_fault ds op = if list_any (leaves op) ds then Some OutOfField else weight_fault (next_picture ds op)

-- the refusal of an operation for the way its cycle turns, if there is one: only contours under the turning check are refused so
abbrev pub cycle_fault : Op → Option OpFault
cycle_fault (Contour ps w On) = option_map OpFault.Cycle (turning_fault ps)
cycle_fault op = None

-- the operation is not refused for its cycle: it is no contour, its check is off, or its cycle passes
pub record TurnsLawfully (op : Op) : Type 0 where
  pub none : cycle_fault op ≡ None

-- the refusal of an operation on the picture ds, if there is one: how its cycle turns is decided before any pixel
unfoldable pub op_fault : List Dot → Op → Option OpFault
op_fault ds op = option_or (cycle_fault op) (pixel_fault ds op)

-- a call may refuse the operation on the picture ds with this fault: the definition does, or the fault is `OutOfMemory`
abbrev pub IsRefusal : List Dot → Op → OpFault → Type 0
IsRefusal ds op fault = fault ≢ OutOfMemory → op_fault ds op ≡ Some fault

-- the cycle, the picture, the range or the factors of the operation are lawful; its weight may be any
abbrev pub HasLawfulValues : Op → Type 0
HasLawfulValues (Contour ps w check) = IsRectilinearCycle ps
HasLawfulValues (Also es s) = IsPicture es
HasLawfulValues (Cull c) = IsLawfulCull c
HasLawfulValues (Scale s) = AreFactors s
HasLawfulValues op = Unit {0}

-- the weights f are not 0 at some pixel outside the field
pub record LiesOutside (f : ℤ → ℤ → ℤ) : Type 0 where
  pub x : ℤ
  pub y : ℤ
  pub outside : IsInField x y → ⊥
  pub nonzero : f x y ≢ pos 0
