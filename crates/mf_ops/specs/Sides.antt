-- Filling a contour: the weight with which its cycle is filled, and the sides of the cycle, its vertical segments, as corners.
use Rattle.std.specs.Prelude.{◌≡◌, ◌≢◌, Some, ◌≤◌, ℤ, ◌*ℤ◌, All, List, ◌++◌, length}
use Rattle.mf_geom.specs.declared.point.Point.{Point}
use Rattle.mf_geom.specs.Crossing.{crossing}
use Rattle.mf_geom.specs.Path.{Segment}
use Rattle.mf_rows_strips.specs.declared.corner.Corner.{Corner}
use Rattle.mf_geom.specs.declared.check.Check.TheVariants.{Off}
use Rattle.mf_geom.specs.declared.cycle.CycleFault.{CycleFault}
use Rattle.mf_rows.specs.Corners.{IsCorner, added_by_all}
use Rattle.mf_rows.specs.Dots.{Dot}
use Rattle.mf_ops.specs.Step.{next_picture, op_fault}
use Rattle.mf_ops.specs.declared.op.Op.{Op}
use Rattle.mf_ops.specs.declared.op.Op.TheVariants.{Contour}
use Rattle.mf_ops.specs.declared.op.OpFault.TheVariants.{Cycle}

-- at most two corners were appended, which add to each pixel the weight w times the crossing of the segment e
pub record HasSide (w : ℤ) (e : Segment) (old new : List Corner) : Type 0 where
  pub more : List Corner
  pub all : new ≡ old ++ more
  pub few : length more ≤ 2
  pub corners : All IsCorner more
  pub added : (x y : ℤ) → added_by_all more x y ≡ w *ℤ crossing x y e

-- the operation fills the cycle with the weight w, however the cycle turns
pub record FillsWith (op : Op) (ps : List Point) (w : ℤ) : Type 0 where
  pub turns : (ds : List Dot) (fault : CycleFault) → op_fault ds op ≢ Some (Cycle fault)
  pub step : (ds : List Dot) → next_picture ds op ≡ next_picture ds (Contour ps w Off)
  pub fault : (ds : List Dot) → op_fault ds op ≡ op_fault ds (Contour ps w Off)
