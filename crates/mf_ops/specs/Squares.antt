-- Where operations move the unit squares of the pixels (The METAFONTbook, chapters 13 and 15).
use Rattle.std.specs.Prelude.{ℤ, pos, neg_ℤ, ◌+ℤ◌, ◌*ℤ◌, ◌≤ℤ◌}
use Rattle.std.specs.Int.{int_max, int_min}
use Rattle.mf_geom.specs.declared.point.Point.{Point}
use Rattle.mf_ops.specs.Moves.{AreFactors}
use Rattle.mf_ops.specs.declared.op.Op.{Op}
use Rattle.mf_ops.specs.declared.op.Op.TheVariants.{Shift, Scale, Quarter}
use Rattle.mf_ops.specs.declared.quarter.TurnCount.TheVariants.{Once, Twice, Thrice}

-- the operation moves the pixels of a picture: it is a shift, a scale by lawful factors, or a turn
abbrev pub MovesPixels : Op → Type 0
MovesPixels (Shift dx dy) = Unit {0}
MovesPixels (Scale s) = AreFactors s
MovesPixels (Quarter q) = Unit {0}
MovesPixels op = ⊥

-- where an operation moves a point of the plane; those that move no pixels leave it
abbrev pub moved : Op → Point → Point
moved (Shift dx dy) p = record { x = p.x +ℤ dx; y = p.y +ℤ dy }
moved (Scale s) p = record { x = p.x *ℤ s.x; y = p.y *ℤ s.y }
moved (Quarter Once) p = record { x = neg_ℤ p.y; y = p.x }
moved (Quarter Twice) p = record { x = neg_ℤ p.x; y = neg_ℤ p.y }
moved (Quarter Thrice) p = record { x = p.y; y = neg_ℤ p.x }
moved op p = p

-- the upper right corner of the square of the pixel p, whose lower left corner is p
abbrev pub upper_right : Point → Point
upper_right p = record { x = p.x +ℤ pos 1; y = p.y +ℤ pos 1 }

-- the square of the pixel p, moved, contains that of the pixel q
pub record Covers (op : Op) (p q : Point) : Type 0 where
  pub left : int_min (moved op p).x (moved op (upper_right p)).x ≤ℤ q.x
  pub right : (q.x +ℤ pos 1) ≤ℤ int_max (moved op p).x (moved op (upper_right p)).x
  pub bottom : int_min (moved op p).y (moved op (upper_right p)).y ≤ℤ q.y
  pub top : (q.y +ℤ pos 1) ≤ℤ int_max (moved op p).y (moved op (upper_right p)).y
