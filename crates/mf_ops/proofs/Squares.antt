-- From which pixel each pixel comes when an operation moves the squares of the pixels.
use Rattle.std.proofs.Common.{◌≡◌, ◌-ℤ◌, arith}
use Rattle.std.proofs.lemmas.Int.{ints, clamps}
use Rattle.mf_geom.specs.declared.point.Point.{Point}
use Rattle.mf_rows_edges.specs.Axes.{opposite}
use Rattle.mf_ops.specs.Moves.{scale_source}
use Rattle.mf_ops.specs.Squares.{Covers, MovesPixels}
use Rattle.mf_ops.specs.declared.op.Op.{Op}
use Rattle.mf_ops.specs.declared.op.Op.TheVariants.{Shift, Scale, Quarter}
use Rattle.mf_ops.specs.declared.quarter.TurnCount.TheVariants.{Once, Twice, Thrice}
use Rattle.mf_ops.proofs.ScaleSources.{scale_source-covered, scale_source-only}

-- the pixel from which the pixel q comes
abbrev pub source : Op → Point → Point
source (Shift dx dy) q = record { x = q.x -ℤ dx; y = q.y -ℤ dy }
source (Scale s) q = record { x = scale_source s.x q.x; y = scale_source s.y q.y }
source (Quarter Once) q = record { x = q.y; y = opposite q.x }
source (Quarter Twice) q = record { x = opposite q.x; y = opposite q.y }
source (Quarter Thrice) q = record { x = opposite q.y; y = q.x }
source op q = q

pub covered : (op : Op) (q : Point) → MovesPixels op → Covers op (source op q) q
covered (Scale s) q moves =
    let columns = scale_source-covered s.x q.x moves.columns in
    let rows = scale_source-covered s.y q.y moves.rows in
    record { left = columns.start; right = columns.end; bottom = rows.start; top = rows.end }
covered (Shift dx dy) q moves = grind (arith, ints, clamps)
covered (Quarter Once) q moves = grind (arith, ints, clamps)
covered (Quarter Twice) q moves = grind (arith, ints, clamps)
covered (Quarter Thrice) q moves = grind (arith, ints, clamps)
covered op q moves = absurd moves

same_point : (p r : Point) → p.x ≡ r.x → p.y ≡ r.y → p ≡ r
same_point p r columns rows = grind (arith, columns, rows)

-- no other square covers it
pub only : (op : Op) (p q : Point) → MovesPixels op → Covers op p q → source op q ≡ p
only (Scale s) p q moves covers =
    let columns = scale_source-only s.x p.x q.x moves.columns (record { start = covers.left; end = covers.right }) in
    let rows = scale_source-only s.y p.y q.y moves.rows (record { start = covers.bottom; end = covers.top }) in
    same_point _ p columns rows
only (Shift dx dy) p q moves covers = same_point _ p (omega (arith, ints, clamps, covers.left, covers.right, covers.bottom, covers.top)) (omega (arith, ints, clamps, covers.left, covers.right, covers.bottom, covers.top))
only (Quarter Once) p q moves covers = same_point _ p (omega (arith, ints, clamps, covers.left, covers.right, covers.bottom, covers.top)) (omega (arith, ints, clamps, covers.left, covers.right, covers.bottom, covers.top))
only (Quarter Twice) p q moves covers = same_point _ p (omega (arith, ints, clamps, covers.left, covers.right, covers.bottom, covers.top)) (omega (arith, ints, clamps, covers.left, covers.right, covers.bottom, covers.top))
only (Quarter Thrice) p q moves covers = same_point _ p (omega (arith, ints, clamps, covers.left, covers.right, covers.bottom, covers.top)) (omega (arith, ints, clamps, covers.left, covers.right, covers.bottom, covers.top))
only op p q moves covers = absurd moves
