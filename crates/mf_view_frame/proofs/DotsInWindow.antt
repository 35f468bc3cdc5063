-- The cells of the dots of a picture lie in the window of its least box.
use Rattle.std.proofs.Common.{ℤ, pos, ◌≤ℤ◌, List, arith}
use Rattle.std.proofs.lemmas.Int.{ints}
use Rattle.std.proofs.lemmas.List.Elements.{All-weaker}
use Rattle.mf_rows.specs.declared.bounds.Box4.{Box4}
use Rattle.mf_rows.specs.Bounds.{IsDotIn, IsLeastBox}
use Rattle.mf_rows.specs.Dots.{Dot}
use Rattle.mf_view_frame.specs.Cells.{cell_of, IsCellOf, AreInWindow}
use Rattle.mf_view_frame.specs.Windows.{window_at}
use Rattle.mf_view_frame.proofs.Floors.{cell-le, line-le, line-within}

dot_in_window : (b : Box4) (s : ℤ) (d : Dot) → pos 1 ≤ℤ s → IsDotIn b d → IsCellOf (window_at b s) (cell_of s d.x) (cell_of s d.y)
unfolding window_at
dot_in_window b s d positive within =
    let left = cell-le s b.min_x d.x positive within.left in
    let right = cell-le s d.x b.max_x positive within.right in
    let bottom = cell-le s b.min_y d.y positive within.bottom in
    let top = cell-le s d.y b.max_y positive within.top in
    let lowest = line-within (cell_of s b.min_y) in
    let highest = line-within (cell_of s b.max_y) in
    omega (arith, ints, line-le (cell_of s b.min_y) (cell_of s b.max_y) (omega (arith, ints, bottom, top)), lowest.0, highest.1)

-- the cells of all dots lie in the window of the least box
pub all_in_window : (ds : List Dot) (b : Box4) (s : ℤ) → pos 1 ≤ℤ s → IsLeastBox ds b → AreInWindow (window_at b s) ds
unfolding window_at
all_in_window ds b s positive box =
    All-weaker (IsDotIn b) (λ d. IsCellOf (window_at b s) (cell_of s d.x) (cell_of s d.y)) (λ d within. dot_in_window b s d positive within) ds box.within
