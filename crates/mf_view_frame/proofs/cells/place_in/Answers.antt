use Rattle.std.proofs.Common.{◌≡◌, ◌-ℤ◌, ◌*ℤ◌, pos, to_z, of_z, w32, refl, arith}
use Rattle.std.proofs.lemmas.Int.{ints}
use Rattle.mf_view_frame.proofs.Painting.{place-inside}
use Rattle.mf_view_frame.proofs.cells.place_in.Goals as goal

pub returns-clause-value : goal.returns-clause-value
returns-clause-value c =
    let cell = c.requires.cell in
    let w = c.args.window.now in
    let above : to_z w32 (of_z w32 (to_z w32 (of_z w32 c.args.row) -ℤ to_z w32 (of_z w32 (pos 2 *ℤ to_z w32 (of_z w32 w.line)))))
    ≡ c.args.row -ℤ (pos 2 *ℤ w.line) = omega (arith, ints, cell.bottom, cell.top, c.requires.window.least_line, c.requires.window.greatest_line, c.requires.window.lines) in
    let right : to_z w32 (of_z w32 (to_z w32 (of_z w32 c.args.column) -ℤ to_z w32 (of_z w32 w.column))) ≡ c.args.column -ℤ w.column =
    omega (arith, ints, cell.left, cell.right, c.requires.window.least_column, c.requires.window.greatest_column, c.requires.window.columns) in
    rw (above, right) refl

pub returns-clause-inside : goal.returns-clause-inside
returns-clause-inside c = rw (returns-clause-value c) (place-inside _ _ _ c.requires.cell)
