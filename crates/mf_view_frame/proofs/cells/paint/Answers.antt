use Rattle.std.proofs.Common.{◌≡◌, to_z, of_z, w32, arith}
use Rattle.std.proofs.lemmas.Int.{ints}
use Rattle.mf_view_frame.proofs.Painting.{painted_run, start_before_end}
use Rattle.mf_view_frame.proofs.Windows.{AreFoundCells, found_cells}
use Rattle.mf_view_frame.proofs.cells.paint.Goals.{After-cell_of-last}
use Rattle.mf_view_frame.proofs.cells.paint.Goals as goal

cells_of_run : (c : After-cell_of-last) → AreFoundCells c.args.window.now.scale c.args.run.now (record {
  row = c.cell_of-row.result;
  first = c.cell_of-first.result;
  last = c.cell_of-last.result;
})
cells_of_run c = found_cells c.requires.window.scale c.requires.run.run c.cell_of-row.ensures c.cell_of-first.ensures c.cell_of-last.ensures

pub place_in-start-requires-clause-cell : goal.place_in-start-requires-clause-cell
place_in-start-requires-clause-cell c = grind (arith, ints, cells_of_run (goal.at.place_in-start-requires-clause-cell c).After-cell_of-last)

pub place_in-end-requires-clause-cell : goal.place_in-end-requires-clause-cell
place_in-end-requires-clause-cell c = grind (arith, ints, cells_of_run (goal.at.place_in-end-requires-clause-cell c).After-cell_of-last)

pub darken-requires-clause-order : goal.darken-requires-clause-order
darken-requires-clause-order c = grind (arith, ints, cells_of_run (goal.at.darken-requires-clause-order c).After-cell_of-last, start_before_end)

pub returns : goal.returns
returns c =
    let cells = cells_of_run (goal.at.returns c).After-cell_of-last in
    let start = rw (cells.row_is, cells.first_is) at c.place_in-start.ensures.value in
    let end = rw (cells.row_is, cells.last_is) at c.place_in-end.ensures.value in
    let lawful = c.requires.run.run.lawful in
    let weight : to_z w32 (of_z w32 c.args.run.now.weight) ≡ c.args.run.now.weight = omega (arith, ints, lawful.least, lawful.greatest) in
    painted_run c.requires.window c.requires.run (rw (start, end, c.of.ensures, weight) at c.darken.ensures)
