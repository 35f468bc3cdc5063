use Rattle.std.proofs.Common.{arith}
use Rattle.std.proofs.lemmas.Int.{ints}
use Rattle.mf_view_frame.proofs.Windows.{AreWindowEnds, same_window, window_ends}
use Rattle.mf_view_frame.proofs.window.Window.at.Goals.{After-line_of-last_line}
use Rattle.mf_view_frame.proofs.window.Window.at.Goals as goal

ends : (c : After-line_of-last_line) → AreWindowEnds c.args.bounds.now c.args.scale (record {
  column = c.cell_of-column.result;
  last_column = c.cell_of-last_column.result;
  line = c.line_of-line.result;
  last_line = c.line_of-last_line.result;
})
ends c =
    window_ends c.requires.bounds c.requires.scale c.cell_of-column.ensures c.cell_of-last_column.ensures
    c.cell_of-row.ensures c.cell_of-last_row.ensures c.line_of-line.ensures c.line_of-last_line.ensures

pub extent-columns-requires : goal.extent-columns-requires
extent-columns-requires c =
    let v = ends (goal.at.extent-columns-requires c).After-line_of-last_line in
    omega (arith, ints, v, v.field.first_column, v.field.last_column, v.field.columns)

pub extent-lines-requires : goal.extent-lines-requires
extent-lines-requires c =
    let v = ends (goal.at.extent-lines-requires c).After-line_of-last_line in
    omega (arith, ints, v, v.field.first_line, v.field.last_line, v.field.lines)

pub returns : goal.returns
returns c = let v = ends (goal.at.returns c).After-line_of-last_line in same_window c.requires.scale v c.extent-columns.ensures c.extent-lines.ensures
