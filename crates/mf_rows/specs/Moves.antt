-- Pictures whose columns and rows move.
use Rattle.std.specs.Prelude.{All, List}
use Rattle.mf_rows_edges.specs.declared.stretch.Stretch.{Stretch}
use Rattle.mf_rows_edges.specs.Axes.{StaysInside}
use Rattle.mf_rows.specs.Dots.{Dot}
pub use Rattle.mf_rows_strips.specs.Moves.{moved_columns, moved_rows}
pub use Rattle.mf_rows_strips.specs.Turns.{turned_once}

-- the stretches of columns and of rows take all pixels of nonzero weight to pixels of the field
pub record PixelsStayInside (columns rows : Stretch) (ds : List Dot) : Type 0 where
  pub across : All (λ d. StaysInside columns d.x) ds
  pub up : All (λ d. StaysInside rows d.y) ds
