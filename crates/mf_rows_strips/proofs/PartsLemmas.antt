-- The strips of a part.
use Rattle.std.proofs.Common.{◌≡◌, ℤ, List, [], sym, subst}
use Rattle.mf_geom.specs.Coordinates.{greatest_coordinate}
use Rattle.mf_rows_edges.specs.declared.edge.Edge.{Edge}
use Rattle.mf_rows_edges.specs.Edges.{AreEdges}
use Rattle.mf_rows_strips.specs.declared.part.Part.{Part}
use Rattle.mf_rows_strips.specs.Parts.{strips_in}
use Rattle.mf_rows_strips.specs.Strips.{row_in}
use Rattle.mf_rows_strips.proofs.StripsLemmas.{row_lawful, no_edges}

pub part_row : (p : Part) (y : ℤ) (es : List Edge) → es ≡ row_in [] (strips_in p) y → AreEdges es
part_row p y es is = subst AreEdges (sym is) (row_lawful greatest_coordinate p.reach [] (strips_in p) y no_edges p.lawful.strips)
