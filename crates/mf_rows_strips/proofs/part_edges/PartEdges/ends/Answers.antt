use Rattle.mf_rows_strips.proofs.PartEdgesLemmas.{ends_of}
use Rattle.mf_rows_strips.proofs.part_edges.PartEdges.ends.Goals as goal

pub returns : goal.returns
returns c = ends_of c.args.self.now.edges.now _ _ c.args.self.now.sorted c.requires c.in_ok-first.ensures.value c.in_ok-last.ensures.value
