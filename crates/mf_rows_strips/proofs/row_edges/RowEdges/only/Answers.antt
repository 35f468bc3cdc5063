use Rattle.std.proofs.Common.{◌<◌, rules, length, sym, ap, arith}
use Rattle.std.proofs.lemmas.Int.{ints}
use Rattle.mf_rows_edges.specs.Edges.{weight_in}
use Rattle.mf_rows_strips.specs.RowEdges.{weight_left}
use Rattle.mf_rows_strips.proofs.PartEdgesLemmas.{weight_in_all-more}
use Rattle.mf_rows_strips.proofs.row_edges.RowEdges.only.Goals as goal

pub returns : goal.returns
unfolding weight_left
returns c = λ x.
    let first = c.index-edges-0 in
    let some : 0 < length c.args.self.now.edges = search rules in
    rw (sym c.len.ensures, c.if-len-ne1.false)
    (omega (arith, ints, weight_in_all-more c.args.self.now.edges 0 first.result some x, ap (λ r. weight_in r.edges.now x) first.is))
