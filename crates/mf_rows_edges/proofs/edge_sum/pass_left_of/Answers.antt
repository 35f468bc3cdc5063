use Rattle.std.proofs.Common.{◌+◌, ◌<ℤ◌, pos, ap, to_z, of_z, w32, arith}
use Rattle.std.proofs.lemmas.Int.{ints}
use Rattle.std.proofs.lemmas.List.Elements.{All-more}
use Rattle.mf_rows_edges.proofs.edge_sum.pass_left_of.Goals as goal

pub loop-edge-preserved : goal.loop-edge-preserved
loop-edge-preserved c = record {
  count = ap (λ n. n + 1) c.loop-edge.invariant.count;
  left = All-more (λ e. e.x <ℤ to_z w32 (of_z w32 c.args.x)) c.args.edges.now _ (record { x = pos 0; weight = pos 0 })
      c.loop-edge-test.true c.loop-edge.invariant.left (grind (arith, ints));
}
