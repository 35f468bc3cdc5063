use Rattle.std.proofs.Common.{◌≡◌, map, length, reverse, to_z, of_z, w32, ap, ◌∙◌, arith}
use Rattle.std.proofs.lemmas.Int.{ints}
use Rattle.mf_rows_strips.specs.Moves.{reflected_edge, reversed_head}
use Rattle.mf_rows_strips.proofs.Mirrors.{lists_mirrored, reflected_edges}
use Rattle.mf_rows_strips.proofs.moves.mirrored_columns.Goals as goal

pub of-requires : goal.of-requires
of-requires c =
    let part = c.args.part.now in
    let reflected : c.in_ok-edges.edges.items ≡ map reflected_edge part.edges.items = cc c.in_ok-edges.ensures in
    let edges : c.reverse.new.self.items ≡ reflected_edges part.edges.items = c.reverse.ensures.items ∙ ap reverse reflected in
    let heads : c.in_ok-heads.heads.items ≡ map (reversed_head (length part.edges.items)) part.heads.items = cc c.in_ok-heads.ensures in
    let reach : to_z w32 (of_z w32 c.reach.result) ≡ part.reach = omega (arith, ints) in
    let new = lists_mirrored part in
    rw (edges, heads, reach) (record { placed = new.placed; lawful = new.lawful })
