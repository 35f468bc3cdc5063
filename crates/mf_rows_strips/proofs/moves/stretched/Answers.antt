use Rattle.std.proofs.Common.{◌≡◌, map, to_z, of_z, w32, arith}
use Rattle.std.specs.List.{filter_map}
use Rattle.std.proofs.lemmas.Int.{ints}
use Rattle.mf_rows_strips.specs.Moves.{stretched_edge, stretched_head}
use Rattle.mf_rows_strips.proofs.Stretches.{lists_stretched}
use Rattle.mf_rows_strips.proofs.moves.stretched.Goals as goal

pub of-requires : goal.of-requires
of-requires c =
    let part = c.args.part.now in
    let edges : c.in_ok-edges.edges.items ≡ map (stretched_edge c.args.columns.now) part.edges.items = cc c.in_ok-edges.ensures in
    let heads : c.in_ok-heads.heads.items ≡ filter_map (stretched_head c.args.rows.now) part.heads.items = cc c.in_ok-heads.ensures in
    let reach : to_z w32 (of_z w32 c.reach.result) ≡ part.reach = omega (arith, ints) in
    let new = lists_stretched part c.args.columns.now c.args.rows.now c.requires.columns c.requires.rows c.requires.inside in
    rw (edges, heads, reach) (record { placed = new.placed; lawful = new.lawful })
