use Rattle.std.proofs.Common.{◌≡◌, to_z, of_z, w32, arith}
use Rattle.std.proofs.lemmas.Int.{ints}
use Rattle.mf_rows_strips.specs.Parts.{edge_strip}
use Rattle.mf_rows_strips.proofs.MappedStrips.{mapped_none, mapped_next, mapped_all}
use Rattle.mf_rows_strips.proofs.mapping.mapped.Goals as goal

pub loop-strip-init : goal.loop-strip-init
loop-strip-init c =
    let same : to_z w32 (of_z w32 c.reach_of_map-reach.result) ≡ c.reach_of_map-reach.result = omega (arith, ints) in
    rw (c.in_ok-new.ensures, c.strips-rest.ensures, same) (mapped_none c.args.part.now.lawful c.requires c.reach_of_map-reach.ensures)

pub loop-strip-preserved : goal.loop-strip-preserved
loop-strip-preserved c =
    let so_far = rw c.in-Some.ensures.some at c.loop-strip.invariant in
    let top : to_z w32 (of_z w32 c.in-Some.strip.top) ≡ c.in-Some.strip.top = omega (arith, ints) in
    mapped_next {s = edge_strip c.in-Some.strip} so_far (rw top at c.in_ok-push_mapped.ensures)

pub finish-requires : goal.finish-requires
finish-requires c = (mapped_all c.loop-strip.invariant c.in_default.ensures.none c.requires).0
