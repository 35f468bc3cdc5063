use Rattle.std.proofs.Common.{◌≡◌, arith}
use Rattle.mf_gf.proofs.SpelledRows.{none_repeated, next_part, one_more_repeated}
use Rattle.mf_gf.proofs.rows.repeat_row.Goals as goal

pub loop-init : goal.loop-init
loop-init c = none_repeated c.args.out.now c.args.offset c.args.start c.args.end

pub repeat-requires : goal.repeat-requires
repeat-requires c = next_part c.loop.invariant c.start_row.ensures.held c.start_row.ensures.room c.requires.part

pub loop-preserved : goal.loop-preserved
loop-preserved c =
    one_more_repeated c.loop.invariant c.start_row.ensures.held c.start_row.ensures.room c.repeat.ensures.held c.repeat.ensures.room

pub returns-clause-rows : goal.returns-clause-rows
returns-clause-rows c =
    let all : c.loop.counter ≡ c.args.count = omega (arith, c.loop-test.false, c.loop.auto.counter-end) in
    rw all at c.loop.invariant.rows
