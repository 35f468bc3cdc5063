use Rattle.std.proofs.Common.{◌≡◌, ◌∙◌, to_z, of_z, w32, arith}
use Rattle.std.proofs.lemmas.Int.{ints}
use Rattle.mf_gf.proofs.SpelledRows.{none_spelled, more_spelled, all_spelled}
use Rattle.mf_gf.proofs.rows.spell_rows.Goals as goal

pub loop-rows-init : goal.loop-rows-init
loop-rows-init c =
    let rows = c.black_rows-rows.ensures in
    none_spelled rows.black rows.row (rw rows.black at rows.runs)

pub spell_equal_rows-blank-requires-clause-spelling : goal.spell_equal_rows-blank-requires-clause-spelling
spell_equal_rows-blank-requires-clause-spelling c = (_, c.loop-rows.invariant.writes _ c.requires.spelling.1)

pub spell_equal_rows-blank-requires-clause-row : goal.spell_equal_rows-blank-requires-clause-row
spell_equal_rows-blank-requires-clause-row c = c.loop-rows.invariant.row

pub spell_equal_rows-blank-requires-clause-runs : goal.spell_equal_rows-blank-requires-clause-runs
spell_equal_rows-blank-requires-clause-runs c = rw c.loop-rows.invariant.is_black c.loop-rows.invariant.runs

pub spell_equal_rows-blank-requires-clause-blank : goal.spell_equal_rows-blank-requires-clause-blank
spell_equal_rows-blank-requires-clause-blank c = c.loop-rows.invariant.few

pub returns-then-not-next_row-clause-room : goal.returns-then-not-next_row-clause-room
returns-then-not-next_row-clause-room c = c.spell_equal_rows-blank.ensures.room ∙ c.loop-rows.invariant.room

pub returns-then-not-next_row-clause-held : goal.returns-then-not-next_row-clause-held
returns-then-not-next_row-clause-held c =
    let so_far = c.loop-rows.invariant in
    let left : to_z w32 (of_z w32 c.args.left) ≡ c.args.left = omega (arith, ints) in
    let puts = rw so_far.is_black at c.spell_equal_rows-blank.ensures.held in
    rw left at (all_spelled so_far _ c.spell_equal_rows-blank.ensures.rows.order puts (c.next_row.ensures.last c.if-not-next_row.true))

pub loop-rows-preserved : goal.loop-rows-preserved
loop-rows-preserved c =
    let so_far = c.loop-rows.invariant in
    let left : to_z w32 (of_z w32 c.args.left) ≡ c.args.left = omega (arith, ints) in
    let passed = c.spell_equal_rows-blank.ensures in
    let puts = rw so_far.is_black at passed.held in
    let next = c.next_row.ensures in
    let yes = c.if-not-next_row.false in
    let black = next.black ∙ passed.black ∙ so_far.is_black in
    rw (passed.blank, so_far.is_black) (more_spelled so_far _ passed.rows.order puts _ (next.within yes) (next.row yes) black (rw black at (next.runs yes)) passed.room)
