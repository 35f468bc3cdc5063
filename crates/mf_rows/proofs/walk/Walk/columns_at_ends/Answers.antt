use Rattle.std.proofs.Common.{◌≡◌, ◌-ℤ◌, pos, to_z, of_z, w32, sym, ◌∙◌, arith}
use Rattle.std.proofs.lemmas.Int.{ints}
use Rattle.mf_rows.proofs.BoxesPassed.{first_lawful, last_lawful, row_columns}
use Rattle.mf_rows.proofs.PassedPixels.{edges_closed}
use Rattle.mf_rows.proofs.walk.Walk.columns_at_ends.Goals as goal

pub ends-requires : goal.ends-requires
ends-requires c = edges_closed c.args.self.now c.requires

pub overflow_sub-last : goal.overflow_sub-last
overflow_sub-last c =
    let row = c.in_ok-first in
    let lawful = last_lawful c.args.self.now row.first row.last c.requires row.ensures in
    omega (arith, ints, lawful.least, lawful.greatest)

pub returns-then-has-2 : goal.returns-then-has-2
returns-then-has-2 c =
    let s = c.args.self.now in
    let first = c.in_ok-first.first in
    let last = c.in_ok-first.last in
    let ends = c.in_ok-first.ensures in
    let begins = first_lawful s first last c.requires ends in
    let lawful = last_lawful s first last c.requires ends in
    let first_x : to_z w32 (of_z w32 first.x) ≡ first.x = omega (arith, ints, ends.first.column) in
    let last_x : to_z w32 (of_z w32 last.x) ≡ last.x = omega (arith, ints, ends.last.column) in
    let before : to_z w32 (of_z w32 (last.x -ℤ pos 1)) ≡ last.x -ℤ pos 1 = omega (arith, ints, ends.last.column) in
    let first_w : to_z w32 (of_z w32 first.weight) ≡ first.weight = omega (arith, ints, begins) in
    let last_w : to_z w32 (of_z w32 (pos 0 -ℤ to_z w32 (of_z w32 last.weight))) ≡ pos 0 -ℤ last.weight = omega (arith, ints, lawful) in
    rw (first_x, last_x, before) (row_columns s first last c.requires ends c.args.pixels
    (sym (rw first_w at c.has.ensures) ∙ c.if-has.true) (sym (rw last_w at c.has-then-has.ensures) ∙ c.if-has-2.true))

pub returns-in_err-first : goal.returns-in_err-first
returns-in_err-first c = rw c.from_residual.ensures tt

pub overflow_sub-result : goal.overflow_sub-result
overflow_sub-result c = omega (arith, ints, c.in_ok-first.ensures.last.column)
