use Rattle.std.proofs.Common.{rules, ◌+◌, ◌≡◌, ◌≤◌, ◌≤ℤ◌, ℕ, ℤ, Option, None, Some, IfSome, List, [], ◌∷◌, ◌++◌, pos, ◌+ℤ◌, ◌-ℤ◌, to_z, of_z, w32, sym, ap, ◌∙◌, append_assoc, arith}
use Rattle.std.specs.Int.RustNames.{unsigned_abs}
use Rattle.std.specs.List.{flat_map}
use Rattle.std.proofs.lemmas.Int.{ints}
use Rattle.std.proofs.lemmas.List.{append-nil}
use Rattle.mf_geom.specs.Coordinates.{last_in_field, least_coordinate}
use Rattle.mf_rows.specs.RowEdges.{AreSameRows}
use Rattle.mf_rows.specs.BlackRows.{black_in, row_in, runs_in}
use Rattle.mf_gf.specs.Numbers.{greatest_halfword}
use Rattle.mf_gf.specs.Rows.{rows_between}
use Rattle.mf_gf.specs.Spelling.{distance, lengths, paint, row_lengths, row_start}
use Rattle.mf_gf.proofs.EqualRows.{passed_blank, counted_blank, passed_rows, counted_rows}
use Rattle.mf_gf.proofs.SpelledRows.{just_written}
use Rattle.mf_gf.proofs.Writing.{write_both}
use Rattle.mf_gf.proofs.rows.spell_equal_rows.Goals as goal
use Rattle.mf_gf.proofs.rows.spell_equal_rows.Goals.{After-pass_equal_rows, After-pass_equal_rows-2}

-- ---- the blank rows above

-- there are fewer blank rows than a skip can go over
few_blank : (blank : Option ℕ) (y : ℤ) → least_coordinate ≤ℤ y → IfSome blank (λ n. pos n ≤ℤ (last_in_field -ℤ y)) → IfSome blank (λ n. n ≤ greatest_halfword)
few_blank None y low few = tt
few_blank (Some n) y low few = omega (arith, ints, few, low)

pub start_row-requires-clause-blank : goal.start_row-requires-clause-blank
start_row-requires-clause-blank c = few_blank _ _ c.requires.row.least c.requires.blank

-- ---- a blank row

none : (c : After-pass_equal_rows) → row_lengths c.args.left (black_in c.args.rows.now) (row_in c.args.rows.now) ≡ []
unfolding lengths
none c = ap (lengths c.args.left) (sym c.requires.runs ∙ c.in_default.ensures.next)

same : (c : After-pass_equal_rows) → AreSameRows (black_in c.args.rows.now) (row_in c.pass_equal_rows.new.self) (row_in c.args.rows.now)
same c = rw (c.in_default.ensures.black, c.in_default.ensures.row) at c.pass_equal_rows.ensures.rows

pub returns-in_default-clause-held : goal.returns-in_default-clause-held
returns-in_default-clause-held c =
    let after = (goal.at.returns-in_default-clause-held c).After-pass_equal_rows in
    rw (passed_blank c.args.left _ _ _ (same after) (none after) c.args.blank) (λ text holds. rw (append-nil text) holds)

pub returns-in_default-clause-blank : goal.returns-in_default-clause-blank
returns-in_default-clause-blank c =
    let after = (goal.at.returns-in_default-clause-blank c).After-pass_equal_rows in
    let count : rows_between (row_in c.args.rows.now) (row_in c.pass_equal_rows.new.self) ≡ c.pass_equal_rows.result + 1 =
    omega (arith, ints, rw c.in_default.ensures.row at c.pass_equal_rows.ensures.count) in
    rw (counted_blank c.args.left _ _ _ (same after) (none after) c.args.blank, count) (search rules)

-- ---- a black row

pub repeat_row-requires-clause-part : goal.repeat_row-requires-clause-part
repeat_row-requires-clause-part c =
    rw (c.length-start.ensures, c.length-end.ensures) (
      _,
      _,
      _,
      just_written (c.start_row.ensures.held _ c.requires.spelling.1) (write_both c.paint.ensures.held c.put_runs.ensures.held)
          (c.put_runs.ensures.room ∙ c.paint.ensures.room),
    )

abbrev lens : (c : After-pass_equal_rows-2) → List ℕ
lens c = c.in-Some.first.len ∷ lengths (c.in-Some.first.x +ℤ pos c.in-Some.first.len) (runs_in c.next_run.new.self)

is : (c : After-pass_equal_rows-2) → row_lengths c.args.left (black_in c.args.rows.now) (row_in c.args.rows.now) ≡ distance c.in-Some.first.x c.args.left ∷ lens c
unfolding lengths
is c = ap (lengths c.args.left) (sym c.requires.runs ∙ c.in-Some.ensures.next)

alike : (c : After-pass_equal_rows-2) → AreSameRows (black_in c.args.rows.now) (row_in c.pass_equal_rows-2.new.self) (row_in c.args.rows.now)
alike c = rw (c.put_runs.ensures.black, c.put_runs.ensures.row, c.in-Some.ensures.black, c.in-Some.ensures.row) at c.pass_equal_rows-2.ensures.rows

pub returns-clause-blank : goal.returns-clause-blank
returns-clause-blank c =
    let after = (goal.at.returns-clause-blank c).After-pass_equal_rows-2 in
    sym (counted_rows c.args.left _ _ _ (alike after) _ _ (is after) c.args.blank)

pub returns-clause-held : goal.returns-clause-held
returns-clause-held c =
    let after = (goal.at.returns-clause-held c).After-pass_equal_rows-2 in
    let start = row_start c.args.blank (distance c.in-Some.first.x c.args.left) in
    let others = flat_map paint (lens after) in
    let offset : c.abs_diff-offset.result ≡ distance c.in-Some.first.x c.args.left = omega (arith, ints, c.abs_diff-offset.ensures, c.in-Some.ensures.run.left, c.in-Some.ensures.run.right) in
    let count : unsigned_abs (row_in c.args.rows.now -ℤ row_in c.pass_equal_rows-2.new.self) ≡ c.pass_equal_rows-2.result =
    omega (arith, ints, rw (c.put_runs.ensures.row, c.in-Some.ensures.row) at c.pass_equal_rows-2.ensures.count) in
    let begins = rw offset at c.start_row.ensures.held in
    let first = c.in-Some.first in
    let end : to_z w32 (of_z w32 (to_z w32 (of_z w32 first.x) +ℤ to_z w32 first.len)) ≡ first.x +ℤ pos first.len =
    omega (arith, ints, c.in-Some.ensures.run.left, c.in-Some.ensures.run.right, c.in-Some.ensures.run.some) in
    let goes_on = write_both c.paint.ensures.held (rw end at c.put_runs.ensures.held) in
    rw (passed_rows c.args.left _ _ _ (alike after) _ _ (is after) c.args.blank, count)
    (λ text holds.
    let part = just_written {part = others} (begins text holds) goes_on (c.put_runs.ensures.room ∙ c.paint.ensures.room) in
    let rows = rw offset at (c.repeat_row.ensures.rows (text ++ start) others [] (rw (c.length-start.ensures, c.length-end.ensures) part)) in
    rw (append_assoc text start others, append_assoc text (start ++ others)) at rows.held)
