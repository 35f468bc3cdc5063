use Rattle.std.proofs.Common.{◌≡◌, ◌-ℤ◌, pos, to_z, of_z, w32, sym, ◌∙◌, arith}
use Rattle.std.proofs.lemmas.Int.{ints}
use Rattle.std.specs.Int.{int_min}
use Rattle.mf_rows.proofs.BoxesPassed.{no_columns, columns_kept, columns_grown}
use Rattle.mf_rows.proofs.PassedPixels.{column_fits, more_pixels, no_pixels}
use Rattle.mf_rows.proofs.walk.Walk.columns.Goals as goal

pub loop-self-init : goal.loop-self-init
loop-self-init c = let s = c.args.self.now in record { columns = no_columns c.args.pixels s s.x c.requires; passed = no_pixels s }

pub loop-self-preserved : goal.loop-self-preserved
loop-self-preserved c =
    let so_far = c.loop-self.invariant in
    let passed = c.pass_equal.ensures.passed in
    let weight : to_z w32 (of_z w32 c.loop-self.self.weight) ≡ c.loop-self.self.weight = omega (arith, ints) in
    record {
      columns = columns_kept c.args.pixels _ _ _ so_far.passed passed _ _ so_far.columns (sym (rw weight at c.has.ensures) ∙ c.if-has.false);
      passed = more_pixels _ _ _ so_far.passed passed;
    }

pub loop-self-preserved-then-has : goal.loop-self-preserved-then-has
loop-self-preserved-then-has c =
    let s = c.loop-self.self in
    let t = c.pass_equal.new.self in
    let so_far = c.loop-self.invariant in
    let passed = c.pass_equal.ensures.passed in
    let weight : to_z w32 (of_z w32 s.weight) ≡ s.weight = omega (arith, ints) in
    let first : to_z w32 (of_z w32 c.min-first.result) ≡ int_min (to_z w32 c.loop-self.first-bits) s.x = omega (arith, ints, rw (column_fits s) at c.min-first.ensures.value) in
    let last : to_z w32 (of_z w32 (to_z w32 (of_z w32 t.x) -ℤ pos 1)) ≡ t.x -ℤ pos 1 = omega (arith, ints, t.reading.left, t.reading.right) in
    record {
      columns = rw (first, last) (columns_grown c.args.pixels _ _ _ so_far.passed passed _ _ so_far.columns (sym (rw weight at c.has.ensures) ∙ c.if-has.true)
          (c.pass_equal.ensures.further (omega (arith, ints))));
      passed = more_pixels _ _ _ so_far.passed passed;
    }
