use Rattle.std.proofs.Common.{◌≡◌, to_z, of_z, w32, arith}
use Rattle.std.proofs.lemmas.Int.{ints}
use Rattle.mf_rows.proofs.BoxesPassed.{in_field, same_rows, blank_rows, more_rows}
use Rattle.mf_rows.proofs.PassedPixels.{bottom_fits, row_fits}
use Rattle.mf_rows.proofs.walk.Walk.widen.Goals as goal

pub returns-then-first-ge-FIELD_END-clause-bounds : goal.returns-then-first-ge-FIELD_END-clause-bounds
returns-then-first-ge-FIELD_END-clause-bounds c =
    let s = c.args.self.now in
    blank_rows _ (in_field c.args.pixels s) s.bottom s.y _ _ s.reading.rows.order (same_rows c.args.pixels s) c.columns-first.ensures.columns
    (omega (arith, ints, c.if-first-ge-FIELD_END.true)) _ c.requires.bounds

pub returns-clause-bounds : goal.returns-clause-bounds
returns-clause-bounds c =
    let s = c.args.self.now in
    let t = c.columns-first.new.self in
    let columns = c.columns-first.result in
    let passed = c.columns-first.ensures.passed in
    let first : to_z w32 (of_z w32 columns.0) ≡ columns.0 = omega (arith, ints, c.columns-first.type_inv) in
    let last : to_z w32 (of_z w32 columns.1) ≡ columns.1 = omega (arith, ints, c.columns-first.type_inv) in
    rw (c.with.ensures, first, last, bottom_fits t, row_fits t, passed.bottom, passed.row)
    (more_rows _ (in_field c.args.pixels s) s.bottom s.y _ _ s.reading.rows.order (same_rows c.args.pixels s) c.columns-first.ensures.columns
    (omega (arith, ints, c.if-first-ge-FIELD_END.false)) _ c.requires.bounds)
