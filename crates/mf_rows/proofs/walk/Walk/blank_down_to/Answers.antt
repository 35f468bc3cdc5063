use Rattle.std.proofs.Common.{◌∙◌, arith}
use Rattle.std.proofs.lemmas.Int.{ints}
use Rattle.mf_rows.proofs.PassedPixels.{bottom_fits}
use Rattle.mf_rows.proofs.walk.Walk.blank_down_to.Goals as goal

pub returns-then-start-lt-FIELD_START : goal.returns-then-start-lt-FIELD_START
returns-then-start-lt-FIELD_START c =
    let s = c.args.self.now in
    let rows = s.reading.rows in
    rw (bottom_fits s) (record {
      low = rows.low;
      order = rows.order;
      blank = λ z v left right low below. rows.same z v low (omega (arith, ints)) ∙ c.requires z (omega (arith, ints, c.if-start-lt-FIELD_START.true, left)) right;
    })
