use Rattle.std.proofs.Common.{◌≡◌, to_z, of_z, to_z-of_z, w32, arith}
use Rattle.std.proofs.lemmas.Int.{ints}
use Rattle.mf_rows.proofs.PassedPixels.{entered}
use Rattle.mf_rows.proofs.walk.Walk.enter_row.Goals as goal

pub invariant_of-self : goal.invariant_of-self
invariant_of-self c =
    let enter = c.enter-self in
    let bottom : to_z w32 (of_z w32 enter.result) ≡ enter.result = omega (arith, ints) in
    let y = to_z-of_z c.ranges.y in
    let entered_at = rw y at enter.ensures in
    record {
      reading = rw (enter.ensures.same, bottom, y) (entered c.args.self.now.edges _ _ _ (omega (arith, ints, c.requires.greatest)) entered_at.row entered_at.rows);
    }
