use Rattle.std.proofs.Common.{◌≡◌, pos, ◌+ℤ◌, ◌-ℤ◌, neg_ℤ, to_z, of_z, w32, refl, arith}
use Rattle.std.proofs.lemmas.Int.{ints}
use Rattle.mf_rows.specs.Corners.{corners_of}
use Rattle.mf_rows.proofs.builder.corners_of.Goals as goal

pub returns : goal.returns
unfolding corners_of
returns c =
    let r = c.args.run.now in
    let start : to_z w32 (of_z w32 r.x) ≡ r.x = omega (arith, ints) in
    let end : to_z w32 (of_z w32 (r.x +ℤ to_z w32 r.len)) ≡ r.x +ℤ pos r.len = omega (arith, ints) in
    let bottom : to_z w32 (of_z w32 r.y) ≡ r.y = omega (arith, ints) in
    let top : to_z w32 (of_z w32 (r.y +ℤ pos 1)) ≡ r.y +ℤ pos 1 = omega (arith, ints) in
    let weight : to_z w32 (of_z w32 r.weight) ≡ r.weight = omega (arith, ints) in
    let negated : to_z w32 (of_z w32 (pos 0 -ℤ r.weight)) ≡ neg_ℤ r.weight = omega (arith, ints) in
    rw (start, bottom, weight, end, top, negated) refl
