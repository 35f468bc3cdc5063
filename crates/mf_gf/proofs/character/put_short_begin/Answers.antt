use Rattle.std.proofs.Common.{◌≡◌, ◌-ℤ◌, to_z, of_z, w32, refl, arith}
use Rattle.std.proofs.lemmas.Int.{ints}
use Rattle.mf_gf.specs.Spelling.{short_begin}
use Rattle.mf_gf.proofs.ShortBoxes.{short_box, byte_fits}
use Rattle.mf_gf.proofs.Writing.{write_same}
use Rattle.mf_gf.proofs.character.put_short_begin.Goals as goal

pub overflow_cast-bounds : goal.overflow_cast-bounds
overflow_cast-bounds c = byte_fits _ _ (omega (arith, ints)) (short_box c.args.bounds.now c.requires.short).width

pub overflow_cast-bounds-3 : goal.overflow_cast-bounds-3
overflow_cast-bounds-3 c = byte_fits _ _ (omega (arith, ints)) (short_box c.args.bounds.now c.requires.short).height

pub returns-clause-held : goal.returns-clause-held
returns-clause-held c =
    let b = c.args.bounds.now in
    let width : to_z w32 (of_z w32 (to_z w32 (of_z w32 b.max_m) -ℤ to_z w32 (of_z w32 b.min_m))) ≡ b.max_m -ℤ b.min_m = omega (arith, ints) in
    let right : to_z w32 (of_z w32 b.max_m) ≡ b.max_m = omega (arith, ints) in
    let height : to_z w32 (of_z w32 (to_z w32 (of_z w32 b.max_n) -ℤ to_z w32 (of_z w32 b.min_n))) ≡ b.max_n -ℤ b.min_n = omega (arith, ints) in
    let top : to_z w32 (of_z w32 b.max_n) ≡ b.max_n = omega (arith, ints) in
    write_same (let same : short_begin c.args.code b ≡ short_begin c.args.code b = refl in rw (width, right, height, top) same) c.put.ensures.held
