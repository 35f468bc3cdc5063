use Rattle.std.proofs.Common.{◌≡◌, ◌&&◌, ◌-ℤ◌, to_z, of_z, w32, ◌∙◌, arith}
use Rattle.std.proofs.Math.Bool.{and_assoc}
use Rattle.std.proofs.lemmas.Int.{ints}
use Rattle.mf_gf.specs.Spelling.{is_byte}
use Rattle.mf_gf.proofs.ShortBoxes.{and_then}
use Rattle.mf_gf.proofs.character.is_short.Goals as goal

pub returns-then-is_short_side : goal.returns-then-is_short_side
returns-then-is_short_side c =
    let b = c.args.bounds.now in
    let min_m : to_z w32 (of_z w32 b.min_m) ≡ b.min_m = omega (arith, ints) in
    let max_m : to_z w32 (of_z w32 b.max_m) ≡ b.max_m = omega (arith, ints) in
    let min_n : to_z w32 (of_z w32 b.min_n) ≡ b.min_n = omega (arith, ints) in
    let max_n : to_z w32 (of_z w32 b.max_n) ≡ b.max_n = omega (arith, ints) in
    let columns = rw (max_m, min_m) at c.is_short_side.ensures in
    let rows = rw (max_n, min_n) at c.is_short_side-then-is_short_side.ensures in
    and_then c.if-is_short_side.true columns rows
    ∙ and_assoc (is_byte (b.max_m -ℤ b.min_m)) (is_byte b.max_m) (is_byte (b.max_n -ℤ b.min_n) && is_byte b.max_n)
