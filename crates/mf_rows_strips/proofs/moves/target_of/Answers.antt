use Rattle.std.proofs.Common.{◌≡◌, ◌≤◌, ◌*◌, ◌*ℤ◌, mul-le-mul, unsigned_abs, to_z, of_z, w64, arith}
use Rattle.std.proofs.lemmas.Int.{ints, unsigned_abs-mul}
use Rattle.mf_rows_strips.proofs.moves.target_of.Goals as goal

-- the product of an i16 and an i32 is far within the range of an i64
small : (c : goal.After-from-3) → unsigned_abs (c.args.point *ℤ c.args.stretch.now.factor) ≤ 32768 * 2147483648
small c =
    let point : unsigned_abs c.args.point ≤ 32768 = omega (arith, ints) in
    let factor : unsigned_abs c.args.stretch.now.factor ≤ 2147483648 = omega (arith, ints) in
    omega (arith, unsigned_abs-mul c.args.point c.args.stretch.now.factor, mul-le-mul point factor)

pub overflow_add-result : goal.overflow_add-result
overflow_add-result c =
    let point : to_z w64 (of_z w64 c.from.result) ≡ c.args.point = omega (arith, ints) in
    let factor : to_z w64 (of_z w64 c.from-2.result) ≡ c.args.stretch.now.factor = omega (arith, ints) in
    rw (point, factor) (omega (arith, ints, small c))

pub returns : goal.returns
returns c =
    let point : to_z w64 (of_z w64 c.from.result) ≡ c.args.point = omega (arith, ints) in
    let factor : to_z w64 (of_z w64 c.from-2.result) ≡ c.args.stretch.now.factor = omega (arith, ints) in
    rw (point, factor) (omega (arith, ints, small c))
