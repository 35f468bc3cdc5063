use Rattle.std.proofs.Common.{◌≡◌, ℤ, FitsSigned, to_z, of_z, w32, rules, arith}
use Rattle.std.specs.Int.{int_max, int_min}
use Rattle.std.proofs.lemmas.Int.{ints, clamps}
use Rattle.mf_gf.proofs.boxes.CharacterBox.widen.Goals as goal

least : (a b z : ℤ) → FitsSigned w32 a → FitsSigned w32 b → z ≡ int_min (to_z w32 (of_z w32 a)) (to_z w32 (of_z w32 b)) → to_z w32 (of_z w32 z) ≡ int_min a b
least a b z fits_a fits_b is = omega (arith, ints, clamps)

greatest : (a b z : ℤ) → FitsSigned w32 a → FitsSigned w32 b → z ≡ int_max (to_z w32 (of_z w32 a)) (to_z w32 (of_z w32 b)) → to_z w32 (of_z w32 z) ≡ int_max a b
greatest a b z fits_a fits_b is = omega (arith, ints, clamps)

pub returns-in-Some : goal.returns-in-Some
returns-in-Some c =
    let a = c.in-Some.before in
    let b = c.args.other in
    let left = least a.min_m b.min_m c.min.result (search rules) (search rules) c.min.ensures.value in
    let right = greatest a.max_m b.max_m c.max.result (search rules) (search rules) c.max.ensures.value in
    let bottom = least a.min_n b.min_n c.min-in-Some.result (search rules) (search rules) c.min-in-Some.ensures.value in
    let top = greatest a.max_n b.max_n c.max-in-Some.result (search rules) (search rules) c.max-in-Some.ensures.value in
    rw c.in-Some.is (λ i. record { min_m = left i; max_m = right i; min_n = bottom i; max_n = top i })
