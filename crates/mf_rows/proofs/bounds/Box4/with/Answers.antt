use Rattle.std.proofs.Common.{◌≡◌, ℤ, to_z, of_z, w32, refl, ◌∙◌, arith}
use Rattle.std.specs.Int.{int_max, int_min}
use Rattle.std.proofs.lemmas.Int.{ints}
use Rattle.mf_rows.specs.declared.bounds.Box4.{Box4}
use Rattle.mf_rows.proofs.BoxesJoined.{either_min, either_max}
use Rattle.mf_rows.proofs.bounds.Box4.with.Goals as goal

abbrev Passes : ℤ → Type 0
Passes z = to_z w32 (of_z w32 z) ≡ z

min_is : (r a b : ℤ) → r ≡ int_min (to_z w32 (of_z w32 a)) (to_z w32 (of_z w32 b)) → Passes a → Passes b → to_z w32 (of_z w32 r) ≡ int_min a b
min_is r a b value at_a at_b = let least : r ≡ int_min a b = value ∙ rw (at_a, at_b) refl in rw least (either_min Passes a b at_a at_b)

max_is : (r a b : ℤ) → r ≡ int_max (to_z w32 (of_z w32 a)) (to_z w32 (of_z w32 b)) → Passes a → Passes b → to_z w32 (of_z w32 r) ≡ int_max a b
max_is r a b value at_a at_b = let greatest : r ≡ int_max a b = value ∙ rw (at_a, at_b) refl in rw greatest (either_max Passes a b at_a at_b)

same_box : (a b : Box4) → a.min_x ≡ b.min_x → a.max_x ≡ b.max_x → a.min_y ≡ b.min_y → a.max_y ≡ b.max_y → a ≡ b
same_box a b left right bottom top = λ i. record { min_x = left i; max_x = right i; min_y = bottom i; max_y = top i }

pub returns-in-Some : goal.returns-in-Some
returns-in-Some c =
    let a = c.in-Some.other in
    let b = c.args.self in
    rw c.in-Some.is
    (same_box _ _
    (min_is _ a.min_x b.min_x c.min.ensures.value (omega (arith, ints)) (omega (arith, ints)))
    (max_is _ a.max_x b.max_x c.max.ensures.value (omega (arith, ints)) (omega (arith, ints)))
    (min_is _ a.min_y b.min_y c.min-in-Some.ensures.value (omega (arith, ints)) (omega (arith, ints)))
    (max_is _ a.max_y b.max_y c.max-in-Some.ensures.value (omega (arith, ints)) (omega (arith, ints))))
