-- Products of integers. An integer a is read as `up a - down a`, where one of the two naturals is 0.
use Rattle.std.proofs.Common.{◌≡◌, ℕ, ◌*◌, ◌<◌, ℤ, pos, ◌+ℤ◌, ◌-ℤ◌, ◌*ℤ◌, neg_ℤ, int_div, arith, ap, sym, ◌∙◌}
use Rattle.std.proofs.lemmas.Int.{ints}
use borrow.Author.Differences.{up, down, same_in, sum_is_lem, product_is, quot_is}
use lib.IntN.{*ℤ_comm}
use native.Mathlib.Nat.{mul-div_cancel_left}

-- from the equation between b + c and its parts, times each part of a
pub mul-add : (a b c : ℤ) → a *ℤ (b +ℤ c) ≡ a *ℤ b +ℤ a *ℤ c
mul-add a b c =
    let parts = sum_is_lem b c in
    let times_up = ap (λ n. up a * n) parts in
    let times_down = ap (λ n. down a * n) parts in
    omega (arith, ints)

pub mul-sub : (a b c : ℤ) → a *ℤ (b -ℤ c) ≡ a *ℤ b -ℤ a *ℤ c
mul-sub a b c =
    let negative : a *ℤ neg_ℤ c ≡ neg_ℤ (a *ℤ c) = grind (arith, ints) in
    mul-add a b (neg_ℤ c) ∙ ap (λ s. a *ℤ b +ℤ s) negative

pub mul-self : (a b : ℤ) → a *ℤ (b -ℤ b) ≡ pos 0
mul-self a b = mul-sub a b b ∙ omega (arith, ints)

pub sub-mul : (a b c : ℤ) → (a -ℤ b) *ℤ c ≡ a *ℤ c -ℤ b *ℤ c
sub-mul a b c = *ℤ_comm (a -ℤ b) c ∙ mul-sub c a b ∙ (λ t. *ℤ_comm c a t -ℤ *ℤ_comm c b t)

pub int_div-mul : (n : ℕ) (a : ℤ) → 0 < n → int_div (pos n *ℤ a) (pos n) ≡ a
int_div-mul n a positive = grind (arith, ints, product_is, quot_is, mul-div_cancel_left, same_in, sym)
