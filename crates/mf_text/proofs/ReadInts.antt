-- The ints of numbers, and the codes of ints.
use Rattle.std.proofs.Common.{◌≡◌, ℕ, Bool, true, false, Some, None, nat_lt, refl, ap, sym}
use Rattle.std.proofs.Math.Bool.{Bool-set}
use Rattle.std.proofs.lemmas.Bool.{false≢true}
use Rattle.std.proofs.lemmas.Option.{none-some, same_Some}
use Rattle.mf_text.specs.Grammar.{Code, Int}
use Rattle.mf_text.specs.Rests.{code_of}
use Rattle.mf_text.specs.Limits.{number_bound}
use Rattle.mf_text.specs.Ints.{int_of, is_code, where_true}

pub where_some : {A : Type 0} (b : Bool) (make : b ≡ true → A) (is : b ≡ true) → where_true b make ≡ Some (make is)
where_some true make is = ap (λ so. Some (make so)) (Bool-set true true refl is)
where_some false make is = absurd (false≢true is)

pub where_none : {A : Type 0} (b : Bool) (make : b ≡ true → A) → b ≡ false → where_true b make ≡ None
where_none true make is = absurd (false≢true (sym is))
where_none false make is = refl

where_made : {A : Type 0} (b : Bool) (make : b ≡ true → A) (a : A) → where_true b make ≡ Some a → (is : b ≡ true) × (a ≡ make is)
where_made true make a is = (refl, sym (same_Some (make refl) a is))
where_made false make a is = absurd (none-some a is)

pub short_int : (negative : Bool) (m : ℕ) (short : nat_lt m number_bound ≡ true)
    → int_of negative m ≡ Some (record { negative = negative; magnitude = m; short = short })
unfolding int_of
short_int negative m short = where_some _ _ short

pub int_of-is : (negative : Bool) (m : ℕ) (n : Int) → int_of negative m ≡ Some n → (n.negative ≡ negative) × (n.magnitude ≡ m)
unfolding int_of
int_of-is negative m n is = let made = where_made _ _ n is in (ap (λ (i : Int). i.negative) made.1, ap (λ (i : Int). i.magnitude) made.1)

pub some_code : (n : Int) (is : is_code n ≡ true) → code_of n ≡ Some (record { int = n; is_code = is })
unfolding code_of
some_code n is = where_some _ _ is

pub code_of-is : (n : Int) (code : Code) → code_of n ≡ Some code → code.int ≡ n
unfolding code_of
code_of-is n code is = ap (λ (c : Code). c.int) (where_made _ _ code is).1
