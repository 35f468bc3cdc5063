-- Boxes that fit into one-byte fields.
use Rattle.std.proofs.Common.{◌≡◌, ◌&&◌, Bool, true, false, ℤ, pos, negsuc, ◌-ℤ◌, ◌≤ℤ◌, nat_abs, Fits, w8, arith}
use Rattle.std.specs.Prelude.{T}
use lib.Signed.{non_neg}
use Rattle.std.proofs.lemmas.Bool.{and_parts}
use Rattle.std.proofs.lemmas.Int.{ints}
use Rattle.mf_gf.specs.declared.boxes.CharacterBox.{CharacterBox}
use Rattle.mf_gf.specs.Numbers.{greatest_byte}
use Rattle.mf_gf.specs.Spelling.{is_short}

-- what the tests `is_byte` and `is_short` find, as the bounds that a proof by `omega` takes
pub record IsByte (z : ℤ) : Type 0 where
  pub least : pos 0 ≤ℤ z
  pub greatest : z ≤ℤ pos greatest_byte

pub record IsShortBox (b : CharacterBox) : Type 0 where
  pub width : IsByte (b.max_m -ℤ b.min_m)
  pub right : IsByte b.max_m
  pub height : IsByte (b.max_n -ℤ b.min_n)
  pub top : IsByte b.max_n

pub short_box : (b : CharacterBox) → is_short b ≡ true → IsShortBox b
short_box b test = grind (arith, ints, and_parts)

-- the value of `x && y`, where y is evaluated only if x is true
pub and_then : {x y a b : Bool} → x ≡ true → x ≡ a → y ≡ b → y ≡ (a && b)
and_then {x} {y} {a = true} {b} holds x_is y_is = y_is
and_then {x} {y} {a = false} {b} holds x_is y_is = cc

pub and_else : (x a b : Bool) → x ≡ false → x ≡ a → x ≡ (a && b)
and_else x true b fails x_is = cc
and_else x false b fails x_is = x_is

-- such a number may be cast to one byte
pub byte_fits : (y z : ℤ) → y ≡ z → IsByte z → T (non_neg y) × Fits w8 (nat_abs y)
byte_fits (pos n) z is byte = (tt, omega (arith, ints, is, byte))
byte_fits (negsuc n) z is byte = absurd (omega (arith, ints, is, byte))
