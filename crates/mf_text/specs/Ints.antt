-- The values of ints and pairs, as a line writes them.
use Rattle.std.specs.Prelude.{◌≡◌, ◌&&◌, int_le, nat_lt, true, false, refl, Bool, ℕ, Option, Some, None, ℤ, pos, neg_ℤ, if◌then◌else◌}
use Rattle.mf_geom.specs.declared.point.Point.{Point}
use Rattle.mf_text.specs.declared.int.Int.{Int}
use Rattle.mf_text.specs.declared.pair.Pair.{Pair}
use Rattle.mf_text.specs.Limits.{greatest_code, number_bound}

-- the value of an int
abbrev pub int_value : Int → ℤ
int_value n = if n.negative then neg_ℤ (pos n.magnitude) else pos n.magnitude

-- the point that a pair names
abbrev pub pair_value : Pair → Point
pair_value p = record { x = int_value p.across; y = int_value p.up }

-- the int is in 0..255
abbrev pub is_code : Int → Bool
is_code n = int_le (pos 0) (int_value n) && int_le (int_value n) (pos greatest_code)

-- what can be made where this is true
abbrev pub where_true : {A : Type 0} → (b : Bool) → (b ≡ true → A) → Option A
where_true true make = Some (make refl)
where_true false make = None

-- the int of a number, with `-` before it or not, if the number has at most nine digits
unfoldable pub int_of : Bool → ℕ → Option Int
int_of negative n = where_true (nat_lt n number_bound) (λ short. record { negative = negative; magnitude = n; short = short })
