-- Places in reading order.
use Rattle.std.proofs.Common.{◌≡◌, ◌≢◌, ℕ, suc, ℤ, pos, ◌+ℤ◌, ◌-ℤ◌, ◌≤ℤ◌, arith}
use Rattle.std.proofs.lemmas.Int.{ints, by_lt_z}
use Rattle.mf_geom.specs.Coordinates.{least_coordinate, greatest_coordinate, last_in_field}
use Rattle.mf_geom.specs.Field.{IsInField}
use Rattle.mf_rows.specs.Dots.{place, start_of_field}

-- two numbers are equal or not
pub by_same : {P : Type 0} (c y : ℤ) → (c ≡ y → P) → (c ≢ y → P) → P
by_same c y here elsewhere =
    by_lt_z c y (λ lower. elsewhere (λ is. omega (arith, ints)))
    (λ not_lower. by_lt_z y c (λ higher. elsewhere (λ is. omega (arith, ints))) (λ not_higher. here (omega (arith, ints))))

-- the next column is at the next place
pub place-next : (x y : ℤ) → place (x +ℤ pos 1) y ≡ place x y +ℤ pos 1
unfolding place
place-next x y = omega (arith, ints)

-- after the last column of a row comes the first of the row below
pub place-below : (y : ℤ) → place greatest_coordinate y ≡ place least_coordinate (y -ℤ pos 1)
unfolding place
place-below y = omega (arith, ints)

-- a place belongs to one pixel of the field
pub same_place : (x y u v : ℤ) → IsInField x y → IsInField u v → place x y ≡ place u v → (x ≡ u) × (y ≡ v)
unfolding place
same_place x y u v here there same =
    let row : y ≡ v = omega (arith, ints) in
    (omega (arith, ints), row)

-- the field's places begin at the first one
pub start_of_field-le : (x y : ℤ) → IsInField x y → start_of_field ≤ℤ place x y
unfolding place start_of_field
start_of_field-le x y inside = omega (arith, ints)

-- the n columns from x on lie in the field, in row y
pub record AreFieldColumns (x y : ℤ) (n : ℕ) : Type 0 where
  pub left : least_coordinate ≤ℤ x
  pub right : (x +ℤ pos n) ≤ℤ greatest_coordinate
  pub bottom : least_coordinate ≤ℤ y
  pub top : y ≤ℤ last_in_field

pub first_column : (x y : ℤ) (n : ℕ) → AreFieldColumns x y (suc n) → IsInField x y
first_column x y n columns = record { left = columns.left; right = omega (arith, ints, columns.right); bottom = columns.bottom; top = columns.top }

pub next_columns : (x y : ℤ) (n : ℕ) → AreFieldColumns x y (suc n) → AreFieldColumns (x +ℤ pos 1) y n
next_columns x y n columns = grind (arith, ints)
