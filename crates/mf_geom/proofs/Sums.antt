-- Laws of sums of integers.
use Rattle.std.proofs.Common.{◌≡◌, ℕ, zero, suc, ◌+◌, ◌<◌, ℤ, pos, ◌+ℤ◌, ◌-ℤ◌, ◌*ℤ◌, List, length, refl, sym, ◌∙◌, ap, arith}
use lib.IntN.{+ℤ_idr, *ℤ_comm}
use Rattle.std.proofs.lemmas.Int.{ints}
use Rattle.std.proofs.lemmas.Bool.Decides.{nat_tests}
use Rattle.mf_geom.specs.Coordinates.{least_coordinate, field_size}
use Rattle.mf_geom.specs.declared.point.Point.{Point}
use Rattle.mf_geom.specs.Path.{next_place}
use Rattle.mf_geom.specs.Field.{sum_over_field}
use Rattle.mf_geom.specs.Sum.{sum_below}
use Rattle.mf_geom.proofs.Products.{mul-add}

pub sum_below-same : (n : ℕ) (f g : ℕ → ℤ) → ((i : ℕ) → i < n → f i ≡ g i) → sum_below n f ≡ sum_below n g
unfolding sum_below
sum_below-same zero f g same = refl
sum_below-same (suc n) f g same = λ t. sum_below-same n f g (λ i below. same i (omega arith)) t +ℤ same n (omega arith) t

pub sum_below-zero : (n : ℕ) → sum_below n (λ i. pos 0) ≡ pos 0
unfolding sum_below
sum_below-zero zero = refl
sum_below-zero (suc n) = ap (λ s. s +ℤ pos 0) (sum_below-zero n)

pub sum_below-add : (n : ℕ) (f g : ℕ → ℤ) → sum_below n (λ i. f i +ℤ g i) ≡ sum_below n f +ℤ sum_below n g
unfolding sum_below
sum_below-add zero f g = refl
sum_below-add (suc n) f g = let before = sum_below-add n f g in omega (arith, ints)

pub sum_below-sub : (n : ℕ) (f g : ℕ → ℤ) → sum_below n (λ i. f i -ℤ g i) ≡ sum_below n f -ℤ sum_below n g
unfolding sum_below
sum_below-sub zero f g = refl
sum_below-sub (suc n) f g = let before = sum_below-sub n f g in omega (arith, ints)

pub sum_below-mul : (n : ℕ) (a : ℤ) (f : ℕ → ℤ) → sum_below n (λ i. a *ℤ f i) ≡ a *ℤ sum_below n f
unfolding sum_below
sum_below-mul zero a f = omega (arith, ints)
sum_below-mul (suc n) a f = ap (λ s. s +ℤ a *ℤ f n) (sum_below-mul n a f) ∙ sym (mul-add a (sum_below n f) (f n))

-- two sums may be exchanged
pub sum_below-swap : (m n : ℕ) (f : ℕ → ℕ → ℤ) → sum_below m (λ j. sum_below n (λ i. f j i)) ≡ sum_below n (λ i. sum_below m (λ j. f j i))
unfolding sum_below
sum_below-swap zero n f = sym (sum_below-zero n)
sum_below-swap (suc m) n f =
    ap (λ s. s +ℤ sum_below n (f m)) (sum_below-swap m n f)
    ∙ sym (sum_below-add n (λ i. sum_below m (λ j. f j i)) (f m))

-- moved on by one, a sum loses its first term and gains a new last one
pub sum_below-next : (n : ℕ) (f : ℕ → ℤ) → sum_below n (λ i. f (i + 1)) +ℤ f 0 ≡ sum_below n f +ℤ f n
unfolding sum_below
sum_below-next zero f = refl
sum_below-next (suc n) f =
    let before = sum_below-next n f in
    let last : f (n + 1) ≡ f (suc n) = ap f (omega arith) in
    omega (arith, ints)

pub next_place-below : (ps : List Point) (i : ℕ) → i < length ps → next_place ps i < length ps
unfolding next_place
next_place-below ps i below = grind (arith, nat_tests)

-- a function that takes each place to the next, and the last to the first, only reorders the sum
sum_below-round : (n : ℕ) (next : ℕ → ℕ) (f : ℕ → ℤ) → ((i : ℕ) → i + 1 < n → next i ≡ i + 1)
    → ((i : ℕ) → i + 1 ≡ n → next i ≡ 0) → sum_below n (λ i. f (next i)) ≡ sum_below n f
unfolding sum_below
sum_below-round zero next f inner last = refl
sum_below-round (suc n) next f inner last =
    (λ t. sum_below-same n (λ i. f (next i)) (λ i. f (i + 1)) (λ i below. ap f (inner i (omega arith))) t +ℤ f (last n (omega arith) t))
    ∙ sum_below-next n f

-- round a cycle, the sum over the next places is the sum over the places
pub sum_below-next_place : (ps : List Point) (f : ℕ → ℤ) → sum_below (length ps) (λ i. f (next_place ps i)) ≡ sum_below (length ps) f
unfolding next_place
sum_below-next_place ps f = sum_below-round (length ps) (next_place ps) f (λ i inner. grind (arith, nat_tests)) (λ i last. grind (arith, nat_tests))

-- so the differences from each place to the next add up to 0
pub sum_below-differences : (ps : List Point) (f : ℕ → ℤ) → sum_below (length ps) (λ i. f (next_place ps i) -ℤ f i) ≡ pos 0
sum_below-differences ps f =
    let same = sum_below-next_place ps f in
    sum_below-sub (length ps) (λ i. f (next_place ps i)) f ∙ omega (arith, ints)

-- round a cycle, a sum of multiples stays the same when differences from each place to the next are added to its terms
pub sum_below-mul_and_differences : (ps : List Point) (a : ℤ) (f g h : ℕ → ℤ)
    → ((i : ℕ) → i < length ps → f i ≡ a *ℤ g i +ℤ (h (next_place ps i) -ℤ h i)) → sum_below (length ps) f ≡ a *ℤ sum_below (length ps) g
sum_below-mul_and_differences ps a f g h parts =
    let multiples : ℕ → ℤ = λ i. a *ℤ g i in
    let differences : ℕ → ℤ = λ i. h (next_place ps i) -ℤ h i in
    sum_below-same (length ps) f (λ i. multiples i +ℤ differences i) parts
    ∙ sum_below-add (length ps) multiples differences
    ∙ (λ t. sum_below-mul (length ps) a g t +ℤ sum_below-differences ps h t)
    ∙ +ℤ_idr (a *ℤ sum_below (length ps) g)

sum_below-mul_right : (n : ℕ) (f : ℕ → ℤ) (a : ℤ) → sum_below n (λ i. f i *ℤ a) ≡ sum_below n f *ℤ a
sum_below-mul_right n f a =
    (λ t. sum_below n (λ i. *ℤ_comm (f i) a t)) ∙ sum_below-mul n a f ∙ *ℤ_comm a (sum_below n f)

pub sum_over_field-mul : (a : ℤ) (f : ℤ → ℤ → ℤ) → sum_over_field (λ x y. a *ℤ f x y) ≡ a *ℤ sum_over_field f
unfolding sum_over_field
sum_over_field-mul a f =
    let at : ℕ → ℕ → ℤ = λ j i. f (least_coordinate +ℤ pos i) (least_coordinate +ℤ pos j) in
    (λ t. sum_below field_size (λ j. sum_below-mul field_size a (at j) t)) ∙ sum_below-mul field_size a (λ j. sum_below field_size (at j))

-- the sum of products of a factor for the column and one for the row is the product of two sums
pub sum_over_field-product : (f g : ℤ → ℤ) → sum_over_field (λ x y. f x *ℤ g y)
    ≡ sum_below field_size (λ i. f (least_coordinate +ℤ pos i)) *ℤ sum_below field_size (λ j. g (least_coordinate +ℤ pos j))
unfolding sum_over_field
sum_over_field-product f g =
    let column : ℕ → ℤ = λ i. f (least_coordinate +ℤ pos i) in
    let row : ℕ → ℤ = λ j. g (least_coordinate +ℤ pos j) in
    (λ t. sum_below field_size (λ j. sum_below-mul_right field_size column (row j) t))
    ∙ sum_below-mul field_size (sum_below field_size column) row

-- the sum over the field of sums is the sum of the sums over the field
pub sum_over_field-sum : (n : ℕ) (f : ℤ → ℤ → ℕ → ℤ) → sum_over_field (λ x y. sum_below n (f x y)) ≡ sum_below n (λ k. sum_over_field (λ x y. f x y k))
unfolding sum_over_field
sum_over_field-sum n f =
    let at : ℕ → ℕ → ℕ → ℤ = λ j i k. f (least_coordinate +ℤ pos i) (least_coordinate +ℤ pos j) k in
    (λ t. sum_below field_size (λ j. sum_below-swap field_size n (at j) t))
    ∙ sum_below-swap field_size n (λ j k. sum_below field_size (λ i. at j i k))
