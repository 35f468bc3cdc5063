-- The total weight of a picture is the sum of its weights over the field.
use Rattle.std.proofs.Common.{◌≡◌, ℕ, zero, suc, ◌+◌, ℤ, pos, ◌+ℤ◌, ◌-ℤ◌, List, [], ◌∷◌, ◌++◌, refl, ap, ◌∙◌, arith}
use Rattle.std.proofs.lemmas.Bool.{cond_both}
use Rattle.std.proofs.lemmas.Bool.Decides.{Decides-int_eq}
use Rattle.std.proofs.lemmas.Int.{ints}
use Rattle.mf_geom.specs.Coordinates.{least_coordinate, field_size}
use Rattle.mf_geom.specs.Field.{sum_over_field}
use Rattle.mf_geom.specs.Sum.{sum_below}
use Rattle.mf_geom.proofs.Sums.{sum_below-next}
use Rattle.mf_rows.specs.Dots.{Dot, IsPicture, weight_at, total_of}
use Rattle.mf_rows.specs.Weights.{row_of, rows_of, picture_of}
use Rattle.mf_rows.proofs.WeightsLemmas.{picture_of-from_weights}

total_of-append : (ds es : List Dot) → total_of (ds ++ es) ≡ total_of ds +ℤ total_of es
unfolding total_of
total_of-append [] es = omega (arith, ints)
total_of-append (d ∷ ds) es = omega (arith, ints, total_of-append ds es)

-- a pixel of weight 0 has no dot and adds nothing
total_of-row : (f : ℤ → ℤ → ℤ) (y x : ℤ) (n : ℕ) → total_of (row_of f y x n) ≡ sum_below n (λ i. f (x +ℤ pos i) y)
unfolding row_of total_of sum_below
total_of-row f y x zero = refl
total_of-row f y x (suc n) =
    let first : Dot = record { y = y; x = x; weight = f x y } in
    let others = row_of f y (x +ℤ pos 1) n in
    let terms = λ (i : ℕ). f (x +ℤ pos i) y in
    let column : (i : ℕ) → (x +ℤ pos 1) +ℤ pos i ≡ x +ℤ pos (i + 1) = λ i. omega (arith, ints) in
    let start : x +ℤ pos 0 ≡ x = omega (arith, ints) in
    let after : total_of others ≡ sum_below n (λ i. terms (i + 1)) = total_of-row f y (x +ℤ pos 1) n ∙ (λ t. sum_below n (λ i. f (column i t) y)) in
    let whole : f x y +ℤ total_of others ≡ sum_below (suc n) terms = omega (arith, ints, ap (λ x. f x y) start, sum_below-next n terms) in
    grind (arith, ints, cond_both, Decides-int_eq)

-- n rows, from the top down to the one above `bottom`, add up like the same rows from the lowest up
total_of-rows : (f : ℤ → ℤ → ℤ) (bottom : ℤ) (n : ℕ)
    → total_of (rows_of f (bottom +ℤ pos n) n) ≡ sum_below n (λ j. total_of (row_of f (bottom +ℤ pos (suc j)) least_coordinate field_size))
unfolding rows_of total_of sum_below
total_of-rows f bottom zero = refl
total_of-rows f bottom (suc n) =
    let top = row_of f (bottom +ℤ pos (suc n)) least_coordinate field_size in
    let next : (bottom +ℤ pos (suc n)) -ℤ pos 1 ≡ bottom +ℤ pos n = omega (arith, ints) in
    let others : total_of (rows_of f ((bottom +ℤ pos (suc n)) -ℤ pos 1) n) ≡ sum_below n
    (λ j. total_of (row_of f (bottom +ℤ pos (suc j)) least_coordinate field_size)) = (λ t. total_of (rows_of f (next t) n)) ∙ total_of-rows f bottom n in
    total_of-append top (rows_of f ((bottom +ℤ pos (suc n)) -ℤ pos 1) n) ∙ omega (arith, ints, others)

pub total_of-picture_of : (f : ℤ → ℤ → ℤ) → total_of (picture_of f) ≡ sum_over_field f
unfolding picture_of sum_over_field
total_of-picture_of f =
    let height : (j : ℕ) → least_coordinate -ℤ pos 1 +ℤ pos (suc j) ≡ least_coordinate +ℤ pos j = λ j. omega (arith, ints) in
    total_of-rows f (least_coordinate -ℤ pos 1) field_size
    ∙ (λ t. sum_below field_size (λ j. (total_of-row f (least_coordinate -ℤ pos 1 +ℤ pos (suc j)) least_coordinate field_size ∙
    ap (λ y. sum_below field_size (λ i. f (least_coordinate +ℤ pos i) y)) (height j)) t))

-- a picture is the picture of its own weights
pub total_of-picture : (ds : List Dot) → IsPicture ds → total_of ds ≡ sum_over_field (weight_at ds)
total_of-picture ds picture =
    ap total_of (picture_of-from_weights ds (weight_at ds) picture (λ x y inside. refl)) ∙ total_of-picture_of (weight_at ds)

-- what `total_is_the_sum_over_the_field` says
pub ruleset field_totals = (total_of-picture_of, total_of-picture)
