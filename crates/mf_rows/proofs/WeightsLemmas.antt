-- Pictures are determined by their weights.
use Rattle.std.proofs.Common.{◌≡◌, ℕ, zero, suc, ℤ, pos, ◌+ℤ◌, ◌-ℤ◌, ◌≤ℤ◌, ◌<ℤ◌, List, [], ◌∷◌, ◌++◌, refl, sym, ◌∙◌, subst, arith}
use Rattle.std.specs.List.{All}
use Rattle.std.specs.Ordering.{int_eq}
use Rattle.std.proofs.lemmas.Bool.{cond_both}
use Rattle.std.proofs.lemmas.Bool.Decides.{Decides-int_eq, not_from_Decides}
use Rattle.std.proofs.lemmas.Int.{ints, by_lt_z}
use Rattle.std.proofs.lemmas.List.Elements.{All-nil, All-cons, All-append, All-head, All-tail}
use Rattle.mf_geom.specs.Coordinates.{least_coordinate, last_in_field, field_size}
use Rattle.mf_geom.specs.Field.{IsInField}
use Rattle.mf_rows_edges.specs.LawfulWeights.{IsLawfulWeight}
use Rattle.mf_rows.specs.Dots.{Dot, IsDot, IsPicture, AreDotsFrom, place, start_of_field, weight_at}
use Rattle.mf_rows.specs.Weights.{row_of, rows_of, picture_of, HaveSameWeights}
use Rattle.mf_rows.proofs.DotsLemmas.{weight_at-here, weight_at-elsewhere, weight_at-before, not_at, dots_from-lower, dots_from-lawful}
use Rattle.mf_rows.proofs.PlacesLemmas.{AreFieldColumns, first_column, next_columns, place-next, place-below, same_place}

-- ---- equal weights make equal dots

same_dot : (d e : Dot) → d.y ≡ e.y → d.x ≡ e.x → d.weight ≡ e.weight → d ≡ e
same_dot d e row column weight = λ i. record { y = row i; x = column i; weight = weight i }

-- a picture lacks a dot's weight where all its dots come later
first_missing : (low : ℤ) (d : Dot) (ds es : List Dot) → AreDotsFrom low (d ∷ ds)
    → AreDotsFrom (place d.x d.y +ℤ pos 1) es → weight_at (d ∷ ds) d.x d.y ≡ weight_at es d.x d.y → ⊥
first_missing low d ds es dots later same = grind (arith, ints, sym, weight_at-here, weight_at-before)

-- after a common first dot the weights are equal, too
same_tails : (d : Dot) (ds es : List Dot) → AreDotsFrom (place d.x d.y +ℤ pos 1) ds
    → AreDotsFrom (place d.x d.y +ℤ pos 1) es → HaveSameWeights (d ∷ ds) (d ∷ es) → HaveSameWeights ds es
same_tails d ds es left right weights = record {
  same = λ x y inside.
      by_lt_z (place x y) (place d.x d.y +ℤ pos 1) (λ before. grind (arith, ints, weight_at-before))
      (λ after. grind (arith, ints, weight_at-elsewhere, not_at, weights.same x y inside));
}

same_from : (low : ℤ) (ds es : List Dot) → AreDotsFrom low ds → AreDotsFrom low es → HaveSameWeights ds es → ds ≡ es
same_from low [] [] left right weights = refl
same_from low [] (e ∷ es) left right weights = absurd (first_missing low e es [] right tt (sym (weights.same e.x e.y right.0.in_field)))
same_from low (d ∷ ds) [] left right weights = absurd (first_missing low d ds [] left tt (weights.same d.x d.y left.0.in_field))
same_from low (d ∷ ds) (e ∷ es) left right weights =
    by_lt_z (place d.x d.y) (place e.x e.y)
    (λ lower. absurd (first_missing low d ds (e ∷ es) left (right.0, omega (arith, ints), right.2) (weights.same d.x d.y left.0.in_field)))
    (λ no_lower. by_lt_z (place e.x e.y) (place d.x d.y)
    (λ higher. absurd (first_missing low e es (d ∷ ds) right (left.0, omega (arith, ints), left.2) (sym (weights.same e.x e.y right.0.in_field))))
    (λ no_higher.
    let here : place d.x d.y ≡ place e.x e.y = omega (arith, ints) in
    let (column, row) = same_place d.x d.y e.x e.y left.0.in_field right.0.in_field here in
    let weight : d.weight ≡ e.weight = grind (arith, ints, weight_at-here, weights.same e.x e.y right.0.in_field) in
    let same = same_dot d e row column weight in
    let others = subst (λ f. AreDotsFrom (place f.x f.y +ℤ pos 1) es) (sym same) right.2 in
    let tails = same_tails d ds es left.2 others (subst (λ f. HaveSameWeights (d ∷ ds) (f ∷ es)) (sym same) weights) in
    let rest = same_from (place d.x d.y +ℤ pos 1) ds es left.2 others tails in
    cc))

-- two pictures with equal weights are equal
pub same_pictures : (ds es : List Dot) → IsPicture ds → IsPicture es → HaveSameWeights ds es → ds ≡ es
same_pictures ds es left right weights = same_from start_of_field ds es left.dots right.dots weights

-- ---- the picture of given weights is lawful

-- the dots of a row may come before dots at later places
row_from : (f : ℤ → ℤ → ℤ) (y x : ℤ) (n : ℕ) (es : List Dot) → AreFieldColumns x y n
    → ((u v : ℤ) → IsInField u v → IsLawfulWeight (f u v)) → AreDotsFrom (place (x +ℤ pos n) y) es → AreDotsFrom (place x y) (row_of f y x n ++ es)
unfolding row_of
row_from f y x zero es columns lawful later = subst (λ u. AreDotsFrom (place u y) es) (omega (arith, ints)) later
row_from f y x (suc n) es columns lawful later =
    let next : x +ℤ pos 1 +ℤ pos n ≡ x +ℤ pos (suc n) = omega (arith, ints) in
    let after = row_from f y (x +ℤ pos 1) n es (next_columns x y n columns) lawful (rw next later) in
    let inside = first_column x y n columns in
    let others = row_of f y (x +ℤ pos 1) n in
    cond_both (int_eq (f x y) (pos 0)) others (record { y = y; x = x; weight = f x y } ∷ others) (λ ds. AreDotsFrom (place x y) (ds ++ es))
    (λ _. dots_from-lower (place x y) (place (x +ℤ pos 1) y) (others ++ es) (omega (arith, ints, place-next x y)) after)
    (λ apart. (record { in_field = inside; lawful = lawful x y inside; nonzero = not_from_Decides _ (Decides-int_eq (f x y) (pos 0)) apart }, omega (arith, ints), rw place-next at after))

rows_from : (f : ℤ → ℤ → ℤ) (y : ℤ) (n : ℕ) → (least_coordinate -ℤ pos 1 +ℤ pos n) ≤ℤ y → y ≤ℤ last_in_field
    → ((u v : ℤ) → IsInField u v → IsLawfulWeight (f u v)) → AreDotsFrom (place least_coordinate y) (rows_of f y n)
unfolding rows_of
rows_from f y zero bottom top lawful = tt
rows_from f y (suc n) bottom top lawful =
    grind (arith, ints, row_from, sym, place-below, rows_from f (y -ℤ pos 1) n (omega (arith, ints)) (omega (arith, ints)) lawful)

pub lawful_picture_of : (f : ℤ → ℤ → ℤ) → ((x y : ℤ) → IsInField x y → IsLawfulWeight (f x y)) → IsPicture (picture_of f)
unfolding picture_of start_of_field
lawful_picture_of f lawful = record { dots = rows_from f last_in_field field_size (omega (arith, ints)) (omega (arith, ints)) lawful }

-- ---- and has these weights

-- a row gives no weight to a pixel outside it
weight_at-off_row : (f : ℤ → ℤ → ℤ) (y x : ℤ) (n : ℕ) (es : List Dot) (u v : ℤ) → (y ≡ v → x ≤ℤ u → ⊥) → weight_at (row_of f y x n ++ es) u v ≡ weight_at es u v
unfolding row_of
weight_at-off_row f y x zero es u v off = refl
weight_at-off_row f y x (suc n) es u v off =
    grind (arith, ints, cond_both, weight_at-elsewhere, weight_at-off_row f y (x +ℤ pos 1) n es u v (λ row left. off row (omega (arith, ints))))

pub weight_at-row : (f : ℤ → ℤ → ℤ) (y x : ℤ) (n : ℕ) (es : List Dot) (u : ℤ) → weight_at es u y ≡ pos 0 → x ≤ℤ u
    → u <ℤ (x +ℤ pos n) → weight_at (row_of f y x n ++ es) u y ≡ f u y
unfolding row_of
weight_at-row f y x zero es u none left right = absurd (omega (arith, ints))
weight_at-row f y x (suc n) es u none left right =
    by_lt_z x u
    (λ later. grind (arith, ints, cond_both, weight_at-elsewhere, weight_at-row f y (x +ℤ pos 1) n es u none (omega (arith, ints)) (omega (arith, ints))))
    (λ here. grind (arith, ints, cond_both, weight_at-here, weight_at-off_row, Decides-int_eq))

-- rows give no weight above the first of them
pub weight_at-above : (f : ℤ → ℤ → ℤ) (y : ℤ) (n : ℕ) (u v : ℤ) → y <ℤ v → weight_at (rows_of f y n) u v ≡ pos 0
unfolding rows_of weight_at
weight_at-above f y zero u v above = refl
weight_at-above f y (suc n) u v above = grind (arith, ints, weight_at-off_row, weight_at-above f (y -ℤ pos 1) n u v (omega (arith, ints)))

weight_at-rows : (f : ℤ → ℤ → ℤ) (y : ℤ) (n : ℕ) (u v : ℤ) → least_coordinate ≤ℤ u → u ≤ℤ last_in_field → v ≤ℤ y
    → y <ℤ (v +ℤ pos n) → weight_at (rows_of f y n) u v ≡ f u v
unfolding rows_of
weight_at-rows f y zero u v left right top bottom = absurd (omega (arith, ints))
weight_at-rows f y (suc n) u v left right top bottom =
    by_lt_z v y
    (λ lower. grind (arith, ints, weight_at-off_row, weight_at-rows f (y -ℤ pos 1) n u v left right (omega (arith, ints)) (omega (arith, ints))))
    (λ here. grind (arith, ints, weight_at-row, weight_at-above))

pub weight_at-picture_of : (f : ℤ → ℤ → ℤ) (x y : ℤ) → IsInField x y → weight_at (picture_of f) x y ≡ f x y
unfolding picture_of
weight_at-picture_of f x y inside = weight_at-rows f last_in_field field_size x y inside.left inside.right inside.top (omega (arith, ints, inside.bottom))

-- ---- a lawful picture with given weights is the picture of these weights

-- its weights are lawful
pub lawful_weight_at : (ds : List Dot) (x y : ℤ) → All IsDot ds → IsLawfulWeight (weight_at ds x y)
unfolding weight_at
lawful_weight_at [] x y dots = record { least = omega (arith, ints); greatest = omega (arith, ints) }
lawful_weight_at (d ∷ ds) x y dots = grind (arith, ints, cond_both, All-head, All-tail, lawful_weight_at ds x y (All-tail IsDot d ds dots))

pub picture_of-from_weights : (ds : List Dot) (f : ℤ → ℤ → ℤ) → IsPicture ds → ((x y : ℤ) → IsInField x y → weight_at ds x y ≡ f x y) → ds ≡ picture_of f
picture_of-from_weights ds f picture weights =
    let lawful : (x y : ℤ) → IsInField x y → IsLawfulWeight (f x y) =
    λ x y inside. subst IsLawfulWeight (weights x y inside) (lawful_weight_at ds x y (dots_from-lawful start_of_field ds picture.dots)) in
    same_pictures ds (picture_of f) picture (lawful_picture_of f lawful)
    (record { same = λ x y inside. weights x y inside ∙ sym (weight_at-picture_of f x y inside) })

-- ---- each dot of the picture of given weights is a pixel of the field with its weight

pub record IsDotOf (f : ℤ → ℤ → ℤ) (d : Dot) : Type 0 where
  pub in_field : IsInField d.x d.y
  pub weight : d.weight ≡ f d.x d.y

row_of-dots : (f : ℤ → ℤ → ℤ) (y x : ℤ) (n : ℕ) → AreFieldColumns x y n → All (IsDotOf f) (row_of f y x n)
unfolding row_of
row_of-dots f y x zero columns = All-nil (IsDotOf f)
row_of-dots f y x (suc n) columns =
    grind (arith, ints, first_column, next_columns, cond_both, All-cons, row_of-dots f y (x +ℤ pos 1) n (next_columns x y n columns))

rows_of-dots : (f : ℤ → ℤ → ℤ) (y : ℤ) (n : ℕ) → (least_coordinate -ℤ pos 1 +ℤ pos n) ≤ℤ y → y ≤ℤ last_in_field → All (IsDotOf f) (rows_of f y n)
unfolding rows_of
rows_of-dots f y zero bottom top = All-nil (IsDotOf f)
rows_of-dots f y (suc n) bottom top =
    All-append (IsDotOf f) (row_of f y least_coordinate field_size) (rows_of f (y -ℤ pos 1) n)
    (row_of-dots f y least_coordinate field_size (record { left = omega (arith, ints); right = omega (arith, ints); bottom = omega (arith, ints); top = top }))
    (rows_of-dots f (y -ℤ pos 1) n (omega (arith, ints)) (omega (arith, ints)))

pub picture_of-dots : (f : ℤ → ℤ → ℤ) → All (IsDotOf f) (picture_of f)
unfolding picture_of
picture_of-dots f = rows_of-dots f last_in_field field_size (omega (arith, ints)) (omega (arith, ints))

pub ruleset given_weights = (weight_at-picture_of, lawful_picture_of)
