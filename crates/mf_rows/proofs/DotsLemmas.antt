-- Dots in reading order, and the weight at a pixel.
use Rattle.std.proofs.Common.{◌≡◌, ◌≢◌, ℕ, zero, suc, ◌<◌, ℤ, pos, ◌+ℤ◌, ◌≤ℤ◌, ◌<ℤ◌, List, [], ◌∷◌, ◌++◌, length, get_or, refl, arith}
use Rattle.std.specs.List.{All}
use Rattle.std.specs.Ordering.{int_eq}
use Rattle.std.proofs.lemmas.Bool.{cond-true, cond-false, and_parts, and_from, false_from_ne_true}
use Rattle.std.proofs.lemmas.Bool.Decides.{Decides-int_eq}
use Rattle.std.proofs.lemmas.Int.{ints}
use Rattle.std.proofs.lemmas.List.Elements.{All-head, All-tail, All-cons, All-nil, All-weaker}
use Rattle.mf_geom.specs.Field.{IsInField}
use Rattle.mf_rows.specs.Dots.{Dot, IsDot, IsPicture, AreDotsFrom, place, start_of_field, weight_at}
use Rattle.mf_rows.specs.Order.{AreBefore}
use Rattle.mf_rows.proofs.PlacesLemmas.{by_same}
use Rattle.mf_rows.proofs.StretchBounds.{holds_at_weight}

-- a dot is at the pixel (x, y)
pub record IsAt (d : Dot) (x y : ℤ) : Type 0 where
  pub column : d.x ≡ x
  pub row : d.y ≡ y

-- the first dot's weight is that of its pixel
pub weight_at-here : (d : Dot) (ds : List Dot) (x y : ℤ) → IsAt d x y → weight_at (d ∷ ds) x y ≡ d.weight
unfolding weight_at
weight_at-here d ds x y here =
    cond-true _ d.weight (weight_at ds x y) (and_from (int_eq d.x x) (int_eq d.y y) ((Decides-int_eq d.x x).1 here.column) ((Decides-int_eq d.y y).1 here.row))

-- any other pixel's weight is that among the other dots
pub weight_at-elsewhere : (d : Dot) (ds : List Dot) (x y : ℤ) → (IsAt d x y → ⊥) → weight_at (d ∷ ds) x y ≡ weight_at ds x y
unfolding weight_at
weight_at-elsewhere d ds x y elsewhere = grind (arith, ints, cond-false, false_from_ne_true, and_parts, Decides-int_eq)

-- another place is another pixel
pub not_at : (d : Dot) (x y : ℤ) → place d.x d.y ≢ place x y → IsAt d x y → ⊥
not_at d x y apart here = apart (rw (here.column, here.row))

-- where there is no dot the weight is 0
pub weight_at-none : (ds : List Dot) (x y : ℤ) → All (λ d. place d.x d.y ≢ place x y) ds → weight_at ds x y ≡ pos 0
weight_at-none ds x y none =
    by_same (weight_at ds x y) (pos 0) (λ zero. zero) (λ some. absurd (holds_at_weight (λ u v. place u v ≢ place x y) ds x y none some refl))

-- after the last dot the weight is 0
pub weight_at-after : (ds : List Dot) (x y : ℤ) → AreBefore (place x y) ds → weight_at ds x y ≡ pos 0
weight_at-after ds x y before =
    weight_at-none ds x y (All-weaker (λ d. place d.x d.y <ℤ place x y) (λ d. place d.x d.y ≢ place x y) (λ d lower same. omega (arith, ints)) ds before)

-- a list of dots may be read from a lower place on
pub dots_from-lower : (low high : ℤ) (ds : List Dot) → low ≤ℤ high → AreDotsFrom high ds → AreDotsFrom low ds
dots_from-lower low high [] le dots = tt
dots_from-lower low high (d ∷ ds) le dots = let start : high ≤ℤ place d.x d.y = dots.1 in (dots.0, omega (arith, ints), dots.2)

-- each dot is at or after the first place
pub dots_from-after : (low : ℤ) (ds : List Dot) → AreDotsFrom low ds → All (λ d. low ≤ℤ place d.x d.y) ds
dots_from-after low [] dots = All-nil (λ d. low ≤ℤ place d.x d.y)
dots_from-after low (d ∷ ds) dots =
    let start : low ≤ℤ place d.x d.y = dots.1 in
    All-cons (λ d. low ≤ℤ place d.x d.y) d ds start (dots_from-after low ds (dots_from-lower low (place d.x d.y +ℤ pos 1) ds (omega (arith, ints)) dots.2))

-- before the first place the weight is 0
pub weight_at-before : (low : ℤ) (ds : List Dot) (x y : ℤ) → AreDotsFrom low ds → place x y <ℤ low → weight_at ds x y ≡ pos 0
weight_at-before low ds x y dots below =
    weight_at-none ds x y
    (All-weaker (λ d. low ≤ℤ place d.x d.y) (λ d. place d.x d.y ≢ place x y) (λ d from same. omega (arith, ints)) ds (dots_from-after low ds dots))

-- each dot is lawful
pub dots_from-lawful : (low : ℤ) (ds : List Dot) → AreDotsFrom low ds → All IsDot ds
dots_from-lawful low [] dots = All-nil IsDot
dots_from-lawful low (d ∷ ds) dots = All-cons IsDot d ds dots.0 (dots_from-lawful (place d.x d.y +ℤ pos 1) ds dots.2)

-- dots may follow others that end before a place
pub dots_from-append : (low middle : ℤ) (ds es : List Dot) → low ≤ℤ middle → AreDotsFrom low ds → AreBefore middle ds
    → AreDotsFrom middle es → AreDotsFrom low (ds ++ es)
dots_from-append low middle [] es le front before back = dots_from-lower low middle es le back
dots_from-append low middle (d ∷ ds) es le front before back =
    let lower : place d.x d.y <ℤ middle = All-head (λ d. place d.x d.y <ℤ middle) d ds before in
    (front.0, front.1, dots_from-append (place d.x d.y +ℤ pos 1) middle ds es (omega (arith, ints)) front.2 (All-tail (λ d. place d.x d.y <ℤ middle) d ds before) back)

-- the pixel of each dot has its weight
pub weight_at-dot : (low : ℤ) (ds : List Dot) → AreDotsFrom low ds → (k : ℕ) (d : Dot) → k < length ds
    → weight_at ds (get_or ds k d).x (get_or ds k d).y ≡ (get_or ds k d).weight
weight_at-dot low [] dots k e lt = absurd (omega arith)
weight_at-dot low (d ∷ ds) dots zero e lt = weight_at-here d ds d.x d.y (record { column = refl; row = refl })
weight_at-dot low (d ∷ ds) dots (suc k) e lt =
    let later = dots_from-after (place d.x d.y +ℤ pos 1) ds dots.2 k e (omega arith) in
    grind (arith, ints, weight_at-elsewhere, not_at, weight_at-dot (place d.x d.y +ℤ pos 1) ds dots.2 k e (omega arith))

-- a picture has weight 0 outside the field
pub weight_at-outside : (ds : List Dot) (x y : ℤ) → IsPicture ds → (IsInField x y → ⊥) → weight_at ds x y ≡ pos 0
weight_at-outside ds x y picture outside =
    let inside = All-weaker IsDot (λ d. IsInField d.x d.y) (λ d dot. dot.in_field) ds (dots_from-lawful start_of_field ds picture.dots) in
    by_same (weight_at ds x y) (pos 0) (λ zero. zero) (λ some. absurd (outside (holds_at_weight IsInField ds x y inside some)))
