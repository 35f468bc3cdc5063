-- The box of the black pixels of a picture, from the least box round its pixels of positive weight.
use Rattle.std.proofs.Common.{◌≡◌, Bool, true, false, not, ℤ, pos, ◌+ℤ◌, List, []}
use Rattle.std.proofs.Common.{◌∷◌, FitsSigned, to_z, of_z, w32, refl, sym, ap, subst, ◌∙◌, arith}
use Rattle.std.specs.Prelude.{int_lt, if◌then◌else◌}
use Rattle.std.specs.Int.{int_max, int_min}
use Rattle.std.specs.Ordering.{int_eq}
use Rattle.std.proofs.lemmas.Int.{ints, clamps}
use Rattle.mf_rows.specs.declared.bounds.Box4.{Box4}
use Rattle.mf_rows.specs.Bounds.{IsBoxRound, IsLeastBox, is_positive_at}
use Rattle.mf_rows.specs.Dots.{Dot, IsPicture, start_of_field, weight_at}
use Rattle.mf_rows.specs.Boxes.{box_of_dots}
use Rattle.mf_rows.proofs.BoundsInField.{bounds_in_field}
use Rattle.mf_rows.proofs.BoxesJoined.{box_of_some}
use Rattle.mf_rows.proofs.BoxesOfDots.{least_box_of_dots, same_least_box}
use Rattle.mf_rows.proofs.LeastBoxes.{blank_of_weights, least_of_weights}
use Rattle.mf_gf.specs.declared.boxes.CharacterBox.{CharacterBox}
use Rattle.mf_gf.specs.Boxes.{no_box, character_box, join, box_of_pixels, pixel_box}
use Rattle.mf_gf.specs.Pixels.{black}
use Rattle.mf_gf.proofs.BlackDots.{black_at, black_picture}

-- ---- joined boxes

min_assoc : (a b c : ℤ) → int_min a (int_min b c) ≡ int_min (int_min a b) c
min_assoc a b c = omega (arith, ints, clamps)

max_assoc : (a b c : ℤ) → int_max a (int_max b c) ≡ int_max (int_max a b) c
max_assoc a b c = omega (arith, ints, clamps)

pub join-assoc : (a b c : CharacterBox) → join a (join b c) ≡ join (join a b) c
join-assoc a b c = grind (arith, ints, min_assoc, max_assoc)

-- ---- the box of pixels is that of the least one

pub least_box : (d : Dot) (ds : List Dot) → IsLeastBox (d ∷ ds) (pixel_box (box_of_pixels (d ∷ ds)))
unfolding box_of_pixels
least_box d ds = subst (IsLeastBox (d ∷ ds)) (sym (grind (arith, ints))) (least_box_of_dots d ds)

box_from_least : (ds : List Dot) (b : Box4) → IsLeastBox ds b → box_of_pixels ds ≡ character_box b
unfolding box_of_pixels
box_from_least [] b least = absurd (box_of_some b least)
box_from_least (d ∷ ds) b least = ap character_box (same_least_box (d ∷ ds) (box_of_dots d ds) b (least_box_of_dots d ds) least)

-- ---- the black pixels of a picture

test_is : (b : Bool) → b ≡ not (int_eq (if b then pos 1 else pos 0) (pos 0))
test_is true = refl
test_is false = refl

positive_is : (ds : List Dot) → IsPicture ds → (x y : ℤ) → is_positive_at ds x y ≡ not (int_eq (weight_at (black ds) x y) (pos 0))
unfolding is_positive_at
positive_is ds picture x y =
    test_is (int_lt (pos 0) (weight_at ds x y)) ∙ ap (λ w. not (int_eq w (pos 0))) (sym (black_at start_of_field ds x y picture.dots))

least_black : (ds : List Dot) (b : Box4) → IsPicture ds → IsBoxRound (is_positive_at ds) b → IsLeastBox (black ds) b
least_black ds b picture box = least_of_weights (is_positive_at ds) (black ds) b (black_picture ds picture) (positive_is ds picture) box

pub black_box : (ds : List Dot) (b : Box4) → IsPicture ds → IsBoxRound (is_positive_at ds) b → box_of_pixels (black ds) ≡ character_box b
black_box ds b picture box = box_from_least (black ds) b (least_black ds b picture box)

pub no_black_box : (ds : List Dot) → IsPicture ds → ((x y : ℤ) → is_positive_at ds x y ≡ false) → box_of_pixels (black ds) ≡ no_box
unfolding box_of_pixels
no_black_box ds picture none = ap box_of_pixels (blank_of_weights (is_positive_at ds) (black ds) (black_picture ds picture) (positive_is ds picture) none)

-- the numbers of such a box fit
pub record BoxFits (b : Box4) : Type 0 where
  pub left : to_z w32 (of_z w32 b.min_x) ≡ b.min_x
  pub right : to_z w32 (of_z w32 b.max_x) ≡ b.max_x
  pub after_right : to_z w32 (of_z w32 (b.max_x +ℤ pos 1)) ≡ b.max_x +ℤ pos 1
  pub fits : FitsSigned w32 (b.max_x +ℤ pos 1)
  pub bottom : to_z w32 (of_z w32 b.min_y) ≡ b.min_y
  pub top : to_z w32 (of_z w32 b.max_y) ≡ b.max_y

pub box_fits : (ds : List Dot) (b : Box4) → IsPicture ds → IsBoxRound (is_positive_at ds) b → BoxFits b
box_fits ds b picture box =
    let sides = bounds_in_field (black ds) b (black_picture ds picture) (least_black ds b picture box) in
    let low = sides.0 in
    let high = sides.1 in
    omega (arith, ints, low, high)
