-- The least box of a picture, as a value.
use Rattle.std.proofs.Common.{◌≡◌, List, [], ◌∷◌, None, Some, refl, ap, arith}
use Rattle.std.specs.List.{Any}
use Rattle.std.proofs.lemmas.Int.{ints}
use Rattle.std.proofs.lemmas.List.Elements.{All-nil, All-cons}
use Rattle.mf_rows.specs.declared.bounds.Box4.{Box4}
use Rattle.mf_rows.specs.Bounds.{IsDotIn, IsLeastBox}
use Rattle.mf_rows.specs.Boxes.{box_of, box_of_dot, box_of_dots}
use Rattle.mf_rows.specs.Dots.{Dot}
pub use Rattle.mf_rows.proofs.BoundsInField.{least_box_of_field}
use Rattle.mf_rows.proofs.BoundsInField.{All-Any}
use Rattle.mf_rows.proofs.BoxesJoined.{box_of_some, least_box_of_both}

-- a picture has at most one least box
pub same_least_box : (ds : List Dot) (a b : Box4) → IsLeastBox ds a → IsLeastBox ds b → a ≡ b
same_least_box ds a b one other =
    let in_a = λ (P : Dot → Type 0) (some : Any P ds). All-Any P (IsDotIn a) ds some one.within in
    let in_b = λ (P : Dot → Type 0) (some : Any P ds). All-Any P (IsDotIn b) ds some other.within in
    let left : a.min_x ≡ b.min_x = omega (arith, ints, (in_b (λ d. d.x ≡ a.min_x) one.left).left, one.left.4, (in_a (λ d. d.x ≡ b.min_x) other.left).left, other.left.4) in
    let right : a.max_x ≡ b.max_x = omega (arith, ints, (in_b (λ d. d.x ≡ a.max_x) one.right).right, one.right.4, (in_a (λ d. d.x ≡ b.max_x) other.right).right, other.right.4) in
    let bottom : a.min_y ≡ b.min_y = omega (arith, ints, (in_b (λ d. d.y ≡ a.min_y) one.bottom).bottom, one.bottom.4, (in_a (λ d. d.y ≡ b.min_y) other.bottom).bottom, other.bottom.4) in
    let top : a.max_y ≡ b.max_y = omega (arith, ints, (in_b (λ d. d.y ≡ a.max_y) one.top).top, one.top.4, (in_a (λ d. d.y ≡ b.max_y) other.top).top, other.top.4) in
    λ i. record { min_x = left i; max_x = right i; min_y = bottom i; max_y = top i }

least_box_of_dot : (d : Dot) → IsLeastBox (d ∷ []) (box_of_dot d)
least_box_of_dot d = grind (arith, ints, All-cons, All-nil)

-- the box of some dots is their least box
pub least_box_of_dots : (d : Dot) (ds : List Dot) → IsLeastBox (d ∷ ds) (box_of_dots d ds)
unfolding box_of_dots
least_box_of_dots d [] = least_box_of_dot d
least_box_of_dots d (e ∷ ds) =
    least_box_of_both (d ∷ []) (e ∷ ds) (box_of_dot d) (box_of_dots e ds) (least_box_of_dot d) (least_box_of_dots e ds)

-- the least box of a picture is the one that is defined
pub least_box_is : (ds : List Dot) (b : Box4) → IsLeastBox ds b → box_of ds ≡ Some b
unfolding box_of
least_box_is [] b box = absurd (box_of_some b box)
least_box_is (d ∷ ds) b box = ap Some (same_least_box (d ∷ ds) (box_of_dots d ds) b (least_box_of_dots d ds) box)

-- the blank picture has none
pub no_box : (ds : List Dot) → ds ≡ [] → box_of ds ≡ None
unfolding box_of
no_box ds blank = rw blank refl
