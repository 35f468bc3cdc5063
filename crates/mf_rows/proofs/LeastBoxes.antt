-- The least box of the dots of a picture, from its weights.
use Rattle.std.proofs.Common.{◌≡◌, ◌≢◌, Bool, true, false, not, get_or, subst, ℤ, pos, Option, None, Some, List, [], ◌∷◌, refl, sym, ◌∙◌, arith}
use Rattle.std.specs.Prelude.{IfSome, IsNone, ◌↔◌}
use Rattle.std.specs.List.{Any}
use Rattle.std.specs.Ordering.{int_eq}
use Rattle.std.proofs.lemmas.Bool.{false≢true}
use Rattle.std.proofs.lemmas.Int.{ints}
use Rattle.mf_rows.specs.declared.bounds.Box4.{Box4}
use Rattle.mf_rows.specs.declared.bounds.Pixels.TheVariants.{Nonzero, Black}
use Rattle.mf_rows.specs.Bounds.{AreBounds, IsBoxRound, IsLeastBox, among, is_positive_at}
use Rattle.mf_rows.specs.Dots.{Dot, IsDot, IsPicture, start_of_field, weight_at}
use Rattle.mf_rows.proofs.DotsLemmas.{dots_from-lawful, weight_at-dot, weight_at-elsewhere}
use Rattle.mf_rows.proofs.PlacesLemmas.{by_same}
use Rattle.mf_rows.proofs.BoxesJoined.{any_right, box_of_some}

-- ---- pixels of nonzero weight

is_nonzero : (w : ℤ) → w ≢ pos 0 → not (int_eq w (pos 0)) ≡ true
is_nonzero w apart = grind (arith, ints)

-- a pixel of nonzero weight is a dot
dot_at : (P : Dot → Type 0) (ds : List Dot) (x y : ℤ) → ((d : Dot) → d.x ≡ x → d.y ≡ y → P d) → weight_at ds x y ≢ pos 0 → Any P ds
unfolding weight_at
dot_at P [] x y at nonzero = absurd (nonzero refl)
dot_at P (d ∷ ds) x y at nonzero =
    let later = λ (elsewhere : (d.x ≡ x → d.y ≡ y → ⊥)). any_right P (d ∷ []) ds
    (dot_at P ds x y at (λ zero. nonzero (weight_at-elsewhere d ds x y (λ here. elsewhere here.column here.row) ∙ zero))) in
    by_same d.x x
    (λ column. by_same d.y y
    (λ row. (0, d, omega arith, refl, at d column row))
    (λ apart. later (λ _ row. apart row)))
    (λ apart. later (λ column _. apart column))

-- ---- the least box

-- a box round the pixels of nonzero weight of a picture is the least one of its dots
pub least_of_weights : (f : ℤ → ℤ → Bool) (ds : List Dot) (b : Box4) → IsPicture ds → ((x y : ℤ) → f x y ≡ not (int_eq (weight_at ds x y) (pos 0)))
    → IsBoxRound f b → IsLeastBox ds b
least_of_weights f ds b picture weights box =
    let dot = λ (P : Dot → Type 0) (x y : ℤ) (at : (d : Dot) → d.x ≡ x → d.y ≡ y → P d) (found : f x y ≡ true).
    dot_at P ds x y at (λ zero. grind (arith, ints, weights x y)) in
    record {
      within = λ k d lt.
          let e = get_or ds k d in
          let lawful : IsDot e = dots_from-lawful start_of_field ds picture.dots k d lt in
          let weight = weight_at-dot start_of_field ds picture.dots k d lt in
          let found = is_nonzero (weight_at ds e.x e.y) (λ zero. lawful.nonzero (sym weight ∙ zero)) in
          let inside = box.within e.x e.y (weights e.x e.y ∙ found) in
          record { left = inside.left; right = inside.right; bottom = inside.bottom; top = inside.top };
      left = dot (λ d. d.x ≡ b.min_x) b.min_x box.left.0 (λ d column row. column) box.left.1;
      right = dot (λ d. d.x ≡ b.max_x) b.max_x box.right.0 (λ d column row. column) box.right.1;
      bottom = dot (λ d. d.y ≡ b.min_y) box.bottom.0 b.min_y (λ d column row. row) box.bottom.1;
      top = dot (λ d. d.y ≡ b.max_y) box.top.0 b.max_y (λ d column row. row) box.top.1;
    }

pub blank_of_weights : (f : ℤ → ℤ → Bool) (ds : List Dot) → IsPicture ds → ((x y : ℤ) → f x y ≡ not (int_eq (weight_at ds x y) (pos 0)))
    → ((x y : ℤ) → f x y ≡ false) → ds ≡ []
blank_of_weights f [] picture weights none = refl
blank_of_weights f (d ∷ ds) picture weights none =
    let lawful = dots_from-lawful start_of_field (d ∷ ds) picture.dots 0 d (omega arith) in
    let weight = weight_at-dot start_of_field (d ∷ ds) picture.dots 0 d (omega arith) in
    let found = is_nonzero (weight_at (d ∷ ds) d.x d.y) (λ zero. lawful.nonzero (sym weight ∙ zero)) in
    absurd (false≢true (sym (none d.x d.y) ∙ weights d.x d.y ∙ found))

-- ---- the dots of a picture

least_in_dots : (ds : List Dot) (b : Box4) → IsPicture ds → IsBoxRound (among Nonzero (weight_at ds)) b → IsLeastBox ds b
unfolding among
least_in_dots ds b picture box = least_of_weights _ ds b picture (λ x y. refl) box

pub least_if_some : (ds : List Dot) (bounds : Option Box4) → IsPicture ds → AreBounds (among Nonzero (weight_at ds)) bounds → IfSome bounds (IsLeastBox ds)
least_if_some ds None picture box = tt
least_if_some ds (Some b) picture box = least_in_dots ds b picture box

pub none_if_blank : (ds : List Dot) (bounds : Option Box4) → IsPicture ds → AreBounds (among Nonzero (weight_at ds)) bounds → IsNone bounds ↔ (ds ≡ [])
unfolding among
none_if_blank ds None picture box = (λ _. blank_of_weights _ ds picture (λ x y. refl) box, λ _. refl)
none_if_blank ds (Some b) picture box =
    (λ none. absurd (false≢true (sym none)), λ blank. absurd (box_of_some b (subst (λ es. IsLeastBox es b) blank (least_in_dots ds b picture box))))

pub ruleset least_boxes = (least_if_some, none_if_blank)

-- bounds are the same where the pixels are
pub same_bounds : (f g : ℤ → ℤ → Bool) (bounds : Option Box4) → ((x y : ℤ) → f x y ≡ g x y) → AreBounds f bounds → AreBounds g bounds
same_bounds f g None same box = λ x y. sym (same x y) ∙ box x y
same_bounds f g (Some b) same box = record {
  within = λ x y found. box.within x y (same x y ∙ found);
  left = (box.left.0, sym (same b.min_x box.left.0) ∙ box.left.1);
  right = (box.right.0, sym (same b.max_x box.right.0) ∙ box.right.1);
  bottom = (box.bottom.0, sym (same box.bottom.0 b.min_y) ∙ box.bottom.1);
  top = (box.top.0, sym (same box.top.0 b.max_y) ∙ box.top.1);
}

pub black_in_dots : (ds : List Dot) (bounds : Option Box4) → AreBounds (among Black (weight_at ds)) bounds → AreBounds (is_positive_at ds) bounds
unfolding among is_positive_at
black_in_dots ds bounds box = same_bounds _ _ bounds (λ x y. refl) box
