-- The pictures of piles.
use Rattle.std.proofs.Common.{◌≡◌, ℤ, pos, ◌+ℤ◌, ◌-ℤ◌, List, [], ◌∷◌, to_z-of_z, refl, ap, sym, ◌∙◌, arith}
use Rattle.std.specs.Arc.{arc_value}
use Rattle.std.specs.List.{All}
use Rattle.std.specs.declared.alloc.Global.{Global}
use Rattle.std.specs.declared.sync.Arc.{Arc}
use Rattle.std.proofs.lemmas.Int.{ints}
use Rattle.std.proofs.lemmas.List.Elements.{All-head, All-tail}
use Rattle.mf_geom.specs.Field.{IsInField}
use Rattle.mf_rows_edges.specs.Edges.{weight_in}
use Rattle.mf_rows_edges.specs.LawfulWeights.{IsLawfulWeight}
use Rattle.mf_rows_edges.specs.Axes.{StaysInside}
use Rattle.mf_rows_edges.specs.declared.stretch.Stretch.{Stretch}
use Rattle.mf_rows_edges.proofs.ReachesLemmas.{wider_reach}
use Rattle.mf_rows_strips.specs.declared.part.Part.{Part}
use Rattle.mf_rows_strips.specs.declared.pile.Pile.{Pile}
use Rattle.mf_rows_strips.specs.Corners.{HaveFieldStripWeights}
use Rattle.mf_rows_strips.specs.declared.corner.Corner.{Corner}
use Rattle.mf_rows_strips.specs.Changes.{negated_weight_in}
use Rattle.mf_rows_strips.specs.Moves.{StripsStayInside}
use Rattle.mf_rows_strips.specs.Parts.{strips_in, weight_in_part, weight_in_parts}
use Rattle.mf_rows_strips.specs.PileWeights.{weight_in_pile, weight_with_part}
use Rattle.mf_rows_strips.specs.Strips.{row_in, weight_in_strips, HaveStripWeights}
pub use Rattle.mf_rows_strips.proofs.Outside.{by_field}
use Rattle.mf_rows_strips.proofs.Outside.{strips_outside}
pub use Rattle.mf_rows_strips.proofs.PilesLemmas.{unlawful_as}
use Rattle.mf_rows_strips.proofs.StripsLemmas.{no_weight}
use Rattle.mf_rows.specs.Dots.{Dot, IsPicture, weight_at}
use Rattle.mf_rows.specs.Corners.{added_by_all, with_corners_at}
use Rattle.mf_rows.specs.Moves.{PixelsStayInside}
use Rattle.mf_rows.specs.Sums.{HasWeights, difference_at, sum_at}
use Rattle.mf_rows.specs.Weights.{picture_of}
use Rattle.mf_rows.proofs.BlankPictures.{blanks}
use Rattle.mf_rows.proofs.DotsLemmas.{weight_at-outside}
use Rattle.mf_rows.proofs.StretchBounds.{holds_at_weight}
use Rattle.mf_rows.proofs.WeightsLemmas.{lawful_picture_of, same_pictures, weight_at-picture_of}

-- ---- outside the field

pub parts_outside : (ps : List (Arc Part Global)) (x y : ℤ) → (IsInField x y → ⊥) → weight_in_parts ps x y ≡ pos 0
unfolding weight_in_parts
parts_outside [] x y outside = refl
parts_outside (p ∷ ps) x y outside = omega (arith, ints, strips_outside (arc_value p).reach (strips_in (arc_value p)) x y (arc_value p).lawful outside, parts_outside ps x y outside)

-- ---- the picture of a pile

pub pile_lawful : (p : Pile) (x y : ℤ) → IsLawfulWeight (weight_in_pile p x y)
pile_lawful p x y = wider_reach p.lawful.most (p.lawful.within x y)

pub lawful_pile : (p : Pile) → IsPicture (picture_of (weight_in_pile p))
lawful_pile p = lawful_picture_of (weight_in_pile p) (λ x y _. pile_lawful p x y)

pub pile_weight : (p : Pile) (x y : ℤ) → weight_at (picture_of (weight_in_pile p)) x y ≡ weight_in_pile p x y
pile_weight p x y =
    by_field x y
    (λ inside. weight_at-picture_of (weight_in_pile p) x y inside)
    (λ outside. weight_at-outside (picture_of (weight_in_pile p)) x y (lawful_pile p) outside ∙ sym (parts_outside p.parts.items x y outside))

pub blank_pile : (p : Pile) → p.parts.items ≡ [] → picture_of (weight_in_pile p) ≡ []
unfolding weight_in_parts weight_at
blank_pile p none =
    same_pictures (picture_of (weight_in_pile p)) [] (lawful_pile p) (record { dots = tt })
    (record { same = λ x y inside. pile_weight p x y ∙ ap (λ ps. weight_in_parts ps x y) none })

-- ---- the rows of edges of parts

pub edges_of_part : (p : Part) (x y : ℤ) → weight_in_part p x y ≡ weight_in (row_in [] (strips_in p) y) x
unfolding weight_in_strips
edges_of_part p x y = refl

no_edges_of_parts : (ps : List (Arc Part Global)) (x y : ℤ) → All (λ q. row_in [] (strips_in (arc_value q)) y ≡ []) ps → weight_in_parts ps x y ≡ pos 0
unfolding weight_in_parts weight_in_strips
no_edges_of_parts [] x y none = refl
no_edges_of_parts (p ∷ ps) x y none =
    let has_none = λ (q : Arc Part Global). row_in [] (strips_in (arc_value q)) y ≡ [] in
    let own = ap (λ es. weight_in es x) (All-head has_none p ps none) ∙ no_weight x in
    omega (arith, ints, own, no_edges_of_parts ps x y (All-tail has_none p ps none))

pub other_rows : (p : Pile) (x y : ℤ) → All (λ q. row_in [] (strips_in (arc_value q)) y ≡ []) p.parts.items → weight_at (picture_of (weight_in_pile p)) x y ≡ pos 0
other_rows p x y none = pile_weight p x y ∙ no_edges_of_parts p.parts.items x y none

-- what `weight_is_the_sum_of_edges` says
pub ruleset weights_of_edges = (lawful_pile, pile_weight, edges_of_part, other_rows)

-- ---- what becomes of a picture

pub part_is : (p : Pile) (part : Part) → HaveStripWeights (weight_in_pile p) (strips_in part) → weight_in_part part ≡ weight_at (picture_of (weight_in_pile p))
part_is p part whole = λ i x y. (whole.weights x y ∙ sym (pile_weight p x y)) i

-- the picture of a pile has the weights of the pile in the field
pub has_weights : {f g : ℤ → ℤ → ℤ} (p : Pile) → weight_in_pile p ≡ g → ((x y : ℤ) → IsInField x y → g x y ≡ f x y) → HasWeights f (picture_of (weight_in_pile p))
has_weights p has same = record { weights = λ x y inside. pile_weight p x y ∙ (λ i. has i x y) ∙ same x y inside }

-- ---- sums

-- the weights of a pile and of a part that has those of a picture, or has them negated
pub sum_is : (p : Pile) (part : Part) (ds : List Dot) → weight_in_part part ≡ weight_at ds → weight_with_part p part ≡ sum_at (picture_of (weight_in_pile p)) ds
unfolding weight_with_part sum_at
sum_is p part ds is = λ i x y. sym (pile_weight p x y) i +ℤ is i x y

pub difference_is : (p : Pile) (whole part : Part) (ds : List Dot) → weight_in_part whole ≡ weight_at ds
    → HaveStripWeights (negated_weight_in (strips_in whole)) (strips_in part) → weight_with_part p part ≡ difference_at (picture_of (weight_in_pile p)) ds
unfolding weight_with_part difference_at negated_weight_in
difference_is p whole part ds is negated =
    let same : (x y : ℤ) → weight_in_pile p x y +ℤ weight_in_part part x y ≡ weight_at (picture_of (weight_in_pile p)) x y -ℤ weight_at ds x y =
    λ x y. omega (arith, ints, pile_weight p x y, negated.weights x y, ap (λ (f : ℤ → ℤ → ℤ). f x y) is) in
    λ i x y. same x y i

pub corners_are : (p : Pile) (part : Part) (ks : List Corner) → HaveFieldStripWeights (added_by_all ks) (strips_in part)
    → (x y : ℤ) → IsInField x y → weight_with_part p part x y ≡ with_corners_at (picture_of (weight_in_pile p)) ks x y
unfolding weight_with_part with_corners_at
corners_are p part ks made x y inside = omega (arith, ints, pile_weight p x y, made.weights x y inside)

-- ---- stretches

pub strips_inside : (columns rows : Stretch) (ds : List Dot) (part : Part) → weight_in_part part ≡ weight_at ds
    → PixelsStayInside columns rows ds → StripsStayInside columns rows (strips_in part)
strips_inside columns rows ds part is inside = record {
  across = λ x y some. holds_at_weight (λ x y. StaysInside columns x) ds x y inside.across (rw is at some);
  up = λ x y some. holds_at_weight (λ x y. StaysInside rows y) ds x y inside.up (rw is at some);
}

-- what the methods of pictures use
pub ruleset of_piles = (ints, sym, to_z-of_z, lawful_pile, part_is, pile_weight, blank_pile, blanks)
