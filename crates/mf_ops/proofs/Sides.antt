-- The sides of a contour add its weight times the winding number.
use Rattle.std.proofs.Common.{◌≡◌, ◌≢◌, ◌&&◌, Bool, not, cond, int_le, int_lt, ℕ, ◌+◌, ◌*◌, ◌≤◌, ℤ, pos, neg_ℤ, ◌+ℤ◌, ◌-ℤ◌, ◌*ℤ◌}
use Rattle.std.proofs.Common.{List, [], ◌∷◌, ◌++◌, length, reverse, All, refl, sym, ap, ◌∙◌, inl, inr, arith, length-append, append-nil, append_assoc, add-one}
use Rattle.std.proofs.lemmas.Int.{ints}
use Rattle.std.proofs.lemmas.List.Elements.{All-nil, All-cons, All-append}
use Rattle.std.proofs.lemmas.List.{reverse-append, length-reverse}
use Rattle.std.proofs.lemmas.List.Sorted.{IsPermutation-reverse, IsPermutation-append_left, IsPermutation-append_comm, All-permutation}
use Rattle.mf_geom.specs.Coordinates.{greatest_coordinate}
use Rattle.mf_geom.specs.declared.check.Check.TheVariants.{Off}
use Rattle.mf_geom.specs.declared.point.Point.{Point}
use Rattle.mf_geom.specs.Crossing.{unit_step, crossing, crossing_at}
use Rattle.mf_geom.specs.Lawful.{IsRectilinearCycle}
use Rattle.mf_geom.specs.Path.{Segment, point_at, segment_at, across, up, IsInRange, IsRectilinear}
use Rattle.mf_geom.specs.Sum.{sum_below}
use Rattle.mf_geom.specs.Winding.{contour, winding}
use Rattle.mf_geom.proofs.Crossings.{unit_step-reached, crossings-beside}
use Rattle.mf_geom.proofs.Products.{mul-add, mul-self}
use Rattle.mf_rows_strips.specs.declared.corner.Corner.{Corner}
use Rattle.mf_rows_strips.proofs.TurnsLemmas.{added_by_all-append}
use Rattle.mf_rows.specs.Corners.{IsCorner, IsCornerWeight, AreCorners, added_by, added_by_all, with_corners_at}
use Rattle.mf_rows.specs.Dots.{Dot, weight_at}
use Rattle.mf_ops.specs.Sides.{HasSide}
use Rattle.mf_ops.specs.Step.{step_at}
use Rattle.mf_ops.specs.declared.op.Op.TheVariants.{Contour}

-- the corners of the segments that leave the first n vertices of a cycle
pub record AreSides (ps : List Point) (w : ℤ) (n : ℕ) (ks : List Corner) : Type 0 where
  pub few : length ks ≤ 2 * n
  pub corners : All IsCorner ks
  pub added : (x y : ℤ) → added_by_all ks x y ≡ w *ℤ sum_below n (crossing_at ps x y)

added_by_all-reverse : (ks : List Corner) (x y : ℤ) → added_by_all (reverse ks) x y ≡ added_by_all ks x y
unfolding added_by_all
added_by_all-reverse [] x y = refl
added_by_all-reverse (k ∷ ks) x y =
    let turned : reverse (k ∷ ks) ≡ reverse ks ++ k ∷ [] = reverse-append (k ∷ []) ks in
    rw turned (omega (arith, ints, added_by_all-append (reverse ks) (k ∷ []) x y, added_by_all-reverse ks x y))

int_le-not_lt : (a x : ℤ) → int_le a x ≡ not (int_lt x a)
int_le-not_lt a x = grind (arith, ints)

-- what the ends of a vertical segment add, in truth values: whether the pixel is left of the segment, and whether it is below each end
ends-crossing : (beyond under under' : Bool) (w : ℤ)
    → cond (not beyond && under) w (pos 0) +ℤ cond (not beyond && under') (neg_ℤ w) (pos 0)
    ≡ w *ℤ (cond beyond (pos 0) (pos 1) *ℤ (cond under' (pos 0) (pos 1) -ℤ cond under (pos 0) (pos 1)))
ends-crossing beyond under under' w = grind (arith, ints)

-- the ends of a segment as corners, the second with the negated weight
abbrev pub ends_of : ℤ → Segment → List Corner
ends_of w e = record { x = e.from.x; y = e.from.y; weight = w } ∷ record { x = e.to.x; y = e.to.y; weight = neg_ℤ w } ∷ []

-- the ends of a vertical segment add the weight times its crossing
added_by_all-ends : (w x y : ℤ) (e : Segment) → e.to.x ≡ e.from.x → added_by_all (ends_of w e) x y ≡ w *ℤ crossing x y e
unfolding crossing unit_step added_by_all added_by
added_by_all-ends w x y e vertical =
    let ends = ends-crossing (int_lt x e.from.x) (int_lt y e.from.y) (int_lt y e.to.y) w in
    rw (vertical, int_le-not_lt) (omega (arith, ints, ends))

crossing-horizontal : (x y : ℤ) (e : Segment) → e.to.y ≡ e.from.y → crossing x y e ≡ pos 0
unfolding crossing
crossing-horizontal x y e horizontal = rw (horizontal, mul-self (unit_step x e.from.x) (unit_step y e.from.y)) refl

-- so a vertical segment is a side with its two ends as corners
pub HasSide-vertical : (w : ℤ) (e : Segment) (ks : List Corner) → IsCornerWeight w → IsInRange e.from → IsInRange e.to
    → e.to.x ≡ e.from.x → HasSide w e ks (ks ++ ends_of w e)
HasSide-vertical w e ks lawful from to vertical = grind (arith, ints, All-cons, All-nil, added_by_all-ends)

-- a horizontal segment needs no corners
pub HasSide-horizontal : (w : ℤ) (e : Segment) (ks : List Corner) → IsRectilinear e → e.to.x ≢ e.from.x → HasSide w e ks ks
unfolding IsRectilinear across up added_by_all
HasSide-horizontal w e ks (inl horizontal) apart = grind (arith, ints, sym, append-nil, All-nil, crossing-horizontal)
HasSide-horizontal w e ks (inr vertical) apart = absurd (apart (let run = vertical.0 in omega (arith, ints)))

-- a rectilinear segment between points in range
pub record IsSegment (e : Segment) : Type 0 where
  pub rectilinear : IsRectilinear e
  pub from : IsInRange e.from
  pub to : IsInRange e.to

pub AreSides-none : (ps : List Point) (w : ℤ) → AreSides ps w 0 []
unfolding added_by_all sum_below
AreSides-none ps w = record { few = omega arith; corners = All-nil IsCorner; added = λ x y. omega (arith, ints) }

-- the corners of the next segment may stand at the end of the second part
pub AreSides-second : (ps : List Point) (w : ℤ) (n : ℕ) (ks ls new : List Corner) → AreSides ps w n (ks ++ ls) → HasSide w (segment_at ps n) ls new
    → AreSides ps w (n + 1) (ks ++ new)
unfolding sum_below crossing_at
AreSides-second ps w n ks ls new sides side =
    rw (side.all, ← append_assoc ks ls side.more) (record {
      few = omega (arith, length-append (ks ++ ls) side.more, sides.few, side.few);
      corners = All-append IsCorner (ks ++ ls) side.more sides.corners side.corners;
      added = λ x y.
          let grown = mul-add w (sum_below n (crossing_at ps x y)) (crossing x y (segment_at ps n)) in
          rw add-one (omega (arith, ints, added_by_all-append (ks ++ ls) side.more x y, side.added x y, sides.added x y, grown));
    })

AreSides-swapped : (ps : List Point) (w : ℤ) (n : ℕ) (ks ls : List Corner) → AreSides ps w n (ks ++ ls) → AreSides ps w n (ls ++ ks)
AreSides-swapped ps w n ks ls sides = record {
  few = omega (arith, length-append ks ls, length-append ls ks, sides.few);
  corners = All-permutation IsCorner (ks ++ ls) (ls ++ ks) (IsPermutation-append_comm ks ls) sides.corners;
  added = λ x y. omega (arith, ints, added_by_all-append ks ls x y, added_by_all-append ls ks x y, sides.added x y);
}

-- or of the first one
pub AreSides-first : (ps : List Point) (w : ℤ) (n : ℕ) (ks new ls : List Corner) → AreSides ps w n (ks ++ ls) → HasSide w (segment_at ps n) ks new
    → AreSides ps w (n + 1) (new ++ ls)
AreSides-first ps w n ks new ls sides side =
    AreSides-swapped ps w (n + 1) ls new (AreSides-second ps w n ls ks new (AreSides-swapped ps w n ks ls sides) side)

-- the corners of the first part may stand from the last one back
pub AreSides-joined : (ps : List Point) (w : ℤ) (n : ℕ) (ks ls : List Corner) → AreSides ps w n (ks ++ ls) → AreSides ps w n (reverse ks ++ ls)
AreSides-joined ps w n ks ls sides =
    let turned = IsPermutation-append_left ls ks (reverse ks) (IsPermutation-reverse ks) in
    record {
      few = omega (arith, length-append ks ls, length-append (reverse ks) ls, length-reverse ks, sides.few);
      corners = All-permutation IsCorner (ks ++ ls) (reverse ks ++ ls) turned sides.corners;
      added = λ x y. grind (arith, ints, added_by_all-append, added_by_all-reverse);
    }

-- the sides of the complete cycle add nothing to the right of the field
pub AreCorners-sides : (ps : List Point) (w : ℤ) (ks : List Corner) → IsRectilinearCycle ps → AreSides ps w (length ps) ks → AreCorners ks
AreCorners-sides ps w ks cycle sides =
    let sized = cycle.range.sized in
    record {
      few = omega (arith, sides.few, sized.greatest);
      corners = sides.corners;
      closed = λ y.
          let balanced =
          crossings-beside ps greatest_coordinate y (pos 1)
          (λ i below. let point = cycle.range.in_range i below in unit_step-reached greatest_coordinate (point_at ps i).x point.x.greatest) in
          sides.added greatest_coordinate y ∙ ap (λ n. w *ℤ n) balanced ∙ omega (arith, ints);
    }

-- so a picture to which the sides of a contour were added has the weights of the step with the turning check off
pub with_corners_at-contour : (ds : List Dot) (ps : List Point) (w : ℤ) (ks : List Corner)
    → ((x y : ℤ) → added_by_all ks x y ≡ w *ℤ winding ps x y) → (x y : ℤ) → with_corners_at ds ks x y ≡ step_at ds (Contour ps w Off) x y
unfolding with_corners_at contour
with_corners_at-contour ds ps w ks adds x y = λ t. weight_at ds x y +ℤ adds x y t
