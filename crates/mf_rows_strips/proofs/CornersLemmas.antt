-- Corners from the top down, and the strips that they make.
use Rattle.std.proofs.Common.{◌≡◌, suc, ◌+◌, ◌*◌, ◌<◌, ◌≤◌, inl, inr, ℤ, pos, ◌+ℤ◌, ◌-ℤ◌, ◌≤ℤ◌, ◌<ℤ◌}
use Rattle.std.proofs.Common.{int_le, Bool, false, List, [], ◌∷◌, ◌++◌, length, refl, sym, ◌∙◌, arith, if◌then◌else◌}
use Rattle.std.specs.Int.{int_max}
use Rattle.std.proofs.lemmas.Int.{ints, clamps, by_lt_z}
use Rattle.std.specs.List.{All, sum_by}
use Rattle.std.specs.List.Sorted.{IsPermutation, IsSortedBy}
use Rattle.std.specs.Ordering.{int_cmp, is_lt, ordering_then}
use Rattle.std.proofs.lemmas.Cmp.{by_ranked, int_ranked}
use Rattle.std.proofs.lemmas.List.Sorted.{sum_by-IsPermutation}
use Rattle.std.proofs.lemmas.List.Sums.{sum_by-cons}
use Rattle.std.proofs.lemmas.List.Elements.{All-head, All-tail, All-nil, All-weaker}
use borrow.Author.Differences.{up, down}
use Rattle.mf_geom.specs.Coordinates.{least_coordinate, greatest_coordinate, IsCoordinate}
use Rattle.mf_rows_edges.specs.declared.edge.Edge.{Edge}
use Rattle.mf_rows_edges.specs.Edges.{AreEdges, weight_in}
use Rattle.mf_rows_edges.specs.LawfulWeights.{greatest_weight, IsInReach}
use Rattle.mf_rows_edges.specs.Merging.{AreChanges, AreEdgesBefore, unless_zero}
use Rattle.mf_rows_edges.specs.Reaches.{IsLeastReach, StaysInReach}
use Rattle.mf_rows_edges.specs.Sums.{weight_in_both, IsEdgeSum, HasEdgeSum}
use Rattle.mf_rows_edges.proofs.EdgeSums.{cond-sum, sorted_push, before_push, weight_in-push}
use Rattle.mf_rows_edges.proofs.ReachesLemmas.{reach_of_row, wider_reach}
use Rattle.mf_rows_strips.specs.Strips.{EdgeStrip, row_in, last_row, weight_in_strips, AreStrips, AreStripsDownTo}
use Rattle.mf_rows_strips.proofs.StripsLemmas.{no_edges, no_weight, none_reached, wider_strips}
use Rattle.mf_rows_strips.proofs.Written.{GoOn, go_on, go_on_with, last_lawful, strips_closed, weight_below}
use Rattle.mf_rows_strips.specs.declared.corner.Corner.{Corner}
use Rattle.mf_rows_strips.specs.Corners.{added_by, added_by_all, AreCorners, AreSortedFrom, AreSweptCorners, BeginAtHeight, BeginBelowField}
use Rattle.mf_rows_strips.specs.Corners.{ContinueWith, HaveFieldStripWeights, IsCorner, IsCornerWeight, IsJoined, IsPast, IsCornerInRange, IsReach, IsSplitHeight}

-- ---- what sorted corners add

pub added_by-none : (k : Corner) (x y : ℤ) → (k.x ≤ℤ x → y <ℤ k.y → ⊥) → added_by k x y ≡ pos 0
unfolding added_by
added_by-none k x y outside = grind (arith, ints, by_lt_z)

pub added_by-all : (k : Corner) (x y : ℤ) → k.x ≤ℤ x → y <ℤ k.y → added_by k x y ≡ k.weight
unfolding added_by
added_by-all k x y right below = grind (arith, ints)

added_below : (k : Corner) (x y : ℤ) → y <ℤ k.y → added_by k x y ≡ (if int_le k.x x then k.weight else pos 0)
unfolding added_by
added_below k x y below = grind (arith, ints)

-- corners that are past a point add nothing to the pixels before it
added_before : (a b x y : ℤ) (ks : List Corner) → AreSortedFrom a b ks → b ≤ℤ (y +ℤ pos 1) → (b ≡ y +ℤ pos 1 → x <ℤ a) → added_by_all ks x y ≡ pos 0
unfolding added_by_all
added_before a b x y [] sorted above left = refl
added_before a b x y (k ∷ ks) sorted above left =
    let first = added_by-none k x y (λ right below. absurd (grind (arith, ints))) in
    omega (arith, ints, first, added_before k.x k.y x y ks sorted.2 (omega (arith, ints)) (λ here. grind (arith, ints)))

-- ---- the corners at one height

pub joined_here : (es : List Edge) (d : Edge) (k : Corner) (w : ℤ) → AreEdgesBefore d.x es → d.x ≡ k.x → w ≡ d.weight +ℤ k.weight
    → IsJoined es d k es (record { x = d.x; weight = w })
unfolding weight_in
joined_here es d k w edges same sum =
    record { edges = edges; column = same; weights = λ x. rw (sum, same) (omega (arith, ints, cond-sum (int_le k.x x) d.weight k.weight)) }

pub joined_after : (es : List Edge) (d : Edge) (k : Corner) → AreEdgesBefore d.x es → d.x <ℤ k.x → IsCoordinate k.x
    → IsJoined es d k (es ++ unless_zero d) (record { x = k.x; weight = k.weight })
unfolding weight_in
joined_after es d k edges after column =
    let before = All-weaker (λ e. e.x <ℤ (d.x +ℤ pos 1)) (λ e. e.x <ℤ k.x) (λ e lt. omega (arith, ints)) (es ++ unless_zero d) (before_push es d edges) in
    grind (arith, ints, sorted_push, weight_in-push)

-- the corners at height `top` have been passed, except for those that are left
pub record IsHeightSoFar (top : ℤ) (ks : List Corner) (changes : List Edge) (last : Edge) (left : List Corner) : Type 0 where
  pub edges : AreEdgesBefore last.x changes
  pub sorted : AreSortedFrom last.x top left
  pub weights : (x y : ℤ) → y <ℤ top → added_by_all ks x y ≡ weight_in (last ∷ changes) x +ℤ added_by_all left x y
  pub few : length left ≤ length ks
  pub fewer : (BeginAtHeight top left → ⊥) → length left < length ks

pub height_none : (top : ℤ) (ks : List Corner) → BeginAtHeight top ks → AreSortedFrom least_coordinate top ks
    → IsHeightSoFar top ks [] (record { x = least_coordinate; weight = pos 0 }) ks
unfolding weight_in
height_none top ks first sorted = grind (arith, ints, All-nil)

pub height_more : {top : ℤ} {k : Corner} {ks others : List Corner} {changes new : List Edge} {last next : Edge}
    → IsHeightSoFar top ks changes last (k ∷ others) → k.y ≡ top → IsJoined changes last k new next → IsHeightSoFar top ks new next others
unfolding added_by_all
height_more {k = k} so_far here joined = record {
  edges = joined.edges;
  sorted = rw (joined.column, ← here) so_far.sorted.2;
  weights = λ x y below. omega (arith, ints, so_far.weights x y below, joined.weights x, added_below k x y (omega (arith, ints)));
  few = omega (arith, so_far.few);
  fewer = λ _. omega (arith, so_far.few);
}

-- the next corner is lower
sorted_lower : (low top : ℤ) (ks : List Corner) → AreSortedFrom low top ks → (BeginAtHeight top ks → ⊥) → AreSortedFrom least_coordinate (top -ℤ pos 1) ks
sorted_lower low top [] sorted lower = tt
sorted_lower low top (k ∷ ks) sorted lower =
    (sorted.0, record { height = by_lt_z k.y top (λ lt. omega (arith, ints)) (λ ge. absurd (lower (omega (arith, ints, sorted.1.height)))); column = λ _. sorted.0.column.least }, sorted.2)

pub height_all : {top : ℤ} {ks left : List Corner} {changes : List Edge} {last : Edge} → IsHeightSoFar top ks changes last left
    → (BeginAtHeight top left → ⊥) → IsSplitHeight top ks (changes ++ unless_zero last) left
height_all {top} {ks} {left} {changes} {last} so_far lower = grind (arith, ints, sorted_push, sorted_lower, weight_in-push, sym)

-- ---- strips go on with a row

pub sum_alone : (es fs sum : List Edge) → HasEdgeSum [] es fs sum → IsEdgeSum es fs sum
sum_alone es fs sum has = rw has.all has.sum

goes_on : (low top reach : ℤ) (es : List Edge) (out new : List EdgeStrip) → AreStripsDownTo low reach out → top ≤ℤ low → IsCoordinate top
    → AreEdges es → StaysInReach reach es → ContinueWith top es out new → GoOn top reach es out new
goes_on low top reach es out new strips le height edges reached (inl more) =
    rw more (go_on_with low top reach es out strips le height.greatest (record { bottom = height.least; edges = edges; reached = reached }))
goes_on low top reach es out new strips le height edges reached (inr same) = rw same.1 (go_on low top reach es out strips le same.0)

-- ---- the sweep

-- the strips that are written and the corners that are left add up to what all corners add
pub record IsSwept (all left : List Corner) (reach : ℤ) (out : List EdgeStrip) : Type 0 where
  pub low : ℤ
  pub bottom : least_coordinate ≤ℤ low
  pub sorted : AreSortedFrom least_coordinate low left
  pub strips : AreStripsDownTo low reach out
  pub reached : IsReach reach
  pub weights : (x y : ℤ) → weight_in_strips out x y +ℤ added_by_all left x y ≡ added_by_all all x y

pub swept_none : (all left : List Corner) → AreSortedFrom least_coordinate greatest_coordinate left
    → ((x y : ℤ) → added_by_all left x y ≡ added_by_all all x y) → IsSwept all left (pos 0) []
unfolding weight_in_strips row_in weight_in
swept_none all left sorted same = record {
  low = greatest_coordinate;
  bottom = omega (arith, ints);
  sorted = sorted;
  strips = record { strips = tt; above = All-nil (λ s. greatest_coordinate <ℤ s.top) };
  reached = record { least = omega (arith, ints); most = omega (arith, ints) };
  weights = λ x y. omega (arith, ints, same x y);
}

-- the corners that are left begin at height `top`
sorted_here : (low top : ℤ) (ks : List Corner) → AreSortedFrom least_coordinate low ks → BeginAtHeight top ks
    → (top ≤ℤ low) × (top ≤ℤ greatest_coordinate) × AreSortedFrom least_coordinate top ks
sorted_here low top [] sorted none = absurd none
sorted_here low top (k ∷ ks) sorted here = (
  omega (arith, ints, here, sorted.1.height),
  omega (arith, ints, here, sorted.0.height),
  (sorted.0, record { height = omega (arith, ints, here); column = λ _. sorted.0.column.least }, sorted.2),
)

-- sorted corners add nothing above the first of them
added_above : (top : ℤ) (ks : List Corner) (x y : ℤ) → AreSortedFrom least_coordinate top ks → top ≤ℤ y → added_by_all ks x y ≡ pos 0
added_above top ks x y sorted above = added_before least_coordinate top x y ks sorted (omega (arith, ints)) (λ same. absurd (omega (arith, ints)))

pub row_above : {all left : List Corner} {reach : ℤ} {out : List EdgeStrip} → IsSwept all left reach out → AreEdges (last_row out)
row_above {reach = reach} {out = out} so_far = last_lawful so_far.low reach out so_far.strips

module _ {all left : List Corner} {reach : ℤ} {out : List EdgeStrip} {top : ℤ} (so_far : IsSwept all left reach out) (here : BeginAtHeight top left) where
  pub sorted_at : (top ≤ℤ so_far.low) × (top ≤ℤ greatest_coordinate) × AreSortedFrom least_coordinate top left
  sorted_at = sorted_here so_far.low top left so_far.sorted here

  module _ {changes : List Edge} {others : List Corner} (given : AreSweptCorners all) (split : IsSplitHeight top left changes others) where
    -- the weights of the last row, and of the row below height `top`
    row_is : (x : ℤ) → weight_in (last_row out) x ≡ added_by_all all x top
    row_is x =
        omega (arith, ints, weight_below so_far.low reach out so_far.strips x top sorted_at.0, so_far.weights x top, added_above top left x top sorted_at.2 (omega (arith, ints)))

    next_is : (x : ℤ) → weight_in (last_row out) x +ℤ weight_in changes x ≡ added_by_all all x (top -ℤ pos 1)
    next_is x =
        let y = top -ℤ pos 1 in
        let last = weight_below so_far.low reach out so_far.strips x y (omega (arith, ints, sorted_at.0)) in
        omega (arith, ints, last, so_far.weights x y, split.weights x y (omega (arith, ints)), added_above y others x y split.sorted (omega (arith, ints)))

    pub changes_are : AreChanges changes
    changes_are = record {
      sorted = split.edges;
      changes = λ x.
          let old = given.lawful x top in
          let new = given.lawful x (top -ℤ pos 1) in
          record { least = omega (arith, ints, row_is x, next_is x); greatest = omega (arith, ints, row_is x, next_is x) };
      closed = omega (arith, ints, row_is greatest_coordinate, next_is greatest_coordinate, given.closed top, given.closed (top -ℤ pos 1));
    }

    module _ {row : List Edge} (sum : IsEdgeSum (last_row out) changes row) where
      new_is : (x : ℤ) → weight_in row x ≡ added_by_all all x (top -ℤ pos 1)
      unfolding weight_in_both
      new_is x = sum.weights.weights x ∙ next_is x

      pub row_below : AreEdges row
      row_below = record {
        sorted = sum.sorted;
        lawful = λ x. rw (new_is x) (given.lawful x (top -ℤ pos 1));
        closed = new_is greatest_coordinate ∙ given.closed (top -ℤ pos 1);
      }

      pub swept_more : (r next : ℤ) (new : List EdgeStrip) → least_coordinate <ℤ top → IsLeastReach r row → next ≡ int_max reach r
          → ContinueWith top row out new → IsSwept all others next new
      unfolding weight_in_both
      swept_more r next new inside least greater ends =
          let own = reach_of_row r row row_below least in
          let most : next ≤ℤ greatest_weight = omega (arith, ints, clamps, own.most, so_far.reached) in
          let old = wider_strips greatest_coordinate reach next out (omega (arith, ints, clamps)) most so_far.strips.strips in
          let goes = goes_on so_far.low top next row out new (record { strips = old; above = so_far.strips.above }) sorted_at.0
          (record { least = omega (arith, ints); greatest = sorted_at.1 }) row_below
          (record { most = most; within = λ x. wider_reach (omega (arith, ints, clamps)) (own.within x) }) ends in
          record {
            low = top -ℤ pos 1;
            bottom = omega (arith, ints);
            sorted = split.sorted;
            strips = goes.strips;
            reached = record { least = omega (arith, ints, clamps, so_far.reached); most = most };
            weights = λ x y. by_lt_z y top
                (λ lt.
                let last = weight_below so_far.low reach out so_far.strips x y (omega (arith, ints, sorted_at.0)) in
                omega (arith, ints, goes.below x y lt, last, sum.weights.weights x, so_far.weights x y, split.weights x y lt))
                (λ ge.
                let none_left = added_above (top -ℤ pos 1) others x y split.sorted (omega (arith, ints)) in
                omega (arith, ints, goes.above x y ge, so_far.weights x y, added_above top left x y sorted_at.2 ge));
          }

-- no row of the field is below the corners that are left
added_below_field : (x y low : ℤ) (ks : List Corner) → least_coordinate ≤ℤ y → AreSortedFrom least_coordinate low ks → BeginBelowField ks
    → added_by_all ks x y ≡ pos 0
unfolding added_by_all
added_below_field x y low [] inside sorted below = refl
added_below_field x y low (k ∷ ks) inside sorted below =
    added_above least_coordinate (k ∷ ks) x y (sorted.0, record { height = below; column = λ _. sorted.0.column.least }, sorted.2) inside

-- the part ends with the field
pub swept_all : {all left : List Corner} {reach : ℤ} {out new : List EdgeStrip} → IsSwept all left reach out → BeginBelowField left
    → ContinueWith least_coordinate [] out new → AreStrips reach new × HaveFieldStripWeights (added_by_all all) new
swept_all {all} {left} {reach} {out} {new} so_far below ends =
    let height : IsCoordinate least_coordinate = record { least = omega (arith, ints); greatest = omega (arith, ints) } in
    let blank = none_reached reach so_far.reached.least so_far.reached.most in
    let goes = goes_on so_far.low least_coordinate reach [] out new so_far.strips so_far.bottom height no_edges blank ends in
    let under : (x : ℤ) → weight_in_strips new x (least_coordinate -ℤ pos 1) ≡ pos 0 = λ x. goes.below x (least_coordinate -ℤ pos 1) (omega (arith, ints)) ∙ no_weight x in (
      strips_closed reach (weight_in_strips new) (least_coordinate -ℤ pos 1) new goes.strips (record { weights = λ x y. refl }) under so_far.reached.least so_far.reached.most,
      record {
        weights = λ x y inside.
            let none = added_below_field x y so_far.low left inside.bottom so_far.sorted below in
            omega (arith, ints, goes.above x y inside.bottom, so_far.weights x y);
      },
    )

-- ---- the order of the corners does not matter to what they add: it is the difference of two sums of naturals

added_as_sums : (ks : List Corner) (x y : ℤ)
    → added_by_all ks x y ≡ pos (sum_by (λ k. up (added_by k x y)) ks) -ℤ pos (sum_by (λ k. down (added_by k x y)) ks)
unfolding added_by_all
added_as_sums [] x y = omega (arith, ints)
added_as_sums (k ∷ ks) x y =
    let greater = sum_by-cons (λ k. up (added_by k x y)) k ks in
    let less = sum_by-cons (λ k. down (added_by k x y)) k ks in
    omega (arith, ints, added_as_sums ks x y, greater, less)

pub added_by_permuted : (ks ls : List Corner) (x y : ℤ) → IsPermutation ks ls → added_by_all ls x y ≡ added_by_all ks x y
added_by_permuted ks ls x y moved =
    let more = sum_by-IsPermutation (λ k. up (added_by k x y)) ks ls moved in
    let less = sum_by-IsPermutation (λ k. down (added_by k x y)) ks ls moved in
    omega (arith, ints, added_as_sums ks x y, added_as_sums ls x y)

-- ---- corners that were sorted

-- corner k comes before corner l in the order that is sorted by
abbrev pub comes_before : Corner → Corner → Bool
comes_before k l = is_lt (ordering_then (int_cmp l.y k.y) (int_cmp k.x l.x))

past_next : (k l : Corner) → comes_before l k ≡ false → IsPast k.x k.y l
past_next k l not_less = record {
  height = grind (arith, ints, by_ranked, int_ranked);
  column = λ same. grind (arith, ints, by_ranked, int_ranked);
}

sorted_after : (k : Corner) (ks : List Corner) → All IsCornerInRange ks → IsSortedBy comes_before (k ∷ ks) → AreSortedFrom k.x k.y ks
sorted_after k [] in_range sorted = tt
sorted_after k (l ∷ ks) in_range sorted = (
  All-head IsCornerInRange l ks in_range,
  past_next k l (sorted 0 k (omega arith) (omega arith)),
  sorted_after l ks (All-tail IsCornerInRange l ks in_range) (λ i d from lt.
      let next : suc i + 1 ≡ suc (i + 1) = omega arith in
      rw next at (sorted (suc i) d (omega arith) (omega arith))),
)

pub sorted_all : (ks : List Corner) → All IsCornerInRange ks → IsSortedBy comes_before ks → AreSortedFrom least_coordinate greatest_coordinate ks
sorted_all [] in_range sorted = tt
sorted_all (k ∷ ks) in_range sorted =
    let here = All-head IsCornerInRange k ks in_range in
    (here, record { height = here.height.greatest; column = λ _. here.column.least }, sorted_after k ks (All-tail IsCornerInRange k ks in_range) sorted)

-- ---- the corners of contours, which are few and light

part_within : (k : Corner) (x y : ℤ) → IsCorner k → IsCornerWeight (added_by k x y)
unfolding added_by
part_within k x y corner = grind (arith, ints)

added_within : (ks : List Corner) (x y : ℤ) → All IsCorner ks → IsInReach (pos (3 * length ks)) (added_by_all ks x y)
unfolding added_by_all
added_within [] x y corners = grind (arith, ints)
added_within (k ∷ ks) x y corners =
    let first = part_within k x y (All-head IsCorner k ks corners) in
    let rest = added_within ks x y (All-tail IsCorner k ks corners) in
    grind (arith, ints)

pub corners_are_swept : (ks : List Corner) → AreCorners ks → AreSweptCorners ks
corners_are_swept ks corners = record {
  in_range = All-weaker IsCorner IsCornerInRange (λ k corner. record { column = corner.column; height = corner.height }) ks corners.corners;
  lawful = λ x y. grind (arith, ints, added_within ks x y corners.corners);
  closed = corners.closed;
}
