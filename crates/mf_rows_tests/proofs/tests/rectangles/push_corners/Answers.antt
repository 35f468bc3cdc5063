use Rattle.std.proofs.Common.{◌≡◌, ◌≤◌, ℤ, pos, negsuc, ◌+ℤ◌, ◌≤ℤ◌, List, [], ◌∷◌, ◌++◌, length, arith, to_z, of_z, w32}
use Rattle.std.proofs.lemmas.Int.{ints}
use Rattle.std.proofs.lemmas.List.{length-append}
use Rattle.std.proofs.lemmas.List.Elements.{All-append, All-from_recursion}
use Rattle.mf_geom.specs.Coordinates.{greatest_coordinate, IsCoordinate}
use Rattle.mf_rows_strips.specs.declared.corner.Corner.{Corner}
use Rattle.mf_rows.specs.Corners.{AreCorners, IsCorner, added_by, added_by_all}
use Rattle.mf_rows_tests.proofs.tests.rectangles.push_corners.Goals as goal

added_by_all-append : (ks ls : List Corner) (x y : ℤ) → added_by_all (ks ++ ls) x y ≡ added_by_all ks x y +ℤ added_by_all ls x y
unfolding added_by_all
added_by_all-append [] ls x y = omega (arith, ints)
added_by_all-append (k ∷ ks) ls x y = omega (arith, ints, added_by_all-append ks ls x y)

-- right of the field a corner and one of the negated weight at the same height cancel
pair_cancels : (a b y h w v : ℤ) → a ≤ℤ greatest_coordinate → b ≤ℤ greatest_coordinate → w +ℤ v ≡ pos 0
    → added_by (record { x = a; y = h; weight = w }) greatest_coordinate y +ℤ added_by (record { x = b; y = h; weight = v }) greatest_coordinate y ≡ pos 0
unfolding added_by
pair_cancels a b y h w v left right opposite = grind (arith, ints)

-- the corners of a rectangle
abbrev four : ℤ → ℤ → ℤ → ℤ → ℤ → ℤ → List Corner
four l b r t w v =
    record { x = l; y = t; weight = w } ∷ record { x = l; y = b; weight = v } ∷ record { x = r; y = t; weight = v } ∷ record { x = r; y = b; weight = w } ∷ []

is_corner : (x y w : ℤ) → IsCoordinate x → IsCoordinate y → negsuc 2 ≤ℤ w → w ≤ℤ pos 3 → IsCorner (record { x = x; y = y; weight = w })
is_corner x y w column height least greatest = record { column = column; height = height; weight = record { least = least; greatest = greatest } }

-- they may be added to others
with_four : (ks : List Corner) (l b r t w v : ℤ) → AreCorners ks → length ks ≤ 8188 → IsCoordinate l → IsCoordinate b
    → IsCoordinate r → IsCoordinate t → negsuc 2 ≤ℤ w → w ≤ℤ pos 3 → w +ℤ v ≡ pos 0 → AreCorners (ks ++ four l b r t w v)
unfolding added_by_all
with_four ks l b r t w v corners room left bottom right top least greatest opposite = record {
  few = rw length-append (omega (arith, room));
  corners =
      let upper = is_corner l t w left top least greatest in
      let lower = is_corner l b v left bottom (omega (arith, ints, opposite)) (omega (arith, ints, opposite)) in
      let upper_right = is_corner r t v right top (omega (arith, ints, opposite)) (omega (arith, ints, opposite)) in
      let lower_right = is_corner r b w right bottom least greatest in
      All-append IsCorner ks (four l b r t w v) corners.corners
      (All-from_recursion IsCorner (four l b r t w v) (upper, (lower, (upper_right, (lower_right, tt)))));
  closed = λ y.
      rw (added_by_all-append ks (four l b r t w v) greatest_coordinate y, corners.closed y)
      (omega (
        arith,
        ints,
        pair_cancels l r y t w v left.greatest right.greatest opposite,
        pair_cancels l r y b v w left.greatest right.greatest (omega (arith, ints, opposite)),
      ));
}

pub returns : goal.returns
returns g c =
    let left : IsCoordinate (to_z w32 (of_z w32 c.args.rectangle.now.left)) = omega (arith, ints, c.assert_in_reach.ensures) in
    let bottom : IsCoordinate (to_z w32 (of_z w32 c.args.rectangle.now.bottom)) = omega (arith, ints, c.assert_in_reach-2.ensures) in
    let right : IsCoordinate (to_z w32 (of_z w32 c.args.rectangle.now.right)) = omega (arith, ints, c.assert_in_reach-3.ensures) in
    let top : IsCoordinate (to_z w32 (of_z w32 c.args.rectangle.now.top)) = omega (arith, ints, c.assert_in_reach-4.ensures) in
    rw (c.in_ok-extend_from_slice.ensures.items, c.make_corner.ensures, c.make_corner-2.ensures, c.make_corner-3.ensures, c.make_corner-4.ensures)
    (with_four _ _ _ _ _ _ _ c.requires (omega arith) left bottom right top (omega (arith, ints)) (omega (arith, ints)) (omega (arith, ints)))
