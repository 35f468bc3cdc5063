-- The definitions, computed for cycles whose numbers are known.
use Rattle.std.proofs.Common.{◌≡◌, ℤ, pos, negsuc, List, [], ◌∷◌, refl}
use Rattle.mf_geom.specs.declared.check.Check.TheVariants.{Off, On}
use Rattle.mf_geom.specs.declared.point.Point.{Point}
use Rattle.mf_geom.specs.Area.{area, shoelace_at}
use Rattle.mf_geom.specs.Path.{point_at, next_place, previous_place, segment_at, segment_into, across, up}
use Rattle.mf_geom.specs.Sum.{sum_below}
use Rattle.mf_geom.specs.Turning.{turn, turn_at, turning}
use Rattle.mf_geom.specs.Winding.{quadrant, quarter_along, quarter_at, winding, contour}

point : ℤ → ℤ → Point
point x y = record { x = x; y = y }

-- a rectangle of 3 by 2 pixels, counterclockwise
rectangle : List Point
unfolding point
rectangle = point (pos 0) (pos 0) ∷ point (pos 3) (pos 0) ∷ point (pos 3) (pos 2) ∷ point (pos 0) (pos 2) ∷ []

turning-rectangle : turning rectangle ≡ pos 1
unfolding turning sum_below turn_at turn segment_into segment_at point_at next_place previous_place across up rectangle
turning-rectangle = refl

winding-rectangle : winding rectangle (pos 2) (pos 1) ≡ pos 1
unfolding winding sum_below quarter_at quarter_along quadrant segment_at point_at next_place rectangle
winding-rectangle = refl

winding-beside_rectangle : winding rectangle (pos 3) (pos 1) ≡ pos 0
unfolding winding sum_below quarter_at quarter_along quadrant segment_at point_at next_place rectangle
winding-beside_rectangle = refl

area-rectangle : area rectangle ≡ pos 6
unfolding area sum_below shoelace_at point_at next_place rectangle
area-rectangle = refl

-- the same rectangle, clockwise
clockwise : List Point
unfolding point
clockwise = point (pos 0) (pos 0) ∷ point (pos 0) (pos 2) ∷ point (pos 3) (pos 2) ∷ point (pos 3) (pos 0) ∷ []

turning-clockwise : turning clockwise ≡ negsuc 0
unfolding turning sum_below turn_at turn segment_into segment_at point_at next_place previous_place across up clockwise
turning-clockwise = refl

area-clockwise : area clockwise ≡ negsuc 5
unfolding area sum_below shoelace_at point_at next_place clockwise
area-clockwise = refl

contour-clockwise : contour clockwise (pos 1) On (pos 0) (pos 0) ≡ pos 1
unfolding contour turning turn_at turn segment_into previous_place across up
    winding sum_below quarter_at quarter_along quadrant segment_at point_at next_place clockwise
contour-clockwise = refl

contour-clockwise_unchecked : contour clockwise (negsuc 1) Off (pos 0) (pos 0) ≡ pos 2
unfolding contour winding sum_below quarter_at quarter_along quadrant segment_at point_at next_place clockwise
contour-clockwise_unchecked = refl

-- a square of 2 by 2 pixels, walked twice
twice : List Point
unfolding point
twice =
    point (pos 0) (pos 0) ∷ point (pos 2) (pos 0) ∷ point (pos 2) (pos 2) ∷ point (pos 0) (pos 2) ∷ point (pos 0)
    (pos 0) ∷ point (pos 2) (pos 0) ∷ point (pos 2) (pos 2) ∷ point (pos 0) (pos 2) ∷ []

turning-twice : turning twice ≡ pos 2
unfolding turning sum_below turn_at turn segment_into segment_at point_at next_place previous_place across up twice
turning-twice = refl

winding-twice : winding twice (pos 1) (pos 0) ≡ pos 2
unfolding winding sum_below quarter_at quarter_along quadrant segment_at point_at next_place twice
winding-twice = refl

area-twice : area twice ≡ pos 8
unfolding area sum_below shoelace_at point_at next_place twice
area-twice = refl

-- a vertex at which the path goes straight on is no turn
straight : List Point
unfolding point
straight = point (pos 0) (pos 0) ∷ point (pos 1) (pos 0) ∷ point (pos 3) (pos 0) ∷ point (pos 3) (pos 2) ∷ point (pos 0) (pos 2) ∷ []

turning-straight : turning straight ≡ pos 1
unfolding turning sum_below turn_at turn segment_into segment_at point_at next_place previous_place across up straight
turning-straight = refl

-- two squares that meet in a figure of eight
eight : List Point
unfolding point
eight = point (pos 0) (pos 0) ∷ point (pos 1) (pos 0) ∷ point (pos 1) (pos 2) ∷ point (pos 2) (pos 2) ∷ point (pos 2) (pos 1) ∷ point (pos 0) (pos 1) ∷ []

turning-eight : turning eight ≡ pos 0
unfolding turning sum_below turn_at turn segment_into segment_at point_at next_place previous_place across up eight
turning-eight = refl

winding-eight_low : winding eight (pos 0) (pos 0) ≡ pos 1
unfolding winding sum_below quarter_at quarter_along quadrant segment_at point_at next_place eight
winding-eight_low = refl

contour-eight_unchecked : contour eight (pos 1) Off (pos 1) (pos 1) ≡ negsuc 0
unfolding contour winding sum_below quarter_at quarter_along quadrant segment_at point_at next_place eight
contour-eight_unchecked = refl

winding-eight_high : winding eight (pos 1) (pos 1) ≡ negsuc 0
unfolding winding sum_below quarter_at quarter_along quadrant segment_at point_at next_place eight
winding-eight_high = refl
