-- The least box of a picture.
use Rattle.std.specs.Prelude.{◌≡◌, ◌≤ℤ◌, ◌<ℤ◌, ℤ, pos, Bool, true, false, not, int_lt, All, Any, List, Option, None, Some, if◌then◌else◌}
use Rattle.std.specs.Ordering.{int_eq}
use Rattle.mf_geom.specs.Coordinates.{greatest_coordinate}
use Rattle.mf_rows.specs.declared.bounds.Box4.{Box4}
use Rattle.mf_rows.specs.declared.bounds.Pixels.{Pixels}
use Rattle.mf_rows.specs.declared.bounds.Pixels.TheVariants.{Nonzero, Black}
use Rattle.mf_rows.specs.Boxes.{box_round_both}
use Rattle.mf_rows.specs.Dots.{Dot, weight_at}

-- the pixel (x, y) lies in the box, ends included
pub record IsIn (b : Box4) (x y : ℤ) : Type 0 where
  pub left : b.min_x ≤ℤ x
  pub right : x ≤ℤ b.max_x
  pub bottom : b.min_y ≤ℤ y
  pub top : y ≤ℤ b.max_y

-- a dot lies in the box
abbrev pub IsDotIn : Box4 → Dot → Type 0
IsDotIn b d = IsIn b d.x d.y

-- the box is the least one: each dot lies in it, and there is a dot at each of its sides
pub record IsLeastBox (ds : List Dot) (b : Box4) : Type 0 where
  pub within : All (IsDotIn b) ds
  pub left : Any (λ d. d.x ≡ b.min_x) ds
  pub right : Any (λ d. d.x ≡ b.max_x) ds
  pub bottom : Any (λ d. d.y ≡ b.min_y) ds
  pub top : Any (λ d. d.y ≡ b.max_y) ds

-- the box is the least one round the pixels at which f is true: they lie in it, and there is one at each of its sides
pub record IsBoxRound (f : ℤ → ℤ → Bool) (b : Box4) : Type 0 where
  pub within : (x y : ℤ) → f x y ≡ true → IsIn b x y
  pub left : (y : ℤ) × (f b.min_x y ≡ true)
  pub right : (y : ℤ) × (f b.max_x y ≡ true)
  pub bottom : (x : ℤ) × (f x b.min_y ≡ true)
  pub top : (x : ℤ) × (f x b.max_y ≡ true)

-- the least box round the pixels at which f is true, or none where there are none
abbrev pub AreBounds : (ℤ → ℤ → Bool) → Option Box4 → Type 0
AreBounds f None = (x y : ℤ) → f x y ≡ false
AreBounds f (Some b) = IsBoxRound f b

-- the pixel (x, y) is one at which f is true, and its row is row h or above it
unfoldable pub from_row : ℤ → (ℤ → ℤ → Bool) → ℤ → ℤ → Bool
from_row h f x y = if int_lt y h then false else f x y

-- in row y, the columns to the left of column x at which f is true are from `first` to `last`, and it is true at these two,
-- unless `first` is beyond the field: then there are none. `first` and `last` are to the left of x where x is the end of the
-- field and f is false outside it; else they need not be
pub record AreColumns (f : ℤ → ℤ → Bool) (y x first last : ℤ) : Type 0 where
  pub within : (z : ℤ) → z <ℤ x → f z y ≡ true → (first ≤ℤ z) × (z ≤ℤ last)
  pub ends : first <ℤ greatest_coordinate → (f first y ≡ true) × (f last y ≡ true)

-- the weight of the pixel (x, y) is positive
unfoldable pub is_positive_at : List Dot → ℤ → ℤ → Bool
is_positive_at ds x y = int_lt (pos 0) (weight_at ds x y)

-- a pixel of weight w is one of these
abbrev pub is_among : Pixels → ℤ → Bool
is_among Nonzero w = not (int_eq w (pos 0))
is_among Black w = int_lt (pos 0) w

-- the pixel (x, y) is one of these where the weights are those of f
unfoldable pub among : Pixels → (ℤ → ℤ → ℤ) → ℤ → ℤ → Bool
among p f x y = is_among p (f x y)

-- the least box round a box and another, if there is one
abbrev pub with_box : Option Box4 → Box4 → Box4
with_box None b = b
with_box (Some a) b = box_round_both a b
