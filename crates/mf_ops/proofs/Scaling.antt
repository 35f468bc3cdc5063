-- Pictures that are scaled: a negative factor reflects, and the absolute values of the factors stretch.
use Rattle.std.proofs.Common.{◌≡◌, ◌≢◌, Bool, ℤ, pos, negsuc, nat_abs, ◌≤ℤ◌, int_lt, List, sym, subst, arith}
use Rattle.std.proofs.lemmas.Bool.{cond-false}
use Rattle.std.proofs.lemmas.Int.{ints, by_lt_z}
use Rattle.std.specs.List.{All}
use Rattle.mf_geom.specs.Coordinates.{least_coordinate, greatest_coordinate, last_in_field}
use Rattle.mf_rows_edges.specs.declared.stretch.Stretch.{Stretch}
use Rattle.mf_rows.specs.Dots.{Dot, IsPicture, weight_at}
use Rattle.mf_rows_edges.specs.Axes.{IsStretch, StaysInside, opposite, source_of}
use Rattle.mf_rows.specs.Moves.{PixelsStayInside, moved_columns, moved_rows}
use Rattle.mf_rows.specs.Sums.{HasWeights}
use Rattle.mf_rows.proofs.DotsLemmas.{dots_from-lawful, weight_at-dot}
use Rattle.mf_rows_edges.proofs.Sources.{source_of-reached, source_of-from}
use Rattle.mf_ops.specs.Moves.{Factors, IsFactor, on_side, reflection, scale_by, scale_source}
use Rattle.mf_ops.specs.Step.{step_at}
use Rattle.mf_ops.proofs.ScaleSources.{IsStretch-size, by_size, end-negative, opposite-opposite, start-negative}
use Rattle.mf_ops.specs.declared.op.Op.TheVariants.{Scale}
use mir.Syntax.{w32}
use mir.Val.{to_z, of_z}
use Rattle.mf_rows.proofs.StretchBounds.{holds_at_weight}

pub factor_passed : (z f : ℤ) → IsFactor z → z ≡ f → to_z w32 (of_z w32 z) ≡ f
factor_passed z f is_factor value = grind (arith, ints)

-- what the code makes of a factor f: its value a, and the stretches by f and by its absolute value
pub record AreMade (f a : ℤ) (signed sized : Stretch) : Type 0 where
  pub factor : IsFactor f
  pub passed : a ≡ f
  pub signed_is : signed ≡ scale_by f
  pub sized_is : sized ≡ by_size f

pub stretches_made : {z f n : ℤ} {signed sized : Stretch} → IsFactor z → z ≡ f → signed ≡ scale_by (to_z w32 (of_z w32 z))
    → n ≡ pos (nat_abs (to_z w32 (of_z w32 z))) → sized ≡ scale_by (to_z w32 (of_z w32 n)) → AreMade f (to_z w32 (of_z w32 z)) signed sized
stretches_made {z} {f} {n} {signed} {sized} is_factor value signed_made size sized_made = grind (arith, ints, factor_passed, IsStretch-size, sym)

pub IsStretch-made : {f a : ℤ} {signed sized : Stretch} → AreMade f a signed sized → IsStretch sized
IsStretch-made {f} {a} {signed} {sized} made = rw made.sized_is (IsStretch-size f made.factor)

-- the source of a column, or row, of the field is in the field
source_of-least : (f q : ℤ) → IsFactor f → least_coordinate ≤ℤ q → least_coordinate ≤ℤ source_of (by_size f) q
source_of-least f q is_factor least =
    let stretch = IsStretch-size f is_factor in
    let at_least = stretch.least in
    source_of-from (by_size f) least_coordinate q stretch (omega (arith, ints))

source_of-greatest : (f q : ℤ) → IsFactor f → q ≤ℤ last_in_field → source_of (by_size f) q ≤ℤ last_in_field
source_of-greatest f q is_factor greatest =
    by_lt_z last_in_field (source_of (by_size f) q)
    (λ beyond.
    let stretch = IsStretch-size f is_factor in
    let at_least = stretch.least in
    let reached = source_of-reached (by_size f) greatest_coordinate q stretch (omega (arith, ints)) in
    absurd (omega (arith, ints)))
    (λ within. within)

pub HasWeights-scale : (ds : List Dot) {middle new : List Dot} (s : Factors) {a b : ℤ} {columns rows sized_columns sized_rows : Stretch}
    → AreMade s.x a columns sized_columns → AreMade s.y b rows sized_rows
    → HasWeights (reflection (int_lt a (pos 0)) (int_lt b (pos 0)) (weight_at ds)) middle
    → HasWeights (moved_rows (source_of sized_rows) (moved_columns (source_of sized_columns) (weight_at middle))) new → HasWeights (step_at ds (Scale s)) new
unfolding scale_source
HasWeights-scale ds {middle} {new} s {a} {b} {columns} {rows} {sized_columns} {sized_rows} x y reflected stretched =
    grind (arith, ints, by_size, source_of-least, source_of-greatest)

-- the ends of a column, or row, change places when it goes to the other side of 0
StaysInside-size : (f p : ℤ) → StaysInside (scale_by f) (on_side (int_lt f (pos 0)) p) → StaysInside (by_size f) p
StaysInside-size (pos n) p inside = subst (StaysInside (scale_by (pos n))) (cond-false _ (opposite p) p (grind (arith, ints))) inside
StaysInside-size (negsuc n) p inside = grind (arith, ints, opposite-opposite, end-negative, start-negative)

-- each dot of the reflected picture comes from a pixel of nonzero weight
reflected_dots : (columns rows : Bool) (ds middle : List Dot) → IsPicture middle → HasWeights (reflection columns rows (weight_at ds)) middle
    → All (λ d. weight_at ds (on_side columns d.x) (on_side rows d.y) ≢ pos 0) middle
reflected_dots columns rows ds middle picture reflected k d lt = grind (arith, ints, dots_from-lawful, sym, weight_at-dot)

-- so the reflected picture stays in the field when it is stretched, where the picture does when it is scaled
pub PixelsStayInside-reflected : (ds middle : List Dot) (s : Factors) → IsPicture middle
    → HasWeights (reflection (int_lt s.x (pos 0)) (int_lt s.y (pos 0)) (weight_at ds)) middle → PixelsStayInside (scale_by s.x) (scale_by s.y) ds
    → PixelsStayInside (by_size s.x) (by_size s.y) middle
PixelsStayInside-reflected ds middle s picture reflected inside =
    let nonzero = reflected_dots _ _ ds middle picture reflected in
    record {
      across = λ k d lt. StaysInside-size s.x _ (holds_at_weight (λ x y. StaysInside (scale_by s.x) x) ds _ _ inside.across (nonzero k d lt));
      up = λ k d lt. StaysInside-size s.y _ (holds_at_weight (λ x y. StaysInside (scale_by s.y) y) ds _ _ inside.up (nonzero k d lt));
    }
