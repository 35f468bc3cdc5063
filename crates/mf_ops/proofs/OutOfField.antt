-- When a shift or a scale takes a pixel out of the field, and why no other operation does.
use Rattle.std.proofs.Common.{◌≡◌, ◌≢◌, ◌&&◌, Bool, true, false, ℤ, pos, ◌+ℤ◌, ◌-ℤ◌, ◌*ℤ◌, List, [], ◌∷◌, Some, refl, sym, ◌∙◌, inl, inr, arith}
use Rattle.std.specs.Int.{int_max, int_min}
use Rattle.std.specs.List.{list_any}
use Rattle.std.specs.Ordering.{int_eq}
use Rattle.std.proofs.lemmas.Bool.{and_parts, and_from, and_cases, not-true, not_from_false, false_from_ne_true, or_left, or_right, both_ways, cond_both}
use Rattle.std.proofs.lemmas.Bool.Decides.{Decides-int_eq}
use Rattle.std.proofs.lemmas.Int.{ints, clamps, by_lt_z}
use Rattle.std.proofs.lemmas.List.Elements.{All-contains}
use Rattle.std.proofs.lemmas.List.Folds.{Any-from_list_any}
use Rattle.mf_geom.specs.Coordinates.{least_coordinate, greatest_coordinate}
use Rattle.mf_geom.specs.declared.check.Check.{Check}
use Rattle.mf_geom.specs.declared.point.Point.{Point}
use Rattle.mf_geom.specs.Field.{IsColumnOrRow, IsInField}
use Rattle.mf_geom.specs.Winding.{contour, winding}
use Rattle.mf_rows.specs.declared.sign.Sign.{Sign}
use Rattle.mf_rows.specs.declared.sign.Sign.TheVariants.{Plus, Minus}
use Rattle.mf_rows.specs.Dots.{Dot, IsDot, IsPicture, start_of_field, weight_at}
use Rattle.mf_rows_edges.specs.Axes.{opposite, StaysInside}
use Rattle.mf_rows.proofs.DotsLemmas.{IsAt, weight_at-dot, dots_from-lawful, weight_at-outside}
use Rattle.mf_ops.specs.Cull.{IsLawfulCull, culled_weight}
use Rattle.mf_rows.specs.Moves.{turned_once}
use Rattle.mf_ops.specs.Moves.{Factors, AreFactors, IsFactor, scale_by, scale_source, shift_by, stays_inside, turn_by}
use Rattle.mf_ops.specs.Step.{step_at, leaves, op_fault, LiesOutside, TurnsLawfully}
use Rattle.mf_ops.specs.declared.cull.CullRule.{CullRule}
use Rattle.mf_ops.specs.declared.cull.CullRule.TheVariants.{Keeping, Dropping}
use Rattle.mf_ops.specs.declared.op.Op.{Op}
use Rattle.mf_ops.specs.declared.op.Op.TheVariants as ops
use Rattle.mf_ops.specs.declared.op.Op.TheVariants.{Contour, Also, Cull, Shift, Scale, Clear}
use Rattle.mf_ops.specs.declared.op.OpFault.TheVariants.{OutOfField}
use Rattle.mf_ops.specs.declared.quarter.TurnCount.{TurnCount}
use Rattle.mf_ops.specs.declared.quarter.TurnCount.TheVariants.{Once, Twice, Thrice}
use Rattle.mf_ops.proofs.Faults.{leaves-refused, op_fault-leaves}
use Rattle.mf_ops.proofs.Leaving.{column_inside, row_inside, stays_inside-true}
use Rattle.mf_ops.proofs.ScaleSources.{ScalesOnto, scale_source-covered, scale_source-only, ScalesOnto-first, ScalesOnto-last}

-- where the weight is not 0 there is a dot
list_any-at : (test : Dot → Bool) (ds : List Dot) (x y : ℤ) → weight_at ds x y ≢ pos 0 → ((d : Dot) → IsAt d x y → test d ≡ true) → list_any test ds ≡ true
unfolding weight_at
list_any-at test [] x y nonzero passes = absurd (nonzero refl)
list_any-at test (d ∷ ds) x y nonzero passes =
    cond_both (int_eq d.x x && int_eq d.y y) d.weight (weight_at ds x y) (λ w. w ≢ pos 0 → list_any test (d ∷ ds) ≡ true)
    (λ here other.
    let tests = and_parts (int_eq d.x x) (int_eq d.y y) here in
    or_left (test d) (list_any test ds) (passes d (record { column = (Decides-int_eq d.x x).0 tests.0; row = (Decides-int_eq d.y y).0 tests.1 })))
    (λ elsewhere other. or_right (test d) (list_any test ds) (list_any-at test ds x y other passes))
    nonzero

-- an operation is refused where the dot of some pixel leaves the field
refused_at : (ds : List Dot) (op : Op) (x y : ℤ) → TurnsLawfully op → weight_at ds x y ≢ pos 0
    → ((d : Dot) → IsAt d x y → leaves op d ≡ true) → op_fault ds op ≡ Some OutOfField
refused_at ds op x y turns nonzero leave = op_fault-leaves ds op turns (list_any-at (leaves op) ds x y nonzero leave)

-- a dot of a picture that leaves the field
record IsLeaving (ds : List Dot) (op : Op) (d : Dot) : Type 0 where
  pub nonzero : weight_at ds d.x d.y ≢ pos 0
  pub leaving : leaves op d ≡ true

some_dot_leaves : (ds : List Dot) (op : Op) → IsPicture ds → op_fault ds op ≡ Some OutOfField → (d : Dot) × IsLeaving ds op d
some_dot_leaves ds op picture refused =
    let found = Any-from_list_any (leaves op) ds (leaves-refused ds op refused) in
    let d = found.1 in
    let dot = All-contains IsDot ds d (dots_from-lawful start_of_field ds picture.dots) (found.0, found.2, found.3) in
    let weight = rw found.3 at (weight_at-dot start_of_field ds picture.dots found.0 d found.2) in
    (d, record { nonzero = λ zero. dot.nonzero (sym weight ∙ zero); leaving = found.4 })

-- ---- axes

in_field : (x y : ℤ) → IsColumnOrRow x → IsColumnOrRow y → IsInField x y
in_field x y column row = record { left = column.least; right = column.greatest; bottom = row.least; top = row.greatest }

shift_inside : (d p : ℤ) → stays_inside (shift_by d) p ≡ true → IsColumnOrRow (p +ℤ d)
shift_inside d p stays = grind (arith, ints, stays_inside-true)

stays-inside : (d p : ℤ) → IsColumnOrRow (p +ℤ d) → stays_inside (shift_by d) p ≡ true
stays-inside d p inside = grind (arith, ints, stays_inside-true)

-- where column p stays inside, so do all columns of its part of the axis
scaled_inside : (f p q : ℤ) → ScalesOnto f p q → stays_inside (scale_by f) p ≡ true → IsColumnOrRow q
scaled_inside f p q has stays =
    let ends = (stays_inside-true (scale_by f) p).0 stays in
    let start = ends.start in
    let end = ends.end in
    record { least = omega (arith, ints, clamps); greatest = omega (arith, ints, clamps) }

-- where it does not, the first or the last column of its part lies outside
record HasOutside (f p : ℤ) : Type 0 where
  pub q : ℤ
  pub has : ScalesOnto f p q
  pub outside : IsColumnOrRow q → ⊥

some_outside : (f p : ℤ) → IsFactor f → stays_inside (scale_by f) p ≡ false → HasOutside f p
some_outside f p factor leaves =
    let low = int_min (p *ℤ f) ((p +ℤ pos 1) *ℤ f) in
    let high = int_max (p *ℤ f) ((p +ℤ pos 1) *ℤ f) in
    by_lt_z low least_coordinate
    (λ lt. record { q = low; has = ScalesOnto-first f p factor; outside = λ inside. let least = inside.least in omega (arith, ints) })
    (λ least.
    by_lt_z greatest_coordinate high
    (λ lt. record { q = high -ℤ pos 1; has = ScalesOnto-last f p factor; outside = λ inside. let greatest = inside.greatest in omega (arith, ints) })
    (λ greatest.
    let ends : StaysInside (scale_by f) p = grind (arith, ints, clamps) in
    absurd (both_ways (stays_inside (scale_by f) p) leaves ((stays_inside-true (scale_by f) p).1 ends))))

-- ---- shifts

pub shift-refused : (ds : List Dot) (dx dy : ℤ) → IsPicture ds → op_fault ds (Shift dx dy) ≡ Some OutOfField → LiesOutside (step_at ds (Shift dx dy))
shift-refused ds dx dy picture refused =
    let found = some_dot_leaves ds (Shift dx dy) picture refused in
    let d = found.0 in
    let back_x : (d.x +ℤ dx) -ℤ dx ≡ d.x = omega (arith, ints) in
    let back_y : (d.y +ℤ dy) -ℤ dy ≡ d.y = omega (arith, ints) in
    record {
      x = d.x +ℤ dx;
      y = d.y +ℤ dy;
      outside = λ field. grind (arith, ints, both_ways, not-true, and_from, stays-inside, column_inside, row_inside);
      nonzero = rw (back_x, back_y) found.1.nonzero;
    }

pub shift-outside : (ds : List Dot) (dx dy : ℤ) → LiesOutside (step_at ds (Shift dx dy)) → op_fault ds (Shift dx dy) ≡ Some OutOfField
shift-outside ds dx dy at =
    refused_at ds (Shift dx dy) (at.x -ℤ dx) (at.y -ℤ dy) (record { none = refl }) at.nonzero (λ d here.
    not_from_false (stays_inside (shift_by dx) d.x && stays_inside (shift_by dy) d.y) (false_from_ne_true _ (λ stays.
    let tests = and_parts (stays_inside (shift_by dx) d.x) (stays_inside (shift_by dy) d.y) stays in
    let place_x : d.x +ℤ dx ≡ at.x = let column = here.column in omega (arith, ints) in
    let place_y : d.y +ℤ dy ≡ at.y = let row = here.row in omega (arith, ints) in
    at.outside (in_field at.x at.y (rw place_x at (shift_inside dx d.x tests.0)) (rw place_y at (shift_inside dy d.y tests.1))))))

-- ---- scales

-- a pixel whose column and row lie in the parts of a dot's column and row gets the weight of that dot
scaled_weight : (ds : List Dot) (s : Factors) (d : Dot) (x y : ℤ) → AreFactors s → ScalesOnto s.x d.x x → ScalesOnto s.y d.y y
    → weight_at ds d.x d.y ≢ pos 0 → step_at ds (Scale s) x y ≢ pos 0
scaled_weight ds s d x y factors column row nonzero =
    rw (scale_source-only s.x d.x x factors.columns column, scale_source-only s.y d.y y factors.rows row) nonzero

pub scale-refused : (ds : List Dot) (s : Factors) → IsPicture ds → AreFactors s → op_fault ds (Scale s) ≡ Some OutOfField → LiesOutside (step_at ds (Scale s))
scale-refused ds s picture factors refused =
    let found = some_dot_leaves ds (Scale s) picture refused in
    let d = found.0 in
    let first_x = int_min (d.x *ℤ s.x) ((d.x +ℤ pos 1) *ℤ s.x) in
    let first_y = int_min (d.y *ℤ s.y) ((d.y +ℤ pos 1) *ℤ s.y) in
    elim (and_cases (stays_inside (scale_by s.x) d.x) (stays_inside (scale_by s.y) d.y) (not-true _ found.1.leaving)) [
      | inl across ↦
          let out = some_outside s.x d.x factors.columns across in
          record {
            x = out.q;
            y = first_y;
            outside = λ field. out.outside (column_inside out.q first_y field);
            nonzero = scaled_weight ds s d out.q first_y factors out.has (ScalesOnto-first s.y d.y factors.rows) found.1.nonzero;
          }
      | inr up ↦
          let out = some_outside s.y d.y factors.rows up in
          record {
            x = first_x;
            y = out.q;
            outside = λ field. out.outside (row_inside first_x out.q field);
            nonzero = scaled_weight ds s d first_x out.q factors (ScalesOnto-first s.x d.x factors.columns) out.has found.1.nonzero;
          }
    ]

pub scale-outside : (ds : List Dot) (s : Factors) → AreFactors s → LiesOutside (step_at ds (Scale s)) → op_fault ds (Scale s) ≡ Some OutOfField
scale-outside ds s factors at =
    refused_at ds (Scale s) (scale_source s.x at.x) (scale_source s.y at.y) (record { none = refl }) at.nonzero (λ d here.
    not_from_false (stays_inside (scale_by s.x) d.x && stays_inside (scale_by s.y) d.y) (false_from_ne_true _ (λ stays.
    let tests = and_parts (stays_inside (scale_by s.x) d.x) (stays_inside (scale_by s.y) d.y) stays in
    let column : ScalesOnto s.x d.x at.x = rw here.column (scale_source-covered s.x at.x factors.columns) in
    let row : ScalesOnto s.y d.y at.y = rw here.row (scale_source-covered s.y at.y factors.rows) in
    at.outside (in_field at.x at.y (scaled_inside s.x d.x at.x column tests.0) (scaled_inside s.y d.y at.y row tests.1)))))

-- ---- turns

-- where a pixel lies in the field after a turn, so does the pixel
turn_in_field : (x y : ℤ) → IsInField y (opposite x) → IsInField x y
turn_in_field x y field = in_field x y (grind (arith, ints, row_inside y (opposite x) field)) (column_inside y (opposite x) field)

-- weights that are 0 outside the field stay so under a turn
ZeroOutside : (ℤ → ℤ → ℤ) → Type 0
ZeroOutside f = (x y : ℤ) → (IsInField x y → ⊥) → f x y ≡ pos 0

turn_outside : (f : ℤ → ℤ → ℤ) → ZeroOutside f → ZeroOutside (turned_once f)
unfolding ZeroOutside
turn_outside f zero x y outside = zero y (opposite x) (λ field. outside (turn_in_field x y field))

turn_by-outside : (q : TurnCount) (f : ℤ → ℤ → ℤ) → ZeroOutside f → ZeroOutside (turn_by q f)
turn_by-outside Once f zero = turn_outside f zero
turn_by-outside Twice f zero = turn_outside (turned_once f) (turn_outside f zero)
turn_by-outside Thrice f zero = turn_outside (turned_once (turned_once f)) (turn_outside (turned_once f) (turn_outside f zero))

pub turn-inside : (ds : List Dot) (q : TurnCount) → IsPicture ds → LiesOutside (step_at ds (ops.Quarter q)) → ⊥
unfolding ZeroOutside
turn-inside ds q picture at =
    at.nonzero (turn_by-outside q (weight_at ds) (λ x y outside. weight_at-outside ds x y picture outside) at.x at.y at.outside)

-- ---- all other operations

-- the winding number is 0 outside the field
pub contour-inside : (ds : List Dot) (ps : List Point) (w : ℤ) (check : Check) → IsPicture ds
    → ((x y : ℤ) → (IsInField x y → ⊥) → winding ps x y ≡ pos 0) → LiesOutside (step_at ds (Contour ps w check)) → ⊥
unfolding contour
contour-inside ds ps w check picture none at =
    at.nonzero (rw (weight_at-outside ds at.x at.y picture at.outside, none at.x at.y at.outside) (omega (arith, ints)))

pub also-inside : (ds es : List Dot) (s : Sign) → IsPicture ds → IsPicture es → LiesOutside (step_at ds (Also es s)) → ⊥
also-inside ds es Plus picture other at =
    at.nonzero (omega (arith, ints, weight_at-outside ds at.x at.y picture at.outside, weight_at-outside es at.x at.y other at.outside))
also-inside ds es Minus picture other at =
    at.nonzero (omega (arith, ints, weight_at-outside ds at.x at.y picture at.outside, weight_at-outside es at.x at.y other at.outside))

-- a lawful cull leaves weight 0 unchanged
culled_zero : (c : CullRule) → IsLawfulCull c → culled_weight c (pos 0) ≡ pos 0
culled_zero (Keeping a b w) lawful = grind (arith, ints)
culled_zero (Dropping a b w) lawful = grind (arith, ints)

pub cull-inside : (ds : List Dot) (c : CullRule) → IsPicture ds → IsLawfulCull c → LiesOutside (step_at ds (Cull c)) → ⊥
cull-inside ds c picture lawful at = at.nonzero (rw (weight_at-outside ds at.x at.y picture at.outside) (culled_zero c lawful))

pub clear-inside : (ds : List Dot) → LiesOutside (step_at ds Clear) → ⊥
clear-inside ds at = at.nonzero refl
