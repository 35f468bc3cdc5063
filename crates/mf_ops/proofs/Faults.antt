-- The picture after an operation, and when the operation is refused.
use Rattle.std.proofs.Common.{◌≡◌, ◌≢◌, ◌↔◌, ◌⊎◌, inl, inr, Bool, true, false, cond, Option, None}
use Rattle.std.proofs.Common.{Some, ℤ, pos, ◌+ℤ◌, List, [], ◌∷◌, refl, sym, ap, ◌∙◌, arith}
use Rattle.std.proofs.lemmas.Int.{ints}
use Rattle.std.proofs.lemmas.Bool.{cond_both, false_from_ne_true, or_from, true_from_ne_false, or_parts, both_ways}
use Rattle.std.proofs.lemmas.List.Elements.{All-contains}
use Rattle.std.proofs.lemmas.List.Folds.{Any-from_list_any}
use Rattle.std.specs.List.{list_any}
use Rattle.std.specs.Option.{option_map, option_or}
use Rattle.mf_geom.specs.declared.check.Check.{Check}
use Rattle.mf_geom.specs.declared.check.Check.TheVariants.{On}
use Rattle.mf_geom.specs.declared.cycle.CycleFault.{CycleFault}
use Rattle.mf_geom.specs.Faults.{turning_fault}
use Rattle.mf_geom.specs.Winding.{filling_weight, contour}
use Rattle.mf_geom.specs.Field.{IsInField}
use Rattle.mf_rows_strips.specs.declared.fault.AddFault.{AddFault}
use Rattle.mf_rows_strips.specs.declared.fault.AddFault.TheVariants as add
use Rattle.mf_rows_edges.specs.LawfulWeights.{IsLawfulWeight}
use Rattle.mf_rows.specs.Dots.{Dot, AreDotsFrom, IsPicture, weight_at, place}
use Rattle.mf_rows.specs.Sums.{HasWeights, IsUnlawfulSomewhere}
use Rattle.mf_rows.specs.Weights.{picture_of}
use Rattle.mf_rows.proofs.WeightsLemmas.{IsDotOf, weight_at-picture_of, lawful_picture_of, picture_of-from_weights, picture_of-dots}
use Rattle.mf_ops.specs.Faults.{sum_fault}
use Rattle.mf_ops.specs.Sides.{FillsWith}
use Rattle.mf_ops.specs.Step.{is_too_large, step_at, next_picture, leaves, StaysInField}
use Rattle.mf_ops.specs.Step.{TurnsLawfully, weight_fault, pixel_fault, cycle_fault, op_fault}
use Rattle.mf_ops.specs.declared.op.Op.{Op}
use Rattle.mf_ops.specs.declared.op.Op.TheVariants as ops
use Rattle.mf_ops.specs.declared.op.Op.TheVariants.{Contour}
use Rattle.mf_ops.specs.declared.op.OpFault.{OpFault}
use Rattle.mf_ops.specs.declared.op.OpFault.TheVariants.{Cycle, OutOfField, WeightTooLarge, OutOfMemory}
use Rattle.mf_geom.specs.declared.point.Point.{Point}

is_too_large-false : (w : ℤ) → (is_too_large w ≡ false) ↔ IsLawfulWeight w
is_too_large-false w = (λ passes. record { least = grind (arith, ints); greatest = grind (arith, ints) }, λ lawful. grind (arith, ints))

none_too_large : (low : ℤ) (ds : List Dot) → AreDotsFrom low ds → list_any (λ d. is_too_large d.weight) ds ≡ false
none_too_large low [] dots = refl
none_too_large low (d ∷ ds) dots =
    or_from _ _ ((is_too_large-false d.weight).1 dots.0.lawful) (none_too_large (place d.x d.y +ℤ pos 1) ds dots.2)

-- where the weight of no dot is too large, that of no pixel is
weight_at-not_too_large : (ds : List Dot) (x y : ℤ) → list_any (λ d. is_too_large d.weight) ds ≡ false → is_too_large (weight_at ds x y) ≡ false
unfolding weight_at
weight_at-not_too_large [] x y none = refl
weight_at-not_too_large (d ∷ ds) x y none =
    let parts = or_parts (is_too_large d.weight) (list_any (λ e. is_too_large e.weight) ds) none in
    cond_both _ d.weight (weight_at ds x y) (λ w. is_too_large w ≡ false) (λ here. parts.0) (λ elsewhere. weight_at-not_too_large ds x y parts.1)

some_too_large : (f : ℤ → ℤ → ℤ) → IsUnlawfulSomewhere f → list_any (λ d. is_too_large d.weight) (picture_of f) ≡ true
some_too_large f at =
    let weight = weight_at-picture_of f at.x at.y at.in_field in
    true_from_ne_false _ (λ none. at.unlawful ((is_too_large-false (f at.x at.y)).0 (rw weight at (weight_at-not_too_large (picture_of f) at.x at.y none))))

-- where a picture has the weights f, and g equals f, it has the weights g
pub HasWeights-same : (f g : ℤ → ℤ → ℤ) (ds : List Dot) → ((x y : ℤ) → f x y ≡ g x y) → HasWeights f ds → HasWeights g ds
HasWeights-same f g ds same has = record { weights = λ x y in_field. has.weights x y in_field ∙ same x y }

-- a picture that has the weights of a step is the picture after that step
pub next_picture-from_weights : (ds : List Dot) (op : Op) (new : List Dot) → IsPicture new → HasWeights (step_at ds op) new → new ≡ next_picture ds op
unfolding next_picture
next_picture-from_weights ds op new picture has = picture_of-from_weights new (step_at ds op) picture has.weights

-- ---- how the cycle turns

-- a fault in how a cycle turns comes before all others
pub op_fault-cycle : (ds : List Dot) (op : Op) (fault : OpFault) → cycle_fault op ≡ Some fault → op_fault ds op ≡ Some fault
unfolding op_fault
op_fault-cycle ds op fault found = ap (λ (turn : Option OpFault). option_or turn (pixel_fault ds op)) found

-- where the turning check finds none, the pixels decide
op_fault-pixels : (ds : List Dot) (op : Op) → TurnsLawfully op → op_fault ds op ≡ pixel_fault ds op
unfolding op_fault
op_fault-pixels ds op turns = ap (λ (turn : Option OpFault). option_or turn (pixel_fault ds op)) turns.none

-- a cycle passes its turning check or has a fault
TurnsOrFails : Op → Type 0
TurnsOrFails op = TurnsLawfully op ⊎ ((f : CycleFault) × (cycle_fault op ≡ Some (Cycle f)))

cycle_turns_or_fails : (ps : List Point) (w : ℤ) (found : Option CycleFault) → turning_fault ps ≡ found → TurnsOrFails (Contour ps w On)
unfolding TurnsOrFails
cycle_turns_or_fails ps w None is = inl (record { none = ap (option_map Cycle) is })
cycle_turns_or_fails ps w (Some f) is = inr (f, ap (option_map Cycle) is)

turns_or_fails : (op : Op) → TurnsOrFails op
unfolding TurnsOrFails
turns_or_fails (Contour ps w On) = cycle_turns_or_fails ps w (turning_fault ps) refl
turns_or_fails op = inl (record { none = refl })

-- a fault that is not one of the cycle is one of the pixels
from_pixels : (ds : List Dot) (op : Op) (found : Option OpFault) → ((f : CycleFault) → Some (Cycle f) ≢ found) → op_fault ds op ≡ found
    → TurnsLawfully op × (pixel_fault ds op ≡ found)
unfolding TurnsOrFails
from_pixels ds op found other is = grind (arith, ints, turns_or_fails, sym, op_fault-pixels, op_fault-cycle)

pixels_not_turning : (out large : Bool) (f : CycleFault) → cond out (Some OutOfField) (cond large (Some WeightTooLarge) None) ≢ Some (Cycle f)
pixels_not_turning true large f same = cc
pixels_not_turning false true f same = cc
pixels_not_turning false false f same = cc

-- an operation whose cycle passes the turning check is not refused for its cycle
pub not_turning : (ds : List Dot) (op : Op) (f : CycleFault) → TurnsLawfully op → op_fault ds op ≢ Some (Cycle f)
not_turning ds op f turns same = pixels_not_turning _ _ f (sym (op_fault-pixels ds op turns) ∙ same)

refused_from : (ds : List Dot) (ps : List Point) (w : ℤ) (fault : CycleFault) (found : Option CycleFault) → turning_fault ps ≡ found
    → op_fault ds (Contour ps w On) ≡ Some (Cycle fault) → turning_fault ps ≡ Some fault
refused_from ds ps w fault None is refused = absurd (not_turning ds (Contour ps w On) fault (record { none = ap (option_map Cycle) is }) refused)
refused_from ds ps w fault (Some f) is refused =
    let first = op_fault-cycle ds (Contour ps w On) (Cycle f) (ap (option_map Cycle) is) in
    let same : f ≡ fault = cc in
    is ∙ ap Some same

-- a contour that is refused for its cycle has a cycle with that fault
pub turning_fault-refused : (ds : List Dot) (ps : List Point) (w : ℤ) (fault : CycleFault)
    → op_fault ds (Contour ps w On) ≡ Some (Cycle fault) → turning_fault ps ≡ Some fault
turning_fault-refused ds ps w fault refused = refused_from ds ps w fault (turning_fault ps) refl refused

-- a contour that passes its check is filled with the weight that the check gives it
pub FillsWith-checked : (ps : List Point) (w : ℤ) (check : Check) → cycle_fault (Contour ps w check) ≡ None
    → FillsWith (Contour ps w check) ps (filling_weight check ps w)
unfolding next_picture contour
FillsWith-checked ps w check turns = grind (arith, ints, not_turning, op_fault-pixels, sym)

-- ---- faults of pixels

-- an operation that can be refused only for its weights
pub record IsForWeights (ds : List Dot) (op : Op) : Type 0 where
  pub turns : TurnsLawfully op
  pub stays : StaysInField ds op

-- for such an operation the weights alone decide
op_fault-inside : (ds : List Dot) (op : Op) → IsForWeights ds op → op_fault ds op ≡ weight_fault (next_picture ds op)
op_fault-inside ds op inside =
    op_fault-pixels ds op inside.turns ∙ (λ t. cond (inside.stays.none_leaves t) (Some OutOfField) (weight_fault (next_picture ds op)))

pub op_fault-leaves : (ds : List Dot) (op : Op) → TurnsLawfully op → list_any (leaves op) ds ≡ true → op_fault ds op ≡ Some OutOfField
op_fault-leaves ds op turns leaves_it = op_fault-pixels ds op turns ∙ (λ t. cond (leaves_it t) (Some OutOfField) (weight_fault (next_picture ds op)))

-- a picture that has the weights of a step is the one after the operation, which is not refused
pub made-from_weights : (ds : List Dot) (op : Op) (new : List Dot) → IsForWeights ds op → IsPicture new → HasWeights (step_at ds op) new
    → (new ≡ next_picture ds op) × (op_fault ds op ≡ None)
made-from_weights ds op new stays picture has = grind (arith, ints, next_picture-from_weights, none_too_large, op_fault-inside, sym)

-- a step with an unlawful weight is refused
pub op_fault-too_large : (ds : List Dot) (op : Op) → IsForWeights ds op → IsUnlawfulSomewhere (step_at ds op) → op_fault ds op ≡ Some WeightTooLarge
unfolding next_picture
op_fault-too_large ds op stays too_large = op_fault-inside ds op stays ∙ (λ t. cond (some_too_large (step_at ds op) too_large t) (Some WeightTooLarge) None)

-- where a sum is refused, and not because an allocation fails, the step is refused for the same reason
pub op_fault-sum_fault : (ds : List Dot) (op : Op) (fault : AddFault) → IsForWeights ds op
    → (fault ≢ add.OutOfMemory → IsUnlawfulSomewhere (step_at ds op)) → sum_fault fault ≢ OutOfMemory
    → op_fault ds op ≡ Some (sum_fault fault)
op_fault-sum_fault ds op add.WeightTooLarge stays unlawful other = op_fault-too_large ds op stays (unlawful (λ same. cc))
op_fault-sum_fault ds op add.OutOfMemory stays unlawful other = absurd (other refl)

-- most operations take no pixel out of the field
never : (ds : List Dot) → list_any (λ d. false) ds ≡ false
never [] = refl
never (d ∷ ds) = never ds

stays_everywhere : (ds : List Dot) (op : Op) → TurnsLawfully op → list_any (leaves op) ds ≡ false → IsForWeights ds op
stays_everywhere ds op turns none = record { turns = turns; stays = record { none_leaves = none } }

-- so where they do not turn, only the weights decide
pub stays_anyway : (ds : List Dot) (op : Op) → cycle_fault op ≡ None → (leaves op ≡ (λ d. false)) → IsForWeights ds op
stays_anyway ds op none leaves_none = stays_everywhere ds op (record { none = none }) (ap (λ test. list_any test ds) leaves_none ∙ never ds)

-- and a picture that has the weights of their step is the one after them
pub makes_anyway : (ds : List Dot) (op : Op) (new : List Dot) → cycle_fault op ≡ None → (leaves op ≡ (λ d. false)) → IsPicture new
    → HasWeights (step_at ds op) new → (new ≡ next_picture ds op) × (op_fault ds op ≡ None)
makes_anyway ds op new none leaves_none = made-from_weights ds op new (stays_anyway ds op none leaves_none)

-- so they are not refused with OutOfField
weight_fault-not_out : (large : Bool) → cond large (Some WeightTooLarge) None ≢ Some OutOfField
weight_fault-not_out true same = cc
weight_fault-not_out false same = cc

pub not_out : (ds : List Dot) (op : Op) → IsForWeights ds op → op_fault ds op ≢ Some OutOfField
not_out ds op stays out = weight_fault-not_out _ (sym (op_fault-inside ds op stays) ∙ out)

-- the operation may take a pixel out of the field: it is a shift or a scale
abbrev pub MayLeave : Op → Type 0
MayLeave (ops.Shift dx dy) = Unit {0}
MayLeave (ops.Scale s) = Unit {0}
MayLeave op = ⊥

-- so only a shift or a scale is refused with OutOfField
pub may_leave : (ds : List Dot) (op : Op) → op_fault ds op ≡ Some OutOfField → MayLeave op
may_leave ds (ops.Shift dx dy) out = tt
may_leave ds (ops.Scale s) out = tt
may_leave ds op out =
    let found = from_pixels ds op (Some OutOfField) (λ f same. cc) out in
    not_out ds op (stays_everywhere ds op found.0 (never ds)) out

-- what each answer says about the two tests
none_where_lawful : (out large : Bool) → cond out (Some OutOfField) (cond large (Some WeightTooLarge) None) ≡ None → (out ≡ false) × (large ≡ false)
none_where_lawful false false none = (refl, refl)
none_where_lawful out large none = cc

some_where_too_large : (out large : Bool) → cond out (Some OutOfField) (cond large (Some WeightTooLarge) None) ≡ Some WeightTooLarge
    → (out ≡ false) × (large ≡ true)
some_where_too_large false true some = (refl, refl)
some_where_too_large out large some = cc

some_where_out : (out large : Bool) → cond out (Some OutOfField) (cond large (Some WeightTooLarge) None) ≡ Some OutOfField → out ≡ true
some_where_out true large some = refl
some_where_out false true some = cc
some_where_out false false some = cc

-- an accepted operation passes the turning check, and its pixels have no fault
pixels-accepted : (ds : List Dot) (op : Op) → op_fault ds op ≡ None → TurnsLawfully op × (pixel_fault ds op ≡ None)
pixels-accepted ds op none = from_pixels ds op None (λ f same. cc) none

pub stays-accepted : (ds : List Dot) (op : Op) → op_fault ds op ≡ None → StaysInField ds op
stays-accepted ds op none = record { none_leaves = (none_where_lawful _ _ (pixels-accepted ds op none).1).0 }

-- so all weights of its step in the field are lawful
pub lawful-accepted : (ds : List Dot) (op : Op) → op_fault ds op ≡ None → (x y : ℤ) → IsInField x y → IsLawfulWeight (step_at ds op x y)
unfolding next_picture
lawful-accepted ds op none x y in_field =
    let lawful = (none_where_lawful _ _ (pixels-accepted ds op none).1).1 in
    let weight = weight_at-picture_of (step_at ds op) x y in_field in
    (is_too_large-false _).0 (rw weight at (weight_at-not_too_large (picture_of (step_at ds op)) x y lawful))

-- a dot whose weight is too large is a pixel of the field
found_too_large : (f : ℤ → ℤ → ℤ) → list_any (λ d. is_too_large d.weight) (picture_of f) ≡ true → IsUnlawfulSomewhere f
found_too_large f some =
    let found = Any-from_list_any (λ d. is_too_large d.weight) (picture_of f) some in
    let d = found.1 in
    let dot = All-contains (IsDotOf f) (picture_of f) d (picture_of-dots f) (found.0, found.2, found.3) in
    record { x = d.x; y = d.y; in_field = dot.in_field; unlawful = λ lawful. both_ways _ ((is_too_large-false _).1 lawful) (rw dot.weight at found.4) }

-- an operation refused with WeightTooLarge could be refused only for its weights, and some weight is too large
pub record IsRefusedForWeights (ds : List Dot) (op : Op) : Type 0 where
  pub inside : IsForWeights ds op
  pub too_large : IsUnlawfulSomewhere (step_at ds op)

pub too_large-refused : (ds : List Dot) (op : Op) → op_fault ds op ≡ Some WeightTooLarge → IsRefusedForWeights ds op
unfolding next_picture
too_large-refused ds op refused =
    let found = from_pixels ds op (Some WeightTooLarge) (λ f same. cc) refused in
    let tests = some_where_too_large _ _ found.1 in
    record { inside = stays_everywhere ds op found.0 tests.0; too_large = found_too_large (step_at ds op) tests.1 }

-- a step whose weights are all lawful is not refused for them
step_not_too_large : (ds : List Dot) (op : Op) → ((x y : ℤ) → IsLawfulWeight (step_at ds op x y))
    → list_any (λ d. is_too_large d.weight) (next_picture ds op) ≡ false
unfolding next_picture
step_not_too_large ds op lawful =
    false_from_ne_true _ (λ some. let at = found_too_large (step_at ds op) some in at.unlawful (lawful at.x at.y))

pub not_too_large-lawful : (ds : List Dot) (op : Op) → ((x y : ℤ) → IsLawfulWeight (step_at ds op x y)) → op_fault ds op ≢ Some WeightTooLarge
not_too_large-lawful ds op lawful refused =
    let at = (too_large-refused ds op refused).too_large in at.unlawful (lawful at.x at.y)

pub accepted-lawful : (ds : List Dot) (op : Op) → IsForWeights ds op → ((x y : ℤ) → IsLawfulWeight (step_at ds op x y)) → op_fault ds op ≡ None
accepted-lawful ds op stays lawful = op_fault-inside ds op stays ∙ (λ t. cond (step_not_too_large ds op lawful t) (Some WeightTooLarge) None)

pub leaves-refused : (ds : List Dot) (op : Op) → op_fault ds op ≡ Some OutOfField → list_any (leaves op) ds ≡ true
leaves-refused ds op refused = some_where_out _ _ (from_pixels ds op (Some OutOfField) (λ f same. cc) refused).1

-- a step that is not refused makes a lawful picture
pub IsPicture-next_picture : (ds : List Dot) (op : Op) → op_fault ds op ≡ None → IsPicture (next_picture ds op)
unfolding next_picture
IsPicture-next_picture ds op none = lawful_picture_of (step_at ds op) (lawful-accepted ds op none)
