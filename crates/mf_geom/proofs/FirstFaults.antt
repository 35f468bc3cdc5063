-- Which lists of points have no fault, and which cycles pass the turning check.
use Rattle.std.proofs.Common.{◌≡◌, ◌∙◌, ℕ, ◌<◌, true, false, List, length, Option, None, Some, IfNone, refl, sym, arith, inl, inr}
use Rattle.std.specs.Option.{option_map, option_or}
use Rattle.std.proofs.lemmas.Bool.{cases_Bool, cases_lt, true_from_ne_false, false_from_ne_true, both_ways}
use Rattle.std.proofs.lemmas.Bool.Decides.{nat_tests}
use Rattle.std.proofs.lemmas.Int.{ints}
use Rattle.mf_geom.specs.declared.cycle.CycleFault.TheVariants.{TooFewPoints, TooManyPoints, PointOutOfRange, NotRectilinear}
use Rattle.mf_geom.specs.declared.point.Point.{Point}
use Rattle.mf_geom.specs.Faults.{fault_from_turning, first_not_rectilinear, first_out_of_range, first_reversal}
use Rattle.mf_geom.specs.Faults.{form_fault, is_not_rectilinear, is_out_of_range, is_reversal, turning_fault}
use Rattle.mf_geom.specs.Lawful.{HasLawfulLength, StaysInRange, IsRectilinearCycle, NeverReverses, PassesCheck, most_points}
use Rattle.mf_geom.specs.Path.{Segment, IsInRange, IsRectilinear, IsReversal}
use Rattle.mf_geom.proofs.FirstPlaces.{first_place-none, neither, none_passes}

-- ---- the tests of points and segments

pub is_out_of_range-false : (p : Point) → IsInRange p → is_out_of_range p ≡ false
unfolding is_out_of_range
is_out_of_range-false p range = let x = range.x in let y = range.y in grind (arith, ints)

IsInRange-from_false : (p : Point) → is_out_of_range p ≡ false → IsInRange p
unfolding is_out_of_range
IsInRange-from_false p passes = grind (arith, ints)

pub is_out_of_range-true : (p : Point) → ¬ IsInRange p → is_out_of_range p ≡ true
is_out_of_range-true p beyond = true_from_ne_false _ (λ passes. beyond (IsInRange-from_false p passes))

pub is_not_rectilinear-false : (e : Segment) → IsRectilinear e → is_not_rectilinear e ≡ false
unfolding is_not_rectilinear IsRectilinear
is_not_rectilinear-false e (inl level) = grind (arith, ints)
is_not_rectilinear-false e (inr upright) = grind (arith, ints)

IsRectilinear-from_false : (e : Segment) → is_not_rectilinear e ≡ false → IsRectilinear e
unfolding is_not_rectilinear IsRectilinear
IsRectilinear-from_false e passes = grind (arith, ints, cases_Bool)

pub is_not_rectilinear-true : (e : Segment) → ¬ IsRectilinear e → is_not_rectilinear e ≡ true
is_not_rectilinear-true e slanted = true_from_ne_false _ (λ passes. slanted (IsRectilinear-from_false e passes))

pub is_reversal-true : (a b : Segment) → IsReversal a b → is_reversal a b ≡ true
unfolding is_reversal
is_reversal-true a b back = grind (arith, ints)

pub IsReversal-from_true : (a b : Segment) → is_reversal a b ≡ true → IsReversal a b
unfolding is_reversal
IsReversal-from_true a b passes = record { opposite = grind (arith, ints) }

pub is_reversal-false : (a b : Segment) → ¬ IsReversal a b → is_reversal a b ≡ false
is_reversal-false a b onward = false_from_ne_true _ (λ passes. onward (IsReversal-from_true a b passes))

-- ---- the form of a list

none_mapped : {A B : Type 0} (f : A → B) (o : Option A) → option_map f o ≡ None → o ≡ None
none_mapped f None none = refl
none_mapped f (Some x) none = absurd cc

pub stays_in_range : (ps : List Point) (found : Option ℕ) → HasLawfulLength ps → found ≡ first_out_of_range ps → IfNone found (StaysInRange ps)
stays_in_range ps None sized is = record { sized = sized; in_range = λ i below. IsInRange-from_false _ (none_passes _ _ (sym is) i below) }
stays_in_range ps (Some i) sized is = tt

-- what is left to check once the length is lawful
pub form_fault-sized : (ps : List Point) → HasLawfulLength ps
    → form_fault ps ≡ option_or (option_map PointOutOfRange (first_out_of_range ps)) (option_map NotRectilinear (first_not_rectilinear ps))
unfolding form_fault
form_fault-sized ps sized = grind (arith, nat_tests)

pub form_fault-few : (ps : List Point) → length ps < 2 → form_fault ps ≡ Some TooFewPoints
unfolding form_fault
form_fault-few ps few = grind (arith, nat_tests)

pub form_fault-many : (ps : List Point) → most_points < length ps → form_fault ps ≡ Some TooManyPoints
unfolding form_fault
form_fault-many ps many = grind (arith, nat_tests)

pub no_form_fault : (ps : List Point) → IsRectilinearCycle ps → form_fault ps ≡ None
no_form_fault ps cycle = grind (arith, ints, first_place-none, is_out_of_range-false, is_not_rectilinear-false, form_fault-sized)

pub is_cycle-straight : (ps : List Point) → StaysInRange ps → first_not_rectilinear ps ≡ None → IsRectilinearCycle ps
is_cycle-straight ps range straight = record { range = range; rectilinear = λ i below. IsRectilinear-from_false _ (none_passes _ _ straight i below) }

pub is_cycle : (ps : List Point) → form_fault ps ≡ None → IsRectilinearCycle ps
is_cycle ps none =
    elim (cases_lt (length ps) 2) [
      | inl few ↦ absurd (let some = form_fault-few ps few in grind (arith))
      | inr least ↦
          elim (cases_lt most_points (length ps)) [
            | inl many ↦ absurd (let some = form_fault-many ps many in grind (arith))
            | inr greatest ↦
                let sized : HasLawfulLength ps = record { least = omega arith; greatest = omega arith } in
                let parts = neither (option_map PointOutOfRange (first_out_of_range ps)) _ (sym (form_fault-sized ps sized) ∙ none) in
                let range = stays_in_range ps None sized (sym (none_mapped PointOutOfRange _ parts.0)) in
                is_cycle-straight ps range (none_mapped NotRectilinear _ parts.1)
          ]
    ]

-- ---- the turning check

pub no_reversal : (ps : List Point) → NeverReverses ps → first_reversal ps ≡ None
no_reversal ps never = first_place-none _ _ (λ i below. is_reversal-false _ _ (never.onward i below))

pub never_reverses : (ps : List Point) → IsRectilinearCycle ps → first_reversal ps ≡ None → NeverReverses ps
never_reverses ps cycle none = record {
  rectilinear = cycle;
  onward = λ i below back. both_ways _ (none_passes _ _ none i below) (is_reversal-true _ _ back);
}

pub turning_fault-onward : (ps : List Point) → NeverReverses ps → turning_fault ps ≡ fault_from_turning ps
turning_fault-onward ps never = let none = no_reversal ps never in rw none refl

pub turning_fault-none : (ps : List Point) → PassesCheck ps → turning_fault ps ≡ None
turning_fault-none ps passes = let turns = passes.turns in turning_fault-onward ps passes.onward ∙ grind (arith, ints)

pub PassesCheck-from_none : (ps : List Point) → IsRectilinearCycle ps → turning_fault ps ≡ None → PassesCheck ps
PassesCheck-from_none ps cycle none = grind (arith, ints, neither, never_reverses, none_mapped)
