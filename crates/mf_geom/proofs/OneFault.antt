-- The fault that is declared is the one that is computed.
use Rattle.std.proofs.Common.{◌≡◌, ◌↔◌, ℕ, true, List, Option, None, Some, refl, sym, arith}
use Rattle.std.specs.Option.{option_map, option_or}
use Rattle.std.proofs.lemmas.Bool.{cases_Bool, cases_lt, both_ways}
use Rattle.std.proofs.lemmas.Int.{ints}
use Rattle.mf_geom.specs.declared.cycle.CycleFault.{CycleFault}
use Rattle.mf_geom.specs.declared.cycle.CycleFault.TheVariants.{TooFewPoints, TooManyPoints, PointOutOfRange, NotRectilinear, Backtracks, TurningZero}
use Rattle.mf_geom.specs.declared.point.Point.{Point}
use Rattle.mf_geom.specs.Faults.{fault_from_turning, first_not_rectilinear, first_out_of_range, first_reversal}
use Rattle.mf_geom.specs.Faults.{form_fault, is_not_rectilinear, is_out_of_range, is_reversal, turning_fault}
use Rattle.mf_geom.specs.Lawful.{HasLawfulLength, StaysInRange, IsRectilinearCycle, IsFault}
use Rattle.mf_geom.specs.Path.{segment_into, point_at, segment_at, IsInRange, IsRectilinear, IsReversal}
use Rattle.mf_geom.proofs.FirstFaults.{IsReversal-from_true, form_fault-few, form_fault-many, form_fault-sized, is_cycle-straight}
use Rattle.mf_geom.proofs.FirstFaults.{is_not_rectilinear-false, is_not_rectilinear-true, is_out_of_range-false, is_out_of_range-true}
use Rattle.mf_geom.proofs.FirstFaults.{is_reversal-true, never_reverses, no_form_fault, stays_in_range, turning_fault-onward}
use Rattle.mf_geom.proofs.FirstPlaces.{first-first_place, first_place-first, first_place-none}

-- ---- what the tests mean

out_of_range-test : (ps : List Point) (k : ℕ) → ¬ IsInRange (point_at ps k) ↔ is_out_of_range (point_at ps k) ≡ true
out_of_range-test ps k = (is_out_of_range-true _, λ passes range. both_ways _ (is_out_of_range-false _ range) passes)

not_rectilinear-test : (ps : List Point) (k : ℕ) → ¬ IsRectilinear (segment_at ps k) ↔ is_not_rectilinear (segment_at ps k) ≡ true
not_rectilinear-test ps k = (is_not_rectilinear-true _, λ passes straight. both_ways _ (is_not_rectilinear-false _ straight) passes)

reversal-test : (ps : List Point) (k : ℕ) → IsReversal (segment_into ps k) (segment_at ps k) ↔ is_reversal (segment_into ps k) (segment_at ps k) ≡ true
reversal-test ps k = (is_reversal-true _ _, IsReversal-from_true _ _)

-- ---- what is declared is computed

pub fault-computed : (ps : List Point) (fault : CycleFault) → IsFault ps fault → option_or (form_fault ps) (turning_fault ps) ≡ Some fault
unfolding IsFault
fault-computed ps TooFewPoints few = let is = form_fault-few ps few in rw is refl
fault-computed ps TooManyPoints many = let is = form_fault-many ps many in rw is refl
fault-computed ps (PointOutOfRange i) (sized, first) =
    let found : first_out_of_range ps ≡ Some i = first_place-first _ _ i (out_of_range-test ps) first in
    let is = form_fault-sized ps sized in
    rw (is, found) refl
fault-computed ps (NotRectilinear i) (range, first) =
    let found : first_not_rectilinear ps ≡ Some i = first_place-first _ _ i (not_rectilinear-test ps) first in
    let is : form_fault ps ≡ option_map NotRectilinear (first_not_rectilinear ps) =
    grind (arith, ints, first_place-none, is_out_of_range-false, form_fault-sized) in
    rw (is, found) refl
fault-computed ps (Backtracks i) (cycle, first) =
    let found : first_reversal ps ≡ Some i = first_place-first _ _ i (reversal-test ps) first in
    let none = no_form_fault ps cycle in
    rw (none, found) refl
fault-computed ps TurningZero (never, zero_turns) = grind (arith, ints, no_form_fault, turning_fault-onward)

-- ---- what is computed is declared

same_fault : (one other : CycleFault) → Some one ≡ Some other → other ≡ one
same_fault one other is = grind (arith)

declared-vertices : (ps : List Point) (fault : CycleFault) (found : Option ℕ) → found ≡ first_reversal ps → IsRectilinearCycle ps
    → option_or (option_map Backtracks found) (fault_from_turning ps) ≡ Some fault → IsFault ps fault
unfolding IsFault
declared-vertices ps fault None none cycle is = grind (arith, ints, cases_Bool, same_fault, never_reverses, sym)
declared-vertices ps fault (Some i) some cycle is =
    let same : fault ≡ Backtracks i = same_fault _ _ is in
    rw same (cycle, first-first_place _ _ i (reversal-test ps) (sym some))

declared-segments : (ps : List Point) (fault : CycleFault) (found : Option ℕ) → found ≡ first_not_rectilinear ps → StaysInRange ps
    → option_or (option_map NotRectilinear found) (turning_fault ps) ≡ Some fault → IsFault ps fault
unfolding IsFault
declared-segments ps fault None none range is = declared-vertices ps fault (first_reversal ps) refl (is_cycle-straight ps range (sym none)) is
declared-segments ps fault (Some i) some range is =
    let same : fault ≡ NotRectilinear i = same_fault _ _ is in
    rw same (range, first-first_place _ _ i (not_rectilinear-test ps) (sym some))

declared-points : (ps : List Point) (fault : CycleFault) (found : Option ℕ) → found ≡ first_out_of_range ps → HasLawfulLength ps
    → option_or (option_or (option_map PointOutOfRange found) (option_map NotRectilinear (first_not_rectilinear ps))) (turning_fault ps) ≡ Some fault
    → IsFault ps fault
unfolding IsFault
declared-points ps fault None none sized is = declared-segments ps fault (first_not_rectilinear ps) refl (stays_in_range ps None sized none) is
declared-points ps fault (Some i) some sized is =
    let same : fault ≡ PointOutOfRange i = same_fault _ _ is in
    rw same (sized, first-first_place _ _ i (out_of_range-test ps) (sym some))

pub fault-declared : (ps : List Point) (fault : CycleFault) → option_or (form_fault ps) (turning_fault ps) ≡ Some fault → IsFault ps fault
unfolding IsFault
fault-declared ps fault is = grind (arith, ints, cases_lt, form_fault-few, same_fault, form_fault-many, form_fault-sized, declared-points)
