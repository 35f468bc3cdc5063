-- Blank pictures: they have no runs, nothing is added with them, and they stay blank where their weights are mapped.
use Rattle.std.proofs.Common.{◌≡◌, Bool, true, false, not, Option, Some, None, is_some, MatchOption, List, [], ◌∷◌, length, refl, sym, ap, ◌∙◌, arith}
use Rattle.std.proofs.lemmas.Bool.{false≢true}
use Rattle.std.proofs.lemmas.Int.{ints}
use Rattle.mf_rows_edges.specs.declared.weight_map.WeightMap.{WeightMap}
use Rattle.mf_rows_edges.specs.WeightMaps.{IsWeightMap}
use Rattle.std.specs.List.{flat_map}
use Rattle.mf_rows.specs.declared.run.Run.{Run}
use Rattle.mf_rows.specs.Dots.{Dot, weight_at}
use Rattle.mf_rows.specs.Runs.{dots_of, runs_of}
use Rattle.mf_rows.proofs.RunsLemmas.{dots_of-runs_of}
use Rattle.mf_rows.specs.Sums.{HasWeights, difference_at, sum_at}
use Rattle.mf_rows.specs.WeightMaps.{mapped_weights}

-- a picture is blank exactly where it has no first run
pub first_is_none : (first : Option Run) (none : Bool) (rs others : List Run) (ds : List Dot)
    → MatchOption first ((rs ≡ []) × (others ≡ [])) (λ r. rs ≡ r ∷ others) → is_some first ≡ not none → rs ≡ runs_of ds
    → (none ≡ true → ds ≡ []) × (ds ≡ [] → none ≡ true)
unfolding runs_of
first_is_none None true rs others ds steps is runs = (λ test. sym (dots_of-runs_of ds) ∙ ap (flat_map dots_of) (sym runs ∙ steps.0), λ blank. refl)
first_is_none None false rs others ds steps is runs = absurd (false≢true is)
first_is_none (Some r) true rs others ds steps is runs = absurd (false≢true (sym is))
first_is_none (Some r) false rs others ds steps is runs =
    (λ test. absurd (false≢true test), λ blank. absurd (omega (arith, ap length (sym steps ∙ runs ∙ ap runs_of blank))))

-- the sum with a blank picture
pub blank_added : (ds es : List Dot) → es ≡ [] → HasWeights (sum_at ds es) ds
unfolding sum_at weight_at
blank_added ds es blank = rw blank (record { weights = λ x y inside. omega (arith, ints) })

pub blank_subtracted : (ds es : List Dot) → es ≡ [] → HasWeights (difference_at ds es) ds
unfolding difference_at weight_at
blank_subtracted ds es blank = rw blank (record { weights = λ x y inside. omega (arith, ints) })

pub added_to_blank : (ds es : List Dot) → ds ≡ [] → HasWeights (sum_at ds es) es
unfolding sum_at weight_at
added_to_blank ds es blank = rw blank (record { weights = λ x y inside. omega (arith, ints) })

-- weight 0 stays 0
pub blank_mapped : (ds : List Dot) (m : WeightMap) → ds ≡ [] → IsWeightMap m → HasWeights (mapped_weights m (weight_at ds)) []
unfolding weight_at
blank_mapped ds m blank map = rw blank (record { weights = λ x y inside. sym map.zero })

pub ruleset blanks = (blank_added, blank_subtracted, added_to_blank, blank_mapped)
