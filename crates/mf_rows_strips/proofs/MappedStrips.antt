-- Strips whose weights are mapped, one after another.
use Rattle.std.proofs.Common.{◌≡◌, ℤ, ◌≤ℤ◌, inl, inr, List, [], ◌∷◌, sym, ap, ◌∙◌, arith}
use Rattle.std.proofs.lemmas.Int.{ints, by_lt_z}
use Rattle.mf_geom.specs.Coordinates.{greatest_coordinate}
use Rattle.mf_rows_edges.specs.declared.weight_map.WeightMap.{WeightMap}
use Rattle.mf_rows_edges.specs.Edges.{weight_in}
use Rattle.mf_rows_edges.specs.WeightMaps.{mapped_in, mapped_weight, IsWeightMap}
use Rattle.mf_rows_strips.specs.Changes.{mapped_weights, HasMappedStrip, IsReachOfMap}
use Rattle.mf_rows_strips.specs.Strips.{EdgeStrip, AreStrips, AreStripsDownTo, HaveStripWeights, IsStrip, row_in, weight_in_strips}
use Rattle.mf_rows_strips.proofs.Written.{ArePassed, GoOn, all_passed, go_on, go_on_with, none_passed, one_passed, passes, strips_closed, strips_none}

-- the strips that were passed are mapped
pub record IsMappedSoFar (m : WeightMap) (before reach : ℤ) (whole left out : List EdgeStrip) : Type 0 where
  pub after : IsReachOfMap m reach
  pub low : ℤ
  pub passed : List EdgeStrip
  pub so_far : ArePassed low before whole passed left
  pub written : AreStripsDownTo low reach out
  pub weights : HaveStripWeights (mapped_weights m (weight_in_strips passed)) out

pub mapped_none : {m : WeightMap} {before reach : ℤ} {whole : List EdgeStrip} → AreStrips before whole → IsWeightMap m → IsReachOfMap m reach
    → IsMappedSoFar m before reach whole whole []
unfolding weight_in_strips row_in weight_in
mapped_none {before = before} {reach = reach} {whole = whole} strips lawful after = record {
  after = after;
  low = greatest_coordinate;
  passed = [];
  so_far = none_passed before whole strips;
  written = strips_none reach;
  weights = record { weights = λ x y. sym lawful.zero };
}

pub mapped_next : {m : WeightMap} {before reach : ℤ} {whole left out new : List EdgeStrip} {s : EdgeStrip} → IsMappedSoFar m before reach whole (s ∷ left) out
    → HasMappedStrip m s.top s.edges out new → IsMappedSoFar m before reach whole left new
unfolding mapped_in
mapped_next {reach = reach} {out = out} {new = new} {s = s} mapped has =
    let weights = has.mapped.weights.weights in
    let le : s.top ≤ℤ mapped.low = mapped.so_far.below.1 in
    let strip : IsStrip reach (record { top = s.top; edges = has.edges }) = grind (arith, ints) in
    let goes : GoOn s.top reach has.edges out new = elim has.strips as (λ _. GoOn s.top reach has.edges out new) [
      | inl more ↦ rw more (go_on_with mapped.low s.top reach has.edges out mapped.written le (omega (arith, ints, le, mapped.so_far.high)) strip)
      | inr same ↦ rw same.1 (go_on mapped.low s.top reach has.edges out mapped.written le same.0)
    ] in
    let passed = passes mapped.so_far in
    record {
      after = mapped.after;
      low = _;
      passed = _;
      so_far = one_passed mapped.so_far;
      written = goes.strips;
      weights = record { weights = λ x y. grind (arith, ints, by_lt_z) };
    }

-- when no strip is left, all are mapped
pub mapped_all : {m : WeightMap} {before reach : ℤ} {whole left out : List EdgeStrip} → IsMappedSoFar m before reach whole left out → left ≡ []
    → IsWeightMap m → AreStrips reach out × HaveStripWeights (mapped_weights m (weight_in_strips whole)) out
unfolding weight_in_strips weight_in
mapped_all {m = m} {reach = reach} {out = out} mapped end lawful =
    let weights = rw (all_passed mapped.so_far end) at mapped.weights in
    let blank = λ (x : ℤ). ap (λ es. mapped_weight m (weight_in es x)) mapped.so_far.whole.closed ∙ lawful.zero in
    (strips_closed reach _ mapped.low out mapped.written weights blank mapped.after.least mapped.after.most, weights)
