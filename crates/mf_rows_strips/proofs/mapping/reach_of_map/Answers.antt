use Rattle.std.proofs.Common.{ℤ, arith}
use Rattle.std.proofs.lemmas.Bool.{cond_both}
use Rattle.std.proofs.lemmas.Int.{ints, clamps}
use Rattle.mf_rows_edges.specs.declared.weight_map.WeightMap.{WeightMap}
use Rattle.mf_rows_edges.specs.LawfulWeights.{IsInReach, IsLawfulWeight}
use Rattle.mf_rows_edges.specs.WeightMaps.{is_within, mapped_weight}
use Rattle.mf_rows_strips.proofs.mapping.reach_of_map.Goals as goal

-- a map makes the weight inside its range, or the one outside
either : (m : WeightMap) (r w : ℤ) → (IsLawfulWeight m.inside → IsInReach r m.inside) → (IsLawfulWeight m.outside → IsInReach r m.outside)
    → IsLawfulWeight (mapped_weight m w) → IsInReach r (mapped_weight m w)
unfolding mapped_weight
either m r w inside outside =
    cond_both (is_within m.low m.high w) m.inside m.outside (λ v. IsLawfulWeight v → IsInReach r v) (λ _. inside) (λ _. outside)

pub returns : goal.returns
returns c = record {
  least = omega (arith, ints, clamps);
  most = omega (arith, ints, clamps);
  within = λ w. either c.args.map.now _ w (λ lawful. record { least = omega (arith, ints, clamps); greatest = omega (arith, ints, clamps) })
      (λ lawful. record { least = omega (arith, ints, clamps); greatest = omega (arith, ints, clamps) });
}
