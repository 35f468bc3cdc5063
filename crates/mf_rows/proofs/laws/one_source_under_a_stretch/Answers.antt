use Rattle.std.proofs.Common.{◌≡◌, ℤ, pos, ◌+ℤ◌, ◌≤ℤ◌, arith}
use Rattle.std.proofs.lemmas.Int.{ints, by_lt_z}
use Rattle.mf_rows_edges.specs.declared.stretch.Stretch.{Stretch}
use Rattle.mf_rows_edges.specs.Axes.{IsStretch, source_of, target_of}
use Rattle.mf_rows_edges.proofs.Sources.{source_of-from, source_of-is, source_of-reached}
use Rattle.mf_rows.proofs.laws.one_source_under_a_stretch.Goals as goal

reached : (s : Stretch) (p q : ℤ) → IsStretch s → source_of s q ≡ p → (target_of s p ≤ℤ q) × ((q +ℤ pos 1) ≤ℤ target_of s (p +ℤ pos 1))
reached s p q stretch is = (
  source_of-reached s p q stretch (omega (arith, ints)),
  by_lt_z q (target_of s (p +ℤ pos 1)) (λ before. omega (arith, ints))
      (λ after. let next = source_of-from s (p +ℤ pos 1) q stretch after in absurd (omega (arith, ints))),
)

pub returns : goal.returns
returns c s p q stretch = (reached s p q stretch, λ (start, end). source_of-is s p q stretch start (omega (arith, ints, end)))
