use Rattle.std.proofs.Common.{refl}
use Rattle.mf_rows.proofs.BoxesOfDots.{least_box_of_field}
use Rattle.mf_text_show.proofs.GridTexts.{large_box}
use Rattle.mf_text_show.proofs.grid.proof_grid.Goals as goal

pub is_larger_than-requires : goal.is_larger_than-requires
is_larger_than-requires c = least_box_of_field _ _ c.bounds.ensures.lawful c.in-Some.ensures.least

pub returns-then-is_larger_than-clause-too_large : goal.returns-then-is_larger_than-clause-too_large
returns-then-is_larger_than-clause-too_large c = (λ _. refl, λ _. (large_box _ _ c.in-Some.ensures.least).1 (c.if-is_larger_than.ensures.0 refl))
