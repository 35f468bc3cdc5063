use Rattle.std.proofs.Common.{rules}
use Rattle.mf_geom.proofs.FirstFaults.{is_reversal-false, is_reversal-true}
use Rattle.mf_geom.proofs.FirstPlaces.{first_place-is}
use Rattle.mf_geom.proofs.path.first_reversal.Goals as goal

pub returns : goal.returns
returns c =
    first_place-is _ _ _ c.first_place.ensures.none c.first_place.ensures.some
    (λ k at_true. is_reversal-true _ _ (search rules)) (λ k at_false. is_reversal-false _ _ (search rules))
