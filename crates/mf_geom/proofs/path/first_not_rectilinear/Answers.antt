use Rattle.std.proofs.Common.{rules}
use Rattle.mf_geom.proofs.FirstFaults.{is_not_rectilinear-false, is_not_rectilinear-true}
use Rattle.mf_geom.proofs.FirstPlaces.{first_place-is}
use Rattle.mf_geom.proofs.path.first_not_rectilinear.Goals as goal

pub returns : goal.returns
returns c =
    first_place-is _ _ _ c.first_place.ensures.none c.first_place.ensures.some
    (λ k at_true. is_not_rectilinear-true _ (search rules)) (λ k at_false. is_not_rectilinear-false _ (search rules))
