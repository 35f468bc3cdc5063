use Rattle.std.proofs.Common.{rules}
use Rattle.mf_geom.specs.Path.{point_at}
use Rattle.mf_geom.proofs.FirstFaults.{is_out_of_range-false, is_out_of_range-true, stays_in_range}
use Rattle.mf_geom.proofs.FirstPlaces.{first_place-is}
use Rattle.mf_geom.proofs.path.first_out_of_range.Goals as goal

pub returns : goal.returns
unfolding point_at
returns c =
    let value =
    first_place-is _ _ _ c.first_place.ensures.none c.first_place.ensures.some
    (λ k at_true. is_out_of_range-true _ (search rules)) (λ k at_false. is_out_of_range-false _ (search rules)) in
    record { value = value; in_range = stays_in_range _ _ c.requires value }
