use Rattle.mf_geom.proofs.Areas.{sum_over_field-winding, sum_over_field-contour}
use Rattle.mf_geom.proofs.laws.total_is_area.Goals as goal
use Rattle.std.proofs.Common.{arith}

pub returns : goal.returns
returns c = grind (arith, sum_over_field-winding, sum_over_field-contour)
