use Rattle.std.proofs.Common.{◌≡◌}
use Rattle.mf_rows_strips.specs.PileWeights.{weight_in_pile}
use Rattle.mf_rows.specs.Dots.{weight_at}
use Rattle.mf_rows.specs.Weights.{picture_of}
use Rattle.mf_rows.proofs.PicturePiles.{pile_weight}
use Rattle.mf_rows.proofs.picture.Picture.bounds_of.Goals as goal

pub returns-clause-bounds : goal.returns-clause-bounds
returns-clause-bounds c =
    let pile = c.self.inside.pile in
    let weights : weight_at (picture_of (weight_in_pile pile)) ≡ weight_in_pile pile = λ i x y. pile_weight pile x y i in
    rw (← c.self.view_is, weights) (rw c.of-walk.ensures.weights at c.bounds.ensures)
