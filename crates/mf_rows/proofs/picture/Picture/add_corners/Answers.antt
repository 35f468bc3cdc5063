use Rattle.std.proofs.Common.{ap, sym}
use Rattle.std.proofs.lemmas.Result.{on_ok_weaker, IfErr-weaker}
use Rattle.mf_rows_strips.proofs.CornersLemmas.{corners_are_swept}
use Rattle.mf_rows.specs.Weights.{picture_of}
use Rattle.mf_rows.proofs.PicturePiles.{corners_are, has_weights, unlawful_as}
use Rattle.mf_rows.proofs.picture.Picture.add_corners.Goals as goal

pub part_of_corners-requires : goal.part_of_corners-requires
part_of_corners-requires c = corners_are_swept _ c.requires

pub returns-clause-weights : goal.returns-clause-weights
returns-clause-weights c =
    rw (← c.self.view_is)
    (on_ok_weaker c.add.result (λ has. has_weights c.add.new.self (rw c.in_ok-new.ensures.ok at has) (corners_are c.self.inside.pile c.in_ok-part.part _ c.in_ok-part.ensures.weights))
    c.add.ensures.weights)

pub returns-clause-unchanged : goal.returns-clause-unchanged
returns-clause-unchanged c =
    rw (← c.self.view_is) (IfErr-weaker c.add.result _ _ (λ fault has. ap picture_of has) c.add.ensures.unchanged)

pub returns-clause-too_large : goal.returns-clause-too_large
returns-clause-too_large c =
    rw (← c.self.view_is)
    (IfErr-weaker c.add.result _ _
    (λ fault large other. unlawful_as (large other) (λ inside. sym (corners_are c.self.inside.pile c.in_ok-part.part _ c.in_ok-part.ensures.weights _ _ inside)))
    (rw c.in_ok-new.ensures.ok at c.add.ensures.too_large))
