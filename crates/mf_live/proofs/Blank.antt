-- Where nothing has happened, nothing is accepted, and the picture is blank.
use Rattle.std.proofs.Common.{◌≡◌, List, [], ap}
use Rattle.mf_ops.specs.Operations.{after_all, picture_after, revision_after}
use Rattle.mf_live.specs.Entries.{Entry, picture_at, revision_at}

pub blank_picture : (L : List Entry) → L ≡ [] → picture_at L ≡ []
unfolding picture_after after_all
blank_picture L none = ap picture_at none

pub blank_revision : (L : List Entry) → L ≡ [] → revision_at L ≡ 0
unfolding revision_after
blank_revision L none = ap revision_at none
