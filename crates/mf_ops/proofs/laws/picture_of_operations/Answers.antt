use Rattle.std.proofs.Common.{length-append, arith}
use Rattle.mf_ops.specs.Operations.{after_all, picture_after, revision_after}
use Rattle.mf_ops.proofs.Operations.{picture_after-push, lawful_picture_after}
use Rattle.mf_ops.proofs.laws.picture_of_operations.Goals as goal

pub returns : goal.returns
unfolding picture_after after_all revision_after
returns c = grind (arith, picture_after-push, lawful_picture_after, length-append)
