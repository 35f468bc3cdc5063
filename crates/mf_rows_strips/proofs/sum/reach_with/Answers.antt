use Rattle.std.proofs.Common.{arith}
use Rattle.std.proofs.lemmas.Int.{ints, clamps}
use Rattle.mf_rows_edges.proofs.ReachesLemmas.{wider_reach}
use Rattle.mf_rows_strips.proofs.sum.reach_with.Goals as goal

pub returns-then-most-le-MAX_WEIGHT-clause-row : goal.returns-then-most-le-MAX_WEIGHT-clause-row
returns-then-most-le-MAX_WEIGHT-clause-row c =
    record { most = omega (arith, ints, clamps); within = λ x. wider_reach (omega (arith, ints, clamps)) (c.requires.within.within x) }

pub returns-clause-row : goal.returns-clause-row
returns-clause-row c =
    record { most = omega (arith, ints, clamps); within = λ x. wider_reach (omega (arith, ints, clamps)) (c.reach_of-least.ensures.within x) }
