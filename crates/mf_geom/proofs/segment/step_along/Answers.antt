use Rattle.std.proofs.Common.{arith}
use Rattle.std.proofs.lemmas.Int.{ints}
use Rattle.mf_geom.specs.Path.{across, up}
use Rattle.mf_geom.proofs.segment.step_along.Goals as goal

pub returns : goal.returns
unfolding across up
returns c =
    record {
      across = rw (← c.ends.ensures.from, ← c.ends.ensures.to) (omega (arith, ints));
      up = rw (← c.ends.ensures.from, ← c.ends.ensures.to) (omega (arith, ints));
    }
