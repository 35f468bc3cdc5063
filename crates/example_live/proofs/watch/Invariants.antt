-- The viewer is one of the same picture after each look.
use Rattle.std.proofs.Common.{◌≡◌}
use Rattle.wonchhip.specs.Live.Viewers.{identity}
use Rattle.example_live.proofs.watch.Given as goal

abbrev pub invariant-loop : goal.invariant-loop
invariant-loop l = identity l.viewer ≡ identity l.fn.viewer
