-- The fact that viewers have seen nothing has at most one proof, as a type's invariant requires.
use Rattle.std.specs.Prelude.{All, List}
use Rattle.std.proofs.Props.{props}
use Rattle.mf_live.specs.declared.history.Knowledge.{Knowledge}
use Rattle.mf_live.specs.declared.viewer.Viewer.{Viewer}
use Rattle.mf_live.specs.Viewers.{IsFresh}

pub are_fresh-prop : (k : Knowledge) (viewers : List Viewer) → IsProp (All (IsFresh k) viewers)
are_fresh-prop k viewers = hlevel props
