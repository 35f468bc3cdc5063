-- The fact that events can happen has at most one proof, as a type's invariant requires.
use Rattle.std.specs.Prelude.{ℕ, List, [], ◌∷◌}
use Rattle.std.proofs.Props.{props}
use Rattle.mf_live.specs.Events.{Event, Accept, Refuse, Close, Publish, Discard, Look, Tell, Learn}
use Rattle.mf_live.specs.World.{World, May, Happen, after_event}

May-prop : (max_ops : ℕ) (w : World) (e : Event) → IsProp (May max_ops w e)
May-prop max_ops w (Accept op) = hlevel props
May-prop max_ops w Refuse = hlevel props
May-prop max_ops w Close = hlevel props
May-prop max_ops w Publish = hlevel props
May-prop max_ops w (Discard publishes) = hlevel props
May-prop max_ops w (Look i) = hlevel props
May-prop max_ops w Tell = hlevel props
May-prop max_ops w (Learn i k) = hlevel props

pub Happen-prop : (max_ops : ℕ) (w : World) (events : List Event) → IsProp (Happen max_ops w events)
Happen-prop max_ops w [] = hlevel props
Happen-prop max_ops w (e ∷ es) = λ x y i. (May-prop max_ops w e x.0 y.0 i, Happen-prop max_ops (after_event w e) es x.1 y.1 i)
