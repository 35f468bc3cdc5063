use Rattle.std.proofs.Common.{◌≡◌, true, List, Result, Ok, Err, MatchResult, IfOk, arith}
use Rattle.std.proofs.lemmas.Int.{ints}
use Rattle.mf_live.specs.declared.look.Look.{Look}
use Rattle.mf_live.specs.declared.look.NoLook.{NoLook}
use Rattle.mf_live.specs.declared.viewer.Viewer.{Viewer}
use Rattle.mf_live.specs.Entries.{Entry, is_closed}
use Rattle.mf_live.specs.Prefixes.{IsWholePrefix}
use Rattle.mf_live.specs.Viewers.{Extends, IsPublished, SeesTheSame, look_events, shown_list}
use Rattle.mf_live.proofs.Looking.{HasLearnt-same, published-ends, whole-closed}
use Rattle.mf_live.proofs.laws.last_look.Goals as goal

-- a look of a viewer that has learnt of a closed list shows that list
shows_closed : (v : Viewer) (told : List Entry) (r : Result Look (Viewer × NoLook)) → is_closed told ≡ true
    → ((L : List Entry) → Extends v L → IsWholePrefix told L)
    → MatchResult r (λ look. Extends v (shown_list look)) (λ refused. SeesTheSame v refused.0)
    → IfOk r (λ look. IsPublished (look_events look) (shown_list look)) → IfOk r (λ look. shown_list look ≡ told)
shows_closed v told (Ok look) closed includes extends published =
    whole-closed told (shown_list look) (includes (shown_list look) extends) (published-ends (look_events look) (shown_list look) published) closed
shows_closed v told (Err refused) closed includes extends published = tt

pub returns-clause-shown : goal.returns-clause-shown
returns-clause-shown c =
    shows_closed _ _ c.look.result c.requires.closed (λ L extends. (c.learn.ensures.keeps L extends).1) c.look.ensures.extends c.look.ensures.published

pub returns-clause-published : goal.returns-clause-published
returns-clause-published c = grind (arith, ints, returns-clause-shown c)

pub returns-clause-extends : goal.returns-clause-extends
returns-clause-extends c = grind (arith, ints, returns-clause-shown c)

pub returns-clause-learnt : goal.returns-clause-learnt
returns-clause-learnt c = grind (arith, ints, HasLearnt-same)
