use Rattle.std.proofs.Common.{◌≤◌, ap, sym, subst, ◌∙◌, arith}
use Rattle.mf_live.specs.declared.view.View.{View}
use Rattle.mf_live.specs.declared.version.Version.{Version}
use Rattle.mf_live.specs.Events.{events_of}
use Rattle.mf_live.specs.Prefixes.{IsWholePrefix}
use Rattle.mf_live.specs.Rule.{version_list}
use Rattle.mf_live.specs.Viewers.{Extends, told_list}
use Rattle.mf_live.specs.World.{published_list_of}
use Rattle.mf_live.proofs.Looking.{Extends-look, is_published, published-ends, whole-closed}
use Rattle.mf_live.proofs.Seats.{looks}
use Rattle.mf_live.proofs.viewer.Viewer.look.Goals as goal

pub enter_as-requires : goal.enter_as-requires
enter_as-requires c = looks _ _

pub returns-clause-extends : goal.returns-clause-extends
returns-clause-extends c =
    let v = c.args.self in
    let looks = c.in-Ok.ensures.1 in
    let learnt = subst (λ (x : Version). IsWholePrefix (told_list v.known) (version_list x)) c.get.ensures (c.meets.ensures.that (omega arith)) in
    subst (λ (w : View). Extends v (published_list_of (events_of w.knowledge.seen.log))) (sym looks.is) (Extends-look v _ _ looks learnt)

pub invariant_of-result : goal.invariant_of-result
invariant_of-result c =
    let v = c.args.self in
    let looks = c.in-Ok.ensures.1 in
    record {
      identified = ap (λ (w : View). w.identified) looks.is ∙ v.identified;
      book = ap (λ (w : View). w.knowledge.seen.book) looks.is ∙ (sym (looks.knows v.identified).book ∙ v.book);
      knowledge = ap (λ (w : View). w.knowledge) looks.is;
      enough = subst (λ (x : Version). v.known.entries ≤ x.notice.entries) c.get.ensures c.if-shown-known.false;
    }

pub returns-clause-published : goal.returns-clause-published
returns-clause-published c = grind (arith, sym, is_published)

pub returns-clause-last : goal.returns-clause-last
returns-clause-last c = λ closed.
    let extends = returns-clause-extends c in whole-closed _ _ extends.seen (published-ends _ _ (returns-clause-published c)) closed
