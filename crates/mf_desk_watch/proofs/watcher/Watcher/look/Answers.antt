use Rattle.std.proofs.Common.{[], ◌∷◌, ◌++◌, ◌+◌, ◌∙◌, inr, subst, sym, ap, arith}
use Rattle.mf_live.specs.Viewers as viewers
use Rattle.mf_desk_watch.specs.Watchers.{AreGlances, glance_at}
use Rattle.mf_desk_watch.proofs.Glances.{AreGlances-push, glance-of}
use Rattle.mf_desk_watch.proofs.watcher.Watcher.look.Goals as goal

pub returns-clause-shown : goal.returns-clause-shown
returns-clause-shown g c =
    let glance = c.of-glance.ensures ∙ glance-of (viewers.shown_list c.in-Ok.held) _ _ c.revision.ensures c.picture.ensures in
    c.in-Ok-push.ensures.items ∙ ap (λ g. c.args.self.seen.items ++ g ∷ []) (glance ∙ ap glance_at (sym c.leave.ensures.looked))

pub returns-clause-watcher : goal.returns-clause-watcher
returns-clause-watcher g c = λ picture looks more before.
    let old = c.args.self.seen.items in
    let L = viewers.shown_list c.in-Ok.held in
    let pushed = returns-clause-shown g c ∙ ap (λ list. old ++ glance_at list ∷ []) c.leave.ensures.looked in
    let seen = AreGlances-push _ L looks old c.in-Ok.ensures.extends.seen before.record_is in
    record {
      identity_is = c.leave.ensures.identity ∙ c.in-Ok.ensures.identity ∙ before.identity_is;
      record_is = subst (λ list. AreGlances list (looks + 1) c.push.new.self.items) (sym c.leave.ensures.seen)
          (subst (λ gs. AreGlances L (looks + 1) gs) (sym pushed) seen);
      last_is = inr (old, returns-clause-shown g c);
      room = omega (arith, before.room, c.push.ensures.capacity, c.in-Ok-push.ensures.len);
    }
