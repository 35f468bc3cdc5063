use Rattle.std.proofs.Common.{[], ◌∷◌, ◌++◌, ◌∙◌, subst, sym, ap}
use Rattle.mf_live.specs.Entries.{picture_at, revision_at}
use Rattle.mf_live.specs.Viewers as viewers
use Rattle.mf_desk_watch.specs.Watchers.{HasSeen}
use Rattle.mf_desk_watch.proofs.Glances.{HasSeen-push, glance-of}
use Rattle.mf_desk_watch.proofs.watcher.Watcher.look_last.Goals as goal

pub returns-clause-seen : goal.returns-clause-seen
returns-clause-seen c = λ looks record_is.
    let L = viewers.told_list c.args.notice in
    let glance = c.of-glance.ensures ∙ glance-of L _ _ (c.revision.ensures ∙ ap revision_at c.in_ok-sheet.ensures.sheet.1)
    (c.picture.ensures ∙ ap picture_at c.in_ok-sheet.ensures.sheet.1) in
    let pushed = c.in-Ok.ensures.items ∙ ap (λ g. c.args.self.now.seen.items ++ g ∷ []) glance in
    let seen = HasSeen-push (viewers.seen_list c.args.self.now.viewer) L looks c.args.self.now.seen.items
    c.in_ok-sheet.ensures.extends.seen record_is in
    subst (λ gs. HasSeen L looks gs) (sym pushed) seen
