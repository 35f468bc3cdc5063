use Rattle.std.proofs.Common.{◌≡◌, ◌∙◌, ◌∷◌, ◌++◌, [], All, append_assoc, length, length-append, map, refl, subst, sym, ap, arith}
use Rattle.std.specs.Vec.Iter.{into_iter_items}
use Rattle.std.proofs.lemmas.List.{map-append}
use Rattle.std.proofs.lemmas.List.Elements.{All-nil, All-head, All-push, All-rest}
use Rattle.mf_live.specs.Writers.{ended_identity}
use Rattle.mf_desk_watch.specs.Watchers.{HasRoomFor, HasSeen, IsRecord, glance_at, identity, record_of}
use Rattle.mf_desk.specs.EndedRuns.{HasSeenLast, glance, glances_of, whole_record}
use Rattle.mf_desk.proofs.Showing.{IsSameEnd-trans}
use Rattle.mf_desk.proofs.ViewerLines.{lines-more, lines-nobody}
use Rattle.mf_desk.proofs.ended_run.EndedRun.look_last.Goals as goal

pub loop-watcher-init : goal.loop-watcher-init
loop-watcher-init c =
    rw (c.in_ok-seen.ensures.items, c.into_iter-watcher-iterator.ensures.into_iter_gives.0)
    record {
      count = omega arith;
      identities = c.requires.identities;
      rooms = c.requires.rooms;
      same = record { identity = refl; published = refl; file = refl };
      written = refl;
      lines = c.requires.none ∙ sym (lines-nobody (glance c.args.self.now));
      records = refl;
      seen = λ looks records. (records, All-nil (HasSeenLast c.args.self.now looks));
    }

pub loop-watcher-preserved : goal.loop-watcher-preserved
loop-watcher-preserved c =
    let run = c.args.self.now in
    let was = c.loop-watcher.invariant in
    let watcher = c.in-Some.watcher in
    let rest = into_iter_items c.next.new.self in
    let step = c.in-Some.ensures.steps.0 in
    let whole = whole_record run in
    let before = c.loop-watcher.seen.items in
    let told = c.notice.ensures.told ∙ was.same.published in
    let recorded = c.into_record.ensures in
    record {
      count = omega (arith, was.count, ap length step, ap length c.in_ok-push.ensures.items, length-append before (c.into_record.result ∷ []));
      identities = All-rest (λ w. identity w ≡ ended_identity run.ended) watcher rest _ step was.identities;
      rooms = All-rest (HasRoomFor 1) watcher rest _ step was.rooms;
      same = IsSameEnd-trans was.same c.notice.ensures.same;
      written = c.notice.ensures.written ∙ was.written;
      lines = grind (arith, lines-more);
      records =
          ap (λ all. glances_of all ++ map whole rest) c.in_ok-push.ensures.items
          ∙ ap (λ all. all ++ map whole rest) (map-append (λ seen. seen.items) before (c.into_record.result ∷ []))
          ∙ append_assoc (glances_of before) (c.into_record.result.items ∷ []) (map whole rest)
          ∙ ap (λ seen. glances_of before ++ seen ∷ map whole rest) (ap (λ record_is. record_is.items) recorded ∙ c.in_ok-glance.ensures.recorded
          ∙ ap (λ list. (record_of watcher).items ++ glance_at list ∷ []) told)
          ∙ ap (λ watchers. glances_of before ++ map whole watchers) (sym step) ∙ was.records;
      seen = λ looks records.
          let (left, kept) = was.seen looks records in
          let now = All-head (IsRecord looks) watcher rest (subst (All (IsRecord looks)) step left) in
          let here = subst (λ list. HasSeen list looks (record_of c.look_last.new.self).items) told (c.in_ok-glance.ensures.seen looks now) in (
            All-rest (IsRecord looks) watcher rest _ step left,
            rw c.in_ok-push.ensures.items (All-push (HasSeenLast run looks) before c.into_record.result kept (rw recorded here)),
          );
    }

pub returns-clause-seen : goal.returns-clause-seen
returns-clause-seen c = λ looks records.
    (c.loop-watcher.invariant.seen looks (subst (All (IsRecord looks)) (sym c.into_iter-watcher-iterator.ensures.into_iter_gives.0) records)).1
