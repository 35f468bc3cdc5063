use Rattle.std.proofs.Common.{◌+◌, ◌∷◌, ap, arith, length, subst, sym}
use Rattle.std.proofs.lemmas.List.Elements.{All-head, All-rest, All-same}
use Rattle.std.specs.Vec.Iter.{into_iter_items}
use Rattle.mf_live.specs.Desks.{desk_identity}
use Rattle.mf_desk_watch.specs.Watchers.{IsWatcher}
use Rattle.mf_desk_watch.specs.Watching.{AreStarted}
use Rattle.mf_desk_watch.proofs.watching.Watching.start.Goals as goal

pub loop-watcher-preserved : goal.loop-watcher-preserved
loop-watcher-preserved g c =
    let (started, ready, counted, threads, room) = c.loop-watcher.invariant in
    let first = c.in-Some.ensures.steps.0 in
    let watchers = into_iter_items c.loop-watcher.watcher-iterator in
    let rest = into_iter_items c.next.new.self in
    let watcher = c.in-Some.watcher in
    let Ready = IsWatcher (desk_identity c.args.desk) 0 (c.args.looks + 1) in
    let this_ready : Ready watcher = All-head Ready watcher rest (All-same Ready (watcher ∷ rest) watchers (sym first) ready) in (
      subst (λ picture. AreStarted picture c.args.looks c.start_one.new.self) this_ready.identity_is c.start_one.ensures.started,
      All-rest Ready watcher rest watchers first ready,
      omega (arith, counted, ap length first, c.in_default.ensures.count),
      omega (arith, threads, c.start_one.ensures.room),
      omega (arith, room, c.start_one.ensures.joined),
    )
