use Rattle.std.proofs.Common.{◌≡◌, ◌+◌, ◌≤◌, All, length, vec_capacity}
use Rattle.std.specs.Vec.Iter.{into_iter_items}
use Rattle.mf_live.specs.Desks.{desk_identity}
use Rattle.mf_desk_watch.specs.Watchers.{IsWatcher}
use Rattle.mf_desk_watch.specs.Watching.{AreStarted, viewer_count}
use Rattle.mf_desk_watch.proofs.watching.Watching.start.Given as goal

abbrev pub invariant-loop-watcher : goal.invariant-loop-watcher
invariant-loop-watcher g l =
    let rest = into_iter_items l.watcher-iterator in
    AreStarted (desk_identity l.fn.desk) l.looks l.watching
    × All (IsWatcher (desk_identity l.fn.desk) 0 (l.looks + 1)) rest
    × (viewer_count l.watching + length rest ≡ l.viewers)
    × (l.viewers ≤ vec_capacity l.watching.threads)
    × (l.viewers ≤ vec_capacity l.watching.room)
