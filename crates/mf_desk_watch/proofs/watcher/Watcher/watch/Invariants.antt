use Rattle.std.proofs.Common.{◌≡◌, ◌+◌, ◌-◌}
use Rattle.mf_desk_watch.specs.Watchers.{IsWatcher, identity, seat}
use Rattle.mf_desk_watch.proofs.watcher.Watcher.watch.Given as goal

abbrev pub invariant-loop-look : goal.invariant-loop-look
invariant-loop-look g l = IsWatcher (identity l.fn.self) l.look (l.looks - l.look + 1) l.watcher × (seat l.watcher ≡ seat l.fn.self)
