use Rattle.std.proofs.Common.{◌≡◌, ◌+◌, All, length}
use Rattle.mf_live.specs.Desks.{desk_identity, remaining_viewers}
use Rattle.mf_desk_watch.specs.Watchers.{IsWatcher}
use Rattle.mf_desk_watch.proofs.watching.watchers.Given as goal

abbrev pub invariant-loop : goal.invariant-loop
invariant-loop l =
    (desk_identity l.desk ≡ desk_identity l.fn.desk)
    × (remaining_viewers l.desk + l.counter ≡ remaining_viewers l.fn.desk)
    × (length l.watchers.items ≡ l.counter)
    × All (IsWatcher (desk_identity l.fn.desk) 0 (l.looks + 1)) l.watchers.items
