use Rattle.std.proofs.Common.{◌≡◌, ◌+◌, ◌++◌, ◌<◌, ◌≤◌, ℕ, All, false, true, length, map, vec_capacity}
use Rattle.std.specs.Vec.Iter.{into_iter_items}
use Rattle.logbook.specs.Pages.{Book}
use Rattle.mf_desk_watch.specs.Watchers.{IsWatcher, seat}
use Rattle.mf_desk_watch.specs.Watching.{AreStarted, Owes, started_seat, started_seats, viewer_count}
use Rattle.mf_desk_watch.proofs.watching.Watching.join.Given as goal

abbrev pub invariant-loop-thread : goal.invariant-loop-thread
invariant-loop-thread g l =
    let rest = into_iter_items l.thread-iterator in
    ((picture : Book) (looks : ℕ) → AreStarted picture looks l.fn.self → All (IsWatcher picture looks 1) l.room.items × All (Owes picture looks) rest)
    × (length l.room.items + length rest ≤ vec_capacity l.room)
    × (l.missed ≡ false → length l.room.items + length rest ≡ viewer_count l.fn.self)
    × (length rest ≤ viewer_count l.fn.self)
    × (l.missed ≡ true → 0 < viewer_count l.fn.self)
    × (l.missed ≡ true → (picture : Book) (looks : ℕ) → AreStarted picture looks l.fn.self → 0 < looks)
    × (l.missed ≡ false → map seat l.room.items ++ map started_seat rest ≡ started_seats l.fn.self)
