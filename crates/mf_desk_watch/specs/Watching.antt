-- What the threads of viewers promise.
use Rattle.std.specs.Prelude.{◌≡◌, ℕ, All, List, length, map}
use Rattle.core.specs.declared.result.Result.{Result}
use Rattle.core.specs.declared.thread.PromisedHandle.{PromisedHandle}
use Rattle.logbook.specs.Pages.{Book}
use Rattle.mf_live.specs.declared.look.NoLook.{NoLook}
use Rattle.mf_desk_watch.specs.declared.watcher.Watcher.{Watcher}
use Rattle.mf_desk_watch.specs.declared.watching.OwedLooks.{OwedLooks}
use Rattle.mf_desk_watch.specs.declared.watching.Watching.{Watching}
use Rattle.mf_desk_watch.specs.Watchers.{identity, seat}

-- how many viewers look on
abbrev pub viewer_count : Watching → ℕ
viewer_count watching = length watching.threads.items

-- the seat of the viewer with which a thread was started
abbrev pub started_seat : PromisedHandle (Result Watcher NoLook) OwedLooks → ℕ
started_seat thread = seat thread.promise.watcher.value

-- these seats, in the order of the threads
abbrev pub started_seats : Watching → List ℕ
started_seats watching = map started_seat watching.threads.items

-- the thread promises this many looks at this picture
abbrev pub Owes : Book → ℕ → PromisedHandle (Result Watcher NoLook) OwedLooks → Type 0
Owes picture looks thread = (identity thread.promise.watcher.value ≡ picture) × (thread.promise.looks ≡ looks)

-- each thread promises this many looks at this picture
abbrev pub AreStarted : Book → ℕ → Watching → Type 0
AreStarted picture looks watching = All (Owes picture looks) watching.threads.items
