use Rattle.std.proofs.Common.{◌≡◌, ◌+◌, ◌++◌, ℕ, All, length, map}
use Rattle.std.specs.Vec.Iter.{into_iter_items}
use Rattle.mf_live.specs.Writers.{ended_identity}
use Rattle.mf_desk_watch.specs.Watchers.{HasRoomFor, IsRecord, identity}
use Rattle.mf_desk.specs.EndedRuns.{HasSeenLast, IsSameEnd, glance, glances_of, whole_record}
use Rattle.mf_desk.specs.Performances.{viewer_lines}
use Rattle.mf_desk.proofs.ended_run.EndedRun.look_last.Given as goal

abbrev pub invariant-loop-watcher : goal.invariant-loop-watcher
invariant-loop-watcher l = record {
  count : length l.seen.items + length (into_iter_items l.watcher-iterator) ≡ length (into_iter_items l.initial.watcher-iterator);
  identities : All (λ w. identity w ≡ ended_identity l.initial.self.ended) (into_iter_items l.watcher-iterator);
  rooms : All (HasRoomFor 1) (into_iter_items l.watcher-iterator);
  same : IsSameEnd l.initial.self l.self;
  written : l.self.written ≡ l.initial.self.written;
  lines : l.lines.items ≡ viewer_lines (length l.seen.items) (glance l.initial.self);
  records : glances_of l.seen.items ++ map (whole_record l.initial.self) (into_iter_items l.watcher-iterator)
      ≡ map (whole_record l.initial.self) (into_iter_items l.initial.watcher-iterator);
  seen : (looks : ℕ) → All (IsRecord looks) (into_iter_items l.initial.watcher-iterator)
      → All (IsRecord looks) (into_iter_items l.watcher-iterator) × All (HasSeenLast l.initial.self looks) l.seen.items;
}
