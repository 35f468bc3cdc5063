use Rattle.std.proofs.Common.{rules, ◌≡◌, ◌+◌, ◌∷◌, ◌++◌, ◌∙◌, [], ap, append_assoc, arith, length, length-append, map, subst, sym}
use Rattle.std.proofs.lemmas.List.{map-append}
use Rattle.std.proofs.lemmas.List.Elements.{All-head, All-push, All-rest, All-same}
use Rattle.std.specs.Vec.Iter.{into_iter_items}
use Rattle.mf_desk_watch.specs.Watchers.{IsWatcher, seat}
use Rattle.mf_desk_watch.specs.Watching.{Owes, started_seat}
use Rattle.mf_desk_watch.proofs.watching.Watching.join.Goals as goal

pub loop-thread-preserved-in-Ok-push : goal.loop-thread-preserved-in-Ok-push
loop-thread-preserved-in-Ok-push g c =
    let (kept, room, counted, fewer, missed, looked, seats) = c.loop-thread.invariant in
    let first = c.in-Some.ensures.steps.0 in
    let pushed = c.in-Ok-push.ensures.items in
    let old = c.loop-thread.room.items in
    let threads = into_iter_items c.loop-thread.thread-iterator in
    let rest = into_iter_items c.next.new.self in
    let thread = c.in-Some.thread in
    let watcher = c.in-Ok.watcher in
    let longer : length c.push.new.self.items ≡ length old + 1 = omega (arith, ap length pushed, length-append old (watcher ∷ [])) in
    let shorter : length threads ≡ length rest + 1 = omega (arith, ap length first) in (
      λ picture looks started.
          let (ready, owe) = kept picture looks started in
          let Ready = IsWatcher picture looks 1 in
          let (same_picture, same_looks) = All-head (Owes picture looks) thread rest (All-same (Owes picture looks) (thread ∷ rest) threads (sym first) owe) in
          let this_ready : Ready watcher = subst (λ n. IsWatcher picture n 1 watcher) same_looks
          (subst (λ p. IsWatcher p thread.promise.looks 1 watcher) same_picture c.in-Ok.ensures.0) in (
            All-same Ready c.push.new.self.items (old ++ watcher ∷ []) pushed (All-push Ready old watcher ready this_ready),
            All-rest (Owes picture looks) thread rest threads first owe,
          ),
      omega (arith, room, longer, shorter, c.push.ensures.capacity),
      λ none_missed. omega (arith, counted none_missed, longer, shorter),
      omega (arith, fewer, shorter),
      missed,
      looked,
      λ none_missed.
          ap (λ items. map seat items ++ map started_seat rest) pushed
          ∙ ap (λ all. all ++ map started_seat rest) (map-append seat old (watcher ∷ []))
          ∙ append_assoc (map seat old) (seat watcher ∷ []) (map started_seat rest)
          ∙ ap (λ this. map seat old ++ this ∷ map started_seat rest) c.in-Ok.ensures.1
          ∙ ap (λ all. map seat old ++ map started_seat all) (sym first) ∙ seats none_missed,
    )

pub loop-thread-preserved : goal.loop-thread-preserved
loop-thread-preserved g c =
    let (kept, room, counted, fewer, missed, looked, seats) = c.loop-thread.invariant in
    let first = c.in-Some.ensures.steps.0 in
    let threads = into_iter_items c.loop-thread.thread-iterator in
    let rest = into_iter_items c.next.new.self in (
      (λ picture looks started.
          ((kept picture looks started).0, All-rest (Owes picture looks) c.in-Some.thread rest threads first (kept picture looks started).1)),
      omega (arith, room, ap length first),
      λ none_missed. search rules,
      omega (arith, fewer, ap length first),
      λ _. omega (arith, fewer, ap length first),
      λ _ picture looks started.
          let Owed = Owes picture looks in
          let owed =
          All-head Owed c.in-Some.thread rest
          (All-same Owed (c.in-Some.thread ∷ rest) (into_iter_items c.loop-thread.thread-iterator) (sym first) (kept picture looks started).1) in
          omega (arith, owed.1, c.in-Err.ensures),
      λ none_missed. search rules,
    )

pub returns-then-missed-clause-looked : goal.returns-then-missed-clause-looked
returns-then-missed-clause-looked g c = c.loop-thread.invariant.5 c.if-missed.true

pub returns-clause-watchers : goal.returns-clause-watchers
returns-clause-watchers g c = λ picture looks started. (c.loop-thread.invariant.0 picture looks started).0
