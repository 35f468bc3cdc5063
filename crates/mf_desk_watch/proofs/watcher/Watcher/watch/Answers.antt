use Rattle.std.proofs.Common.{◌+◌, ◌-◌, ◌∙◌, arith}
use Rattle.std.proofs.lemmas.Result.{err_from_is_err_and}
use Rattle.mf_desk_watch.specs.Watchers.{identity}
use Rattle.mf_desk_watch.proofs.watcher.Watcher.watch.Goals as goal

pub returns-in_err-watcher-clause-refused : goal.returns-in_err-watcher-clause-refused
returns-in_err-watcher-clause-refused g c =
    let passed_on = err_from_is_err_and c.from_residual.result c.from_residual.ensures.1 in
    rw passed_on.1 (omega (arith, c.loop-look-test.true))

pub loop-look-preserved : goal.loop-look-preserved
loop-look-preserved g c =
    let (was, same) = c.loop-look.invariant in
    let left = c.args.looks - (c.loop-look.look + 1) in (
      c.in_ok-watcher.ensures.watcher (identity c.args.self) c.loop-look.look (left + 1)
          (record { identity_is = was.identity_is; record_is = was.record_is; last_is = was.last_is; room = omega (arith, was.room, c.loop-look-test.true) }),
      c.in_ok-watcher.ensures.seat ∙ same,
    )
