use Rattle.std.proofs.Common.{inl, refl, subst, sym, arith}
use Rattle.mf_live.specs.Viewers as viewers
use Rattle.mf_desk_watch.specs.Watchers.{AreGlances}
use Rattle.mf_desk_watch.proofs.Glances.{AreGlances-none}
use Rattle.mf_desk_watch.proofs.watcher.Watcher.new.Goals as goal

pub returns : goal.returns
returns c =
    let made = c.in_ok-with_capacity.ensures in
    record {
      identity_is = refl;
      record_is = subst (λ gs. AreGlances (viewers.seen_list c.args.viewer) 0 gs) (sym made.items) (AreGlances-none (viewers.seen_list c.args.viewer));
      last_is = inl made.items;
      room = omega (arith, made.len, made.capacity);
    }
