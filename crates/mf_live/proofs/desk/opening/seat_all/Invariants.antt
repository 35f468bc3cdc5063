use Rattle.std.proofs.Common.{◌≡◌, ◌≤◌, All, length}
use Rattle.left_right.specs.Sides.{view}
use Rattle.mf_live.specs.Holders as holders
use Rattle.mf_live.specs.Rule.{view_knowing}
use Rattle.mf_live.specs.Viewers.{IsFresh}
use Rattle.mf_live.proofs.desk.opening.seat_all.Given as goal

abbrev pub invariant-loop : goal.invariant-loop
invariant-loop l = record {
  identified : view l.holder.swap.desk.place ≡ view_knowing (holders.knowledge l.fn.holder);
  known : holders.knowledge l.holder ≡ holders.knowledge l.fn.holder;
  accepted : holders.accepted_list l.holder ≡ holders.accepted_list l.fn.holder;
  published : holders.published_list l.holder ≡ holders.published_list l.fn.holder;
  fresh : All (IsFresh (holders.knowledge l.fn.holder)) l.viewers.items;
  few : length l.viewers.items ≤ l.counter;
}
