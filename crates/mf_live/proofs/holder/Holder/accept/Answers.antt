use Rattle.std.proofs.Common.{refl, ap, sym, ◌∙◌, arith}
use Rattle.mf_live.specs.Entries.{picture_at, revision_at, next_label}
use Rattle.mf_live.specs.Events.{Accept}
use Rattle.mf_live.specs.Holders.{accepted_list, published_list}
use Rattle.mf_live.proofs.EntryLists.{picture_at-push, revision_at-push}
use Rattle.mf_live.proofs.Histories.{few_entries, is_there, one_more}
use Rattle.mf_live.proofs.holder.Holder.accept.Goals as goal

pub write-requires : goal.write-requires
write-requires c =
    let h = c.args.self.now in
    (is_there h.history.known.seen.log, c.requires.open, c.requires.few, rw h.pictured at c.in_ok-apply.ensures.accepted)

pub overflow_add-self : goal.overflow_add-self
overflow_add-self c = omega (arith, few_entries c.args.self.now)

pub invariant_of-self-2 : goal.invariant_of-self-2
invariant_of-self-2 c =
    let h = c.args.self.now in
    let op = c.args.op.now in
    let wrote = c.write.ensures in
    let step = rw h.pictured at c.in_ok-apply.ensures.step in
    let more = one_more h c.write.new.self (Accept op) _ wrote.book wrote.events wrote.prefix refl in
    record {
      book = more.book;
      shown = more.shown;
      shown_is = more.shown_is;
      pictured = step ∙ sym (ap picture_at more.accepted ∙ picture_at-push (accepted_list h) (next_label (published_list h)) op);
      numbered = omega (arith, h.numbered, ap revision_at more.accepted, revision_at-push (accepted_list h) (next_label (published_list h)) op);
      counted = more.counted;
    }

pub returns-clause-accepted : goal.returns-clause-accepted
returns-clause-accepted c = grind (arith, one_more)
