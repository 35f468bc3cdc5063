use Rattle.std.proofs.Common.{refl, ap, sym, ◌∙◌, arith}
use Rattle.mf_live.specs.Entries.{picture_at, revision_at, next_label}
use Rattle.mf_live.specs.Events.{Close}
use Rattle.mf_live.specs.Holders.{accepted_list, published_list}
use Rattle.mf_live.proofs.EntryLists.{picture_at-end, revision_at-end}
use Rattle.mf_live.proofs.Histories.{few_entries, is_there, one_more}
use Rattle.mf_live.proofs.holder.Holder.end.Goals as goal

pub write-requires : goal.write-requires
write-requires c = (is_there c.args.self.now.history.known.seen.log, c.requires.open)

pub overflow_add-self : goal.overflow_add-self
overflow_add-self c = omega (arith, few_entries c.args.self.now)

pub invariant_of-self : goal.invariant_of-self
invariant_of-self c =
    let h = c.args.self.now in
    let wrote = c.write.ensures in
    let more = one_more h c.write.new.self Close _ wrote.book wrote.events wrote.prefix refl in
    record {
      book = more.book;
      shown = more.shown;
      shown_is = more.shown_is;
      pictured = h.pictured ∙ sym (ap picture_at more.accepted ∙ picture_at-end (accepted_list h) (next_label (published_list h)));
      numbered = h.numbered ∙ sym (ap revision_at more.accepted ∙ revision_at-end (accepted_list h) (next_label (published_list h)));
      counted = more.counted;
    }

pub returns-clause-accepted : goal.returns-clause-accepted
returns-clause-accepted c = let wrote = c.write.ensures in (one_more c.args.self.now c.write.new.self Close _ wrote.book wrote.events wrote.prefix refl).accepted
