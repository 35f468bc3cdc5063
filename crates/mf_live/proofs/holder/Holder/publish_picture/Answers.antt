use Rattle.std.proofs.Common.{◌≡◌, ◌∙◌, length, ap, subst, sym}
use mathlib.Core.List.{IsPrefix}
use Rattle.mf_live.specs.declared.history.Knowledge.{Knowledge}
use Rattle.mf_live.specs.Books.{greatest_limit}
use Rattle.mf_live.specs.Entries.{picture_at, revision_at}
use Rattle.mf_live.specs.Events.{Publish, events_of}
use Rattle.mf_live.specs.Holders.{accepted_list, events, version}
use Rattle.mf_live.specs.Rule.{lines_of}
use Rattle.mf_live.specs.World.{Happen, new_world, accepted_list_of, published_list_of}
use Rattle.mf_live.proofs.Histories.{accepted-more, published-more, is_there, prefix_from}
use Rattle.mf_live.proofs.ListPrefixes.{prefix-trans}
use Rattle.mf_live.proofs.holder.Holder.publish_picture.Goals.{After-copy}
use Rattle.mf_live.proofs.holder.Holder.publish_picture.Goals as goal

pub write-requires : goal.write-requires
write-requires g c = is_there c.args.self.now.history.known.seen.log

-- the version knows all that has happened, and everything that is accepted is published
known : (g : _) (c : After-copy g) → events_of c.copy.result.seen.log ≡ events_of c.write.new.self.known.seen.log
known g c = ap (λ (k : Knowledge). events_of k.seen.log) c.copy.ensures

publishes : (g : _) (c : After-copy g) → published_list_of (events_of c.copy.result.seen.log) ≡ accepted_list c.args.self.now
publishes g c = ap published_list_of (known g c) ∙ published-more (events c.args.self.now) _ Publish c.write.ensures.events

accepts : (g : _) (c : After-copy g) → accepted_list_of (events_of c.copy.result.seen.log) ≡ accepted_list c.args.self.now
accepts g c = ap accepted_list_of (known g c) ∙ accepted-more (events c.args.self.now) _ Publish c.write.ensures.events

pub invariant_of-notice : goal.invariant_of-notice
invariant_of-notice g c =
    let h = c.args.self.now in
    let path = (goal.at.invariant_of-notice g c).After-copy in
    record {
      lawful = subst (Happen greatest_limit new_world) (sym (known g path)) c.write.new.self.lawful;
      whole = accepts g path ∙ sym (publishes g path);
      counted = h.counted ∙ sym (ap length (publishes g path));
      numbered = h.numbered ∙ sym (ap revision_at (publishes g path));
    }

pub invariant_of-show : goal.invariant_of-show
invariant_of-show g c = record { pictured = c.requires.picture ∙ sym (ap picture_at (publishes g (goal.at.invariant_of-show g c).After-copy)) }

pub show-requires-clause-prefix : goal.show-requires-clause-prefix
show-requires-clause-prefix g c =
    let h = c.args.self.now in
    subst (λ (k : Knowledge). IsPrefix (lines_of (version h)) k.seen.log) (sym c.copy.ensures) (prefix-trans _ h.history.known.seen.log _ (prefix_from _ _ h.shown) c.write.ensures.prefix)

pub returns-clause-accepted : goal.returns-clause-accepted
returns-clause-accepted g c = accepted-more (events c.args.self.now) _ Publish c.write.ensures.events

pub returns-clause-published : goal.returns-clause-published
returns-clause-published g c = published-more (events c.args.self.now) _ Publish c.write.ensures.events
