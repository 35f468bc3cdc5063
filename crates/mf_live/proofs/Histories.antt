-- The history of a picture: how long its lists are, and what one more event does to them.
use Rattle.std.proofs.Common.{◌≡◌, ◌≤◌, ◌+◌, false, List, [], ◌∷◌, ◌++◌, length, take, drop, ap, refl, sym, ◌∙◌, arith, length-append}
use Rattle.std.proofs.Math.Seq.{take-append_seam}
use Rattle.std.proofs.lemmas.List.{take-append-drop}
use mathlib.Core.List.{IsPrefix}
use Rattle.mf_live.specs.declared.event.Line.{Line}
use Rattle.mf_live.specs.declared.event.WriterEvent.{WriterEvent}
use Rattle.mf_live.specs.declared.event.WriterEvent.TheVariants as writer
use Rattle.mf_live.specs.declared.history.History.{History}
use Rattle.mf_live.specs.declared.holder.Holder.{Holder}
use Rattle.mf_live.specs.Books.{greatest_limit, BeginsWith}
use Rattle.mf_live.specs.Entries.{Change, entry, accepted_list_with, next_label}
use Rattle.mf_live.specs.Events.{Event, event_of, events_of}
use Rattle.mf_live.specs.Holders.{events, accepted_list, published_list, version}
use Rattle.mf_live.specs.Rule.{book_of, lines_of, version_list}
use Rattle.mf_live.specs.World.{World, IsLawful, Happen, May, new_world, after_event, world_after, accepted_list_of, published_list_of}
use Rattle.mf_live.proofs.EntryLists.{length-revision_at}
use Rattle.mf_live.proofs.ListPrefixes.{prefix-trans}
use Rattle.mf_live.proofs.Worlds.{world_after-push, Happen-push, lawful-after}

pub events_of-append : (xs ys : List Line) → events_of (xs ++ ys) ≡ events_of xs ++ events_of ys
events_of-append [] ys = refl
events_of-append (l ∷ ls) ys = ap (λ es. event_of l.event ∷ es) (events_of-append ls ys)

pub Happen-line : (lines : List Line) (l : Line) → Happen greatest_limit new_world (events_of lines)
    → May greatest_limit (world_after new_world (events_of lines)) (event_of l.event) → Happen greatest_limit new_world (events_of (lines ++ l ∷ []))
Happen-line lines l happen may = rw (events_of-append lines (l ∷ [])) (Happen-push greatest_limit new_world (events_of lines) (event_of l.event) happen may)

-- a writer never writes that it has gone
stays-event : (w : World) (e : WriterEvent) → w.gone ≡ false → (after_event w (event_of e)).gone ≡ false
stays-event w (writer.Accept op) here = here
stays-event w writer.Close here = here
stays-event w writer.Publish here = here

stays : (w : World) (lines : List Line) → w.gone ≡ false → (world_after w (events_of lines)).gone ≡ false
stays w [] here = here
stays w (l ∷ ls) here = stays (after_event w (event_of l.event)) ls (stays-event w l.event here)

pub is_there : (lines : List Line) → (world_after new_world (events_of lines)).gone ≡ false
is_there lines = stays new_world lines refl

-- a list begins with its prefixes
pub begins_from : (xs ys : List Line) → IsPrefix xs ys → BeginsWith ys xs
begins_from xs ys prefix = ap (take (length xs)) (sym prefix.1) ∙ take-append_seam xs prefix.0

pub prefix_from : (xs ys : List Line) → BeginsWith ys xs → IsPrefix xs ys
prefix_from xs ys begins = (drop (length xs) ys, ap (λ L. L ++ drop (length xs) ys) (sym begins) ∙ take-append-drop (length xs) ys)

pub lawful : (h : Holder) → IsLawful greatest_limit (world_after new_world (events h))
lawful h = lawful-after greatest_limit (events h) h.history.lawful

-- at most `greatest_limit` operations and the end mark were accepted
pub few_entries : (h : Holder) → h.entries ≤ greatest_limit + 1
few_entries h = omega (arith, h.counted, length-revision_at (accepted_list h) (lawful h).ended, (lawful h).few)

-- what one more event does to the lists
module _ (old new : List Event) (e : Event) (more : new ≡ old ++ e ∷ []) where
  world_is : world_after new_world new ≡ after_event (world_after new_world old) e
  world_is = ap (world_after new_world) more ∙ world_after-push new_world old e

  pub accepted-more : accepted_list_of new ≡ (after_event (world_after new_world old) e).accepted
  accepted-more = ap (λ (w : World). w.accepted) world_is

  pub published-more : published_list_of new ≡ (after_event (world_after new_world old) e).published
  published-more = ap (λ (w : World). w.published) world_is

abbrev with_change : World → Change → World
with_change w c = record w { accepted = accepted_list_with w.accepted w.published c }

-- one more change is accepted, and the same version is shown
pub record HasOneMore (h : Holder) (next : History) (c : Change) : Type 0 where
  pub book : book_of (version h) ≡ next.known.seen.book
  pub shown : BeginsWith next.known.seen.log (lines_of (version h))
  pub accepted : accepted_list_of (events_of next.known.seen.log) ≡ accepted_list_with (accepted_list h) (published_list h) c
  pub published : published_list_of (events_of next.known.seen.log) ≡ published_list h
  pub shown_is : version_list (version h) ≡ published_list_of (events_of next.known.seen.log)
  pub counted : h.entries + 1 ≡ length (accepted_list_of (events_of next.known.seen.log))

pub one_more : (h : Holder) (next : History) (e : Event) (c : Change) → next.known.seen.book ≡ h.history.known.seen.book
    → events_of next.known.seen.log ≡ events h ++ e ∷ [] → IsPrefix h.history.known.seen.log next.known.seen.log
    → after_event (world_after new_world (events h)) e ≡ with_change (world_after new_world (events h)) c → HasOneMore h next c
one_more h next e c book more prefix accepts =
    let accepted : accepted_list_of (events_of next.known.seen.log) ≡ accepted_list_with (accepted_list h) (published_list h) c =
    accepted-more (events h) _ e more ∙ ap (λ (w : World). w.accepted) accepts in
    let published : published_list_of (events_of next.known.seen.log) ≡ published_list h = published-more (events h) _ e more ∙ ap (λ (w : World). w.published) accepts in
    record {
      book = h.book ∙ sym book;
      shown = begins_from _ _ (prefix-trans _ h.history.known.seen.log _ (prefix_from _ _ h.shown) prefix);
      accepted = accepted;
      published = published;
      shown_is = h.shown_is ∙ sym published;
      counted = omega (arith, h.counted, ap length accepted, length-append (accepted_list h) (entry (next_label (published_list h)) c ∷ []));
    }
