-- The world of one picture: what is accepted and published, what viewers have seen, and what may happen to it.
use Rattle.std.specs.Prelude.{◌≡◌, ◌<◌, ◌≤◌, ◌++◌, ◌==◌, Bool, true, false, ℕ, zero, suc, List, [], ◌∷◌, All, length, None, if◌then◌else◌}
use Rattle.mf_ops.specs.Step.{op_fault}
use Rattle.mf_live.specs.Entries.{Operation, End, Entry, picture_at, revision_at, accepted_list_with, next_label, is_closed, is_nothing_after_end, IsUnrefused}
use Rattle.mf_live.specs.Events.{Event, Accept, Refuse, Close, Publish, Discard, Look, Tell, Learn}
use Rattle.mf_live.specs.Prefixes.{IsWholePrefix, longer}

-- what the writer has accepted, what of that is published, what viewers have seen, and what notices say
pub record World : Type 0 where
  pub accepted : List Entry
  pub published : List Entry
  -- what each viewer has looked at or learnt of
  pub seen : ℕ → List Entry
  pub notices : List (List Entry)
  -- whether the writer is gone
  pub gone : Bool

-- the world before anything has happened
abbrev pub new_world : World
new_world = record { accepted = []; published = []; seen = λ i. []; notices = []; gone = false }

-- the k-th notice, or the empty list where there is none
abbrev pub notice_at : List (List Entry) → ℕ → List Entry
notice_at [] k = []
notice_at (n ∷ ns) zero = n
notice_at (n ∷ ns) (suc k) = notice_at ns k

-- the viewer i has seen L, and the others have seen what they had seen
abbrev pub with_seen : (ℕ → List Entry) → ℕ → List Entry → ℕ → List Entry
with_seen seen i L j = if j == i then L else seen j

-- when an event may happen, where at most max_ops operations may be accepted
abbrev pub May : ℕ → World → Event → Type 0
May max_ops w (Accept op) =
    (w.gone ≡ false) × (is_closed w.accepted ≡ false) × (revision_at w.accepted < max_ops) × (op_fault (picture_at w.accepted) op ≡ None)
May max_ops w Refuse = Unit {0}
May max_ops w Close = (w.gone ≡ false) × (is_closed w.accepted ≡ false)
May max_ops w Publish = w.gone ≡ false
May max_ops w (Discard publishes) = w.gone ≡ false
May max_ops w (Look i) = Unit {0}
May max_ops w Tell = w.gone ≡ false
May max_ops w (Learn i k) = k < length w.notices

-- the world after an event
abbrev pub after_event : World → Event → World
after_event w (Accept op) = record w { accepted = accepted_list_with w.accepted w.published (Operation op) }
after_event w Refuse = w
after_event w Close = record w { accepted = accepted_list_with w.accepted w.published End }
after_event w Publish = record w { published = w.accepted }
after_event w (Discard publishes) = record w { published = (if publishes then w.accepted else w.published); gone = true }
after_event w (Look i) = record w { seen = with_seen w.seen i w.published }
after_event w Tell = record w { notices = w.notices ++ w.published ∷ [] }
after_event w (Learn i k) = record w { seen = with_seen w.seen i (longer (w.seen i) (notice_at w.notices k)) }

-- each event may happen in its turn
abbrev pub Happen : ℕ → World → List Event → Type 0
Happen max_ops w [] = Unit {0}
Happen max_ops w (e ∷ es) = May max_ops w e × Happen max_ops (after_event w e) es

-- the world after these events, in this order
abbrev pub world_after : World → List Event → World
world_after w [] = w
world_after w (e ∷ es) = world_after (after_event w e) es

-- every entry after the published ones has the next label
pub record IsPending (published accepted : List Entry) : Type 0 where
  pub pending : List Entry
  pub are : accepted ≡ published ++ pending
  pub labelled : All (λ (e : Entry). e.label ≡ next_label published) pending

-- no accepted operation is refused, and there are at most max_ops of them; what is published is a whole prefix of what is
-- accepted, and the rest has the next label; what each viewer has seen and what each notice says are whole prefixes of what is
-- published; and nothing follows the end mark
pub record IsLawful (max_ops : ℕ) (w : World) : Type 0 where
  pub unrefused : IsUnrefused w.accepted
  pub few : revision_at w.accepted ≤ max_ops
  pub whole : IsWholePrefix w.published w.accepted
  pub pending : IsPending w.published w.accepted
  pub each_seen : (i : ℕ) → IsWholePrefix (w.seen i) w.published
  pub each_notice : All (λ n. IsWholePrefix n w.published) w.notices
  pub ended : is_nothing_after_end w.accepted ≡ true

-- a look shows what is published: that is what the viewer has seen after it, and everything that the viewer had seen before is a whole
-- prefix of that
abbrev pub ShowsMore : World → Event → Type 0
ShowsMore w (Look i) = IsWholePrefix (w.seen i) w.published × ((after_event w (Look i)).seen i ≡ w.published)
ShowsMore w e = Unit {0}

-- the world is lawful before and after each event, and each look shows more
abbrev pub StaysLawful : ℕ → World → List Event → Type 0
StaysLawful max_ops w [] = IsLawful max_ops w
StaysLawful max_ops w (e ∷ es) = IsLawful max_ops w × ShowsMore w e × StaysLawful max_ops (after_event w e) es

-- whatever happens from the start, in whatever order, stays lawful
abbrev pub EverySchedule : ℕ → Type 0
EverySchedule max_ops = (events : List Event) → Happen max_ops new_world events → StaysLawful max_ops new_world events

-- what is accepted, and what is published, once these events have happened
abbrev pub accepted_list_of : List Event → List Entry
accepted_list_of events = (world_after new_world events).accepted

abbrev pub published_list_of : List Event → List Entry
published_list_of events = (world_after new_world events).published
