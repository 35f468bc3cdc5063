-- Lists of events and the worlds after them.
use Rattle.std.proofs.Common.{◌≡◌, ℕ, List, [], ◌∷◌, ◌++◌, refl, arith}
use Rattle.mf_live.specs.Events.{Event}
use Rattle.mf_live.specs.Prefixes.{IsWholePrefix}
use Rattle.mf_live.specs.World.{World, new_world, Happen, May, after_event, world_after, IsLawful, EverySchedule, StaysLawful, published_list_of}
use Rattle.mf_live.proofs.Lawfulness.{lawful_event, published-event, shows_more, none_pending}
use Rattle.mf_live.proofs.WholePrefixes.{whole-self, whole-trans, whole-nil}
use Rattle.mf_live.proofs.Blank.{blank_revision}
use Rattle.std.proofs.lemmas.List.Elements.{All-nil}

pub world_after-append : (w : World) (xs ys : List Event) → world_after w (xs ++ ys) ≡ world_after (world_after w xs) ys
world_after-append w [] ys = refl
world_after-append w (x ∷ xs) ys = world_after-append (after_event w x) xs ys

pub world_after-push : (w : World) (xs : List Event) (e : Event) → world_after w (xs ++ e ∷ []) ≡ after_event (world_after w xs) e
world_after-push w xs e = world_after-append w xs (e ∷ [])

pub Happen-append : (max_ops : ℕ) (w : World) (xs ys : List Event) → Happen max_ops w xs → Happen max_ops (world_after w xs) ys → Happen max_ops w (xs ++ ys)
Happen-append max_ops w [] ys first second = second
Happen-append max_ops w (x ∷ xs) ys first second = (first.0, Happen-append max_ops (after_event w x) xs ys first.1 second)

pub Happen-push : (max_ops : ℕ) (w : World) (xs : List Event) (e : Event) → Happen max_ops w xs
    → May max_ops (world_after w xs) e → Happen max_ops w (xs ++ e ∷ [])
Happen-push max_ops w xs e first may = Happen-append max_ops w xs (e ∷ []) first (may, tt)

pub Happen-prefix : (max_ops : ℕ) (w : World) (xs ys : List Event) → Happen max_ops w (xs ++ ys) → Happen max_ops w xs
Happen-prefix max_ops w [] ys happen = tt
Happen-prefix max_ops w (x ∷ xs) ys happen = (happen.0, Happen-prefix max_ops (after_event w x) xs ys happen.1)

pub Happen-rest : (max_ops : ℕ) (w : World) (xs ys : List Event) → Happen max_ops w (xs ++ ys) → Happen max_ops (world_after w xs) ys
Happen-rest max_ops w [] ys happen = happen
Happen-rest max_ops w (x ∷ xs) ys happen = Happen-rest max_ops (after_event w x) xs ys happen.1

stays_lawful : (max_ops : ℕ) (w : World) (events : List Event) → IsLawful max_ops w → Happen max_ops w events → StaysLawful max_ops w events
stays_lawful max_ops w [] lawful happen = lawful
stays_lawful max_ops w (e ∷ es) lawful happen =
    (lawful, shows_more max_ops w e lawful, stays_lawful max_ops (after_event w e) es (lawful_event max_ops w e lawful happen.0) happen.1)

pub every_schedule : (max_ops : ℕ) → EverySchedule max_ops
every_schedule max_ops events happen = stays_lawful max_ops new_world events (grind (arith, blank_revision [] refl, whole-nil, none_pending, All-nil)) happen

lawful-on : (max_ops : ℕ) (w : World) (xs : List Event) → IsLawful max_ops w → Happen max_ops w xs → IsLawful max_ops (world_after w xs)
lawful-on max_ops w [] lawful happen = lawful
lawful-on max_ops w (x ∷ xs) lawful happen = lawful-on max_ops (after_event w x) xs (lawful_event max_ops w x lawful happen.0) happen.1

-- what happens from the start leaves a lawful world
pub lawful-after : (max_ops : ℕ) (xs : List Event) → Happen max_ops new_world xs → IsLawful max_ops (world_after new_world xs)
lawful-after max_ops xs happen = lawful-on max_ops new_world xs (grind (arith, blank_revision [] refl, whole-nil, none_pending, All-nil)) happen

published-on : (max_ops : ℕ) (w : World) (xs : List Event) → IsLawful max_ops w → Happen max_ops w xs → IsWholePrefix w.published (world_after w xs).published
published-on max_ops w [] lawful happen = whole-self w.published
published-on max_ops w (x ∷ xs) lawful happen =
    let w_next = after_event w x in
    let later = published-on max_ops w_next xs (lawful_event max_ops w x lawful happen.0) happen.1 in
    whole-trans w.published w_next.published (world_after w_next xs).published (published-event max_ops w x lawful) later

-- what is published is a whole prefix of what is published later
pub published_list_grows : (max_ops : ℕ) (xs ys : List Event) → Happen max_ops new_world (xs ++ ys)
    → IsWholePrefix (published_list_of xs) (published_list_of (xs ++ ys))
published_list_grows max_ops xs ys happen = grind (arith, lawful-after, Happen-prefix, Happen-rest, world_after-append, published-on)
