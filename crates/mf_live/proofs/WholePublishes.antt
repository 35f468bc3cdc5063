-- Labels never fall, so a prefix that cuts no publish in two has, of each publish, nothing or all of it.
use Rattle.std.proofs.Common.{◌≡◌, ◌≢◌, ◌≤◌, ◌<◌, ◌+◌, ◌-◌, ◌⊎◌, inl, inr, true, ℕ, zero, suc, List, [], ◌∷◌, ◌++◌}
use Rattle.std.proofs.Common.{length, get_or, refl, sym, ap, arith, length-append}
use Rattle.std.proofs.lemmas.Bool.{ne_eqb}
use Rattle.std.proofs.lemmas.List.{append-nil, get_or_append_left, get_or_at, nil_from_length}
use Rattle.std.proofs.lemmas.List.Elements.{filter-append}
use Rattle.mf_live.specs.Events.{Event, Accept, Close, Publish, Discard}
use Rattle.mf_live.specs.Entries.{Change, Operation, End, Entry, entry, next_label_after, next_label}
use Rattle.mf_live.specs.Prefixes.{labels, IsCut, IsWholePrefix, entries_labelled, HasWholePublishes}
use Rattle.mf_live.specs.World.{World, new_world, after_event, world_after, published_list_of}
use Rattle.mf_live.proofs.WholePrefixes.{labels-append, length-labels}
use Rattle.std.proofs.lemmas.Int.{ints}

-- the labels of a list never fall, from at least m to at most n
abbrev Rises : ℕ → List Entry → ℕ → Type 0
Rises m [] n = m ≤ n
Rises m (e ∷ es) n = (m ≤ e.label) × Rises e.label es n

Rises-bounds : (m : ℕ) (L : List Entry) (n : ℕ) → Rises m L n → m ≤ n
Rises-bounds m [] n rises = rises
Rises-bounds m (e ∷ L) n rises = let rest : e.label ≤ n = Rises-bounds e.label L n rises.1 in let first : m ≤ e.label = rises.0 in omega arith

Rises-push : (m : ℕ) (L : List Entry) (n : ℕ) (c : Change) → Rises m L n → Rises m (L ++ entry n c ∷ []) n
Rises-push m [] n c rises = (rises, omega arith)
Rises-push m (e ∷ L) n c rises = (rises.0, Rises-push e.label L n c rises.1)

Rises-next_label : (m k : ℕ) (L : List Entry) (n : ℕ) → m ≤ k → Rises m L n → Rises m L (next_label_after k L)
Rises-next_label m k [] n below rises = below
Rises-next_label m k (e ∷ L) n below rises = (rises.0, Rises-next_label e.label (e.label + 1) L n (omega arith) rises.1)

Rises-parts : (m : ℕ) (S : List Entry) (e : Entry) (rest : List Entry) (n : ℕ) → Rises m (S ++ e ∷ rest) n → Rises m S e.label × Rises e.label rest n
Rises-parts m [] e rest n rises = rises
Rises-parts m (first ∷ S) e rest n rises = grind (arith, Rises-parts first.label S e rest n rises.1)

-- the greatest label is the last
Rises-last : (m : ℕ) (L : List Entry) (n i : ℕ) → suc i ≡ length L → Rises m L n → Rises m L (get_or (labels L) i 0) × (get_or (labels L) i 0 ≤ n)
Rises-last m [] n i last rises = absurd (omega arith)
Rises-last m (e ∷ []) n zero last rises = ((rises.0, omega arith), rises.1)
Rises-last m (e ∷ []) n (suc i) last rises = absurd (omega arith)
Rises-last m (e ∷ f ∷ L) n zero last rises = absurd (omega arith)
Rises-last m (e ∷ f ∷ L) n (suc i) last rises = grind (arith, Rises-last e.label (f ∷ L) n i (omega arith) rises.1)

none_below : (m : ℕ) (L : List Entry) (n k : ℕ) → Rises m L n → k < m → entries_labelled k L ≡ []
none_below m [] n k rises below = refl
none_below m (e ∷ L) n k rises below = grind (arith, ne_eqb, none_below e.label L n k rises.1 (omega arith))

none_above : (m : ℕ) (L : List Entry) (n k : ℕ) → Rises m L n → n < k → entries_labelled k L ≡ []
none_above m [] n k rises above = refl
none_above m (e ∷ L) n k rises above = grind (arith, Rises-bounds, ne_eqb, none_above e.label L n k rises.1 above)

-- the prefix ends at a place where the labels on the two sides differ
whole_at_change : (S : List Entry) (e : Entry) (rest : List Entry) (n k : ℕ) → 0 < length S → Rises 0 (S ++ e ∷ rest) n
    → get_or (labels (S ++ e ∷ rest)) (length S - 1) 0 ≢ get_or (labels (S ++ e ∷ rest)) (length S) 0
    → (entries_labelled k S ≡ []) ⊎ (entries_labelled k S ≡ entries_labelled k (S ++ e ∷ rest))
whole_at_change S e rest n k some rises differ =
    let i : ℕ = length S - 1 in
    let last : ℕ = get_or (labels S) i 0 in
    let parts = Rises-parts 0 S e rest n rises in
    let prefix : Rises 0 S last × (last ≤ e.label) = Rises-last 0 S e.label i (omega arith) parts.0 in
    grind (arith, ints, labels-append, get_or_append_left, length-labels, get_or_at, none_below, filter-append, append-nil, none_above)

at_cut : (S rest : List Entry) (n k : ℕ) → IsCut (S ++ rest) (length S) → Rises 0 (S ++ rest) n
    → (entries_labelled k S ≡ []) ⊎ (entries_labelled k S ≡ entries_labelled k (S ++ rest))
at_cut S [] n k cut rises = inr (ap (entries_labelled k) (sym (append-nil S)))
at_cut S (e ∷ rest) n k (inl none) rises = inl (ap (entries_labelled k) (nil_from_length S none))
at_cut S (e ∷ rest) n k (inr (inl all)) rises = grind (arith, length-labels, length-append)
at_cut S (e ∷ rest) n k (inr (inr change)) rises = whole_at_change S e rest n k change.0 rises change.2

-- the labels of a world never fall, and none exceeds the next label
record AreRising (w : World) : Type 0 where
  accepted : Rises 0 w.accepted (next_label w.published)
  published : Rises 0 w.published (next_label w.published)

rising-all : (w : World) → AreRising w → Rises 0 w.accepted (next_label w.accepted)
rising-all w rising = Rises-next_label 0 0 w.accepted (next_label w.published) (omega arith) rising.accepted

rising-push : (w : World) (c : Change) → AreRising w → Rises 0 (w.accepted ++ entry (next_label w.published) c ∷ []) (next_label w.published)
rising-push w c rising = Rises-push 0 w.accepted (next_label w.published) c rising.accepted

rising-event : (w : World) (e : Event) → AreRising w → AreRising (after_event w e)
rising-event w (Accept op) rising = record { accepted = rising-push w (Operation op) rising; published = rising.published }
rising-event w Close rising = record { accepted = rising-push w End rising; published = rising.published }
rising-event w Publish rising = record { accepted = rising-all w rising; published = rising-all w rising }
rising-event w (Discard true) rising = record { accepted = rising-all w rising; published = rising-all w rising }
rising-event w e rising = record { accepted = rising.accepted; published = rising.published }

rising-after : (w : World) (events : List Event) → AreRising w → AreRising (world_after w events)
rising-after w [] rising = rising
rising-after w (e ∷ events) rising = rising-after (after_event w e) events (rising-event w e rising)

-- a whole prefix of what is published has, of each publish, nothing or all of it
pub whole_publishes : (S : List Entry) (events : List Event) → IsWholePrefix S (published_list_of events) → HasWholePublishes S (published_list_of events)
whole_publishes S events whole = grind (arith, ints, rising-after new_world events (record { accepted = omega arith; published = omega arith }), at_cut)
