-- Each event that may happen keeps a world lawful.
use Rattle.std.proofs.Common.{◌≡◌, ◌≢◌, ◌≤◌, ◌+◌, ◌-◌, ◌==◌, ℕ, zero, suc, Bool, true, false, List, [], ◌∷◌, ◌++◌, length, get_or, refl, sym, ◌∙◌, ap, arith}
use Rattle.std.specs.List.{All}
use Rattle.std.proofs.Math.Seq.{get_or-append_seam}
use Rattle.std.proofs.Math.ListN.{get_or-append}
use Rattle.std.proofs.lemmas.Bool.{cond_both, cond-true, eq-eqb}
use Rattle.std.proofs.lemmas.List.{append_assoc, append-nil, length-append}
use Rattle.std.proofs.lemmas.List.Elements.{All-nil, All-head, All-tail, All-push, All-weaker}
use Rattle.mf_live.specs.Events.{Event, Accept, Refuse, Close, Publish, Discard, Look, Tell, Learn}
use Rattle.mf_live.specs.Entries.{Change, Operation, Entry, entry, revision_at, accepted_list_with, next_label, next_label_after, is_closed, IsUnrefused}
use Rattle.mf_live.specs.Prefixes.{IsWholePrefix, labels}
use Rattle.mf_live.specs.World.{World, May, after_event, notice_at, with_seen, IsPending, IsLawful, ShowsMore}
use Rattle.mf_live.proofs.EntryLists.{revision_at-push, revision_at-end, unrefused-push, unrefused-end, is_nothing_after_end-push}
use Rattle.mf_live.proofs.WholePrefixes.{labels-append, length-labels, whole-self, whole-nil, whole-trans, whole-longer}
use Rattle.std.proofs.lemmas.Int.{ints}

-- the next label is one more than the last
last-label : (n : ℕ) (e : Entry) (es : List Entry) → get_or (labels (e ∷ es)) (length es) 0 + 1 ≡ next_label_after n (e ∷ es)
last-label n e [] = refl
last-label n e (f ∷ fs) = last-label (e.label + 1) f fs

-- where the last label is one less than q, and q follows, the two differ
ends_apart : (ns more : List ℕ) (n k q : ℕ) → length ns ≡ n → n ≡ suc k → get_or ns k 0 + 1 ≡ q
    → get_or (ns ++ q ∷ more) (n - 1) 0 ≢ get_or (ns ++ q ∷ more) n 0
ends_apart ns more n k q long some last same = grind (arith, get_or-append, get_or-append_seam)

-- what is published is a whole prefix, since every entry after it has the next label
pending-whole : (P rest : List Entry) → All (λ (e : Entry). e.label ≡ next_label P) rest → IsWholePrefix P (P ++ rest)
pending-whole [] rest labelled = whole-nil rest
pending-whole (p ∷ ps) [] labelled = rw (append-nil (p ∷ ps)) (whole-self (p ∷ ps))
pending-whole (p ∷ ps) (q ∷ qs) labelled =
    let prefix = labels (p ∷ ps) in
    let long = length-labels (p ∷ ps) in
    let label = All-head (λ (e : Entry). e.label ≡ next_label (p ∷ ps)) q qs labelled in
    let apart = ends_apart prefix (labels qs) (length (p ∷ ps)) (length ps) q.label long refl (last-label 0 p ps ∙ sym label) in
    grind (arith, ints, length-append, labels-append)

whole_from : (P A : List Entry) → IsPending P A → IsWholePrefix P A
whole_from P A pending = rw pending.are (pending-whole P pending.pending pending.labelled)

pending-push : (P A : List Entry) (c : Change) → IsPending P A → IsPending P (A ++ entry (next_label P) c ∷ [])
pending-push P A c pending = record {
  pending = pending.pending ++ entry (next_label P) c ∷ [];
  are = ap (λ list. list ++ entry (next_label P) c ∷ []) pending.are ∙ append_assoc P pending.pending (entry (next_label P) c ∷ []);
  labelled = All-push (λ (e : Entry). e.label ≡ next_label P) pending.pending (entry (next_label P) c) pending.labelled refl;
}

pub none_pending : (A : List Entry) → IsPending A A
none_pending A = record { pending = []; are = sym (append-nil A); labelled = All-nil (λ (e : Entry). e.label ≡ next_label A) }

notice-whole : (ns : List (List Entry)) (k : ℕ) (P : List Entry) → All (λ n. IsWholePrefix n P) ns → IsWholePrefix (notice_at ns k) P
notice-whole [] k P each = whole-nil P
notice-whole (n ∷ ns) zero P each = All-head (λ n. IsWholePrefix n P) n ns each
notice-whole (n ∷ ns) (suc k) P each = notice-whole ns k P (All-tail (λ n. IsWholePrefix n P) n ns each)

-- when one viewer sees more, the others keep what they had seen
with_seen-whole : (seen : ℕ → List Entry) (i : ℕ) (L P : List Entry) → ((j : ℕ) → IsWholePrefix (seen j) P)
    → IsWholePrefix L P → (j : ℕ) → IsWholePrefix (with_seen seen i L j) P
with_seen-whole seen i L P each more j = cond_both (j == i) L (seen j) (λ S. IsWholePrefix S P) (λ _. more) (λ _. each j)

-- the writer accepts one more change
accepts : (max_ops : ℕ) (w : World) (c : Change) → IsLawful max_ops w → IsUnrefused (accepted_list_with w.accepted w.published c)
    → revision_at (accepted_list_with w.accepted w.published c) ≤ max_ops → is_closed w.accepted ≡ false
    → IsLawful max_ops (record w { accepted = accepted_list_with w.accepted w.published c })
accepts max_ops w c lawful unrefused few not_closed = grind (arith, whole_from, pending-push, is_nothing_after_end-push)

-- the writer leaves the list as it is, whatever others have seen of it
leaves_list : (max_ops : ℕ) (w : World) (seen : ℕ → List Entry) (notices : List (List Entry)) (gone : Bool)
    → IsLawful max_ops w → ((i : ℕ) → IsWholePrefix (seen i) w.published)
    → All (λ n. IsWholePrefix n w.published) notices → IsLawful max_ops (record w { seen = seen; notices = notices; gone = gone })
leaves_list max_ops w seen notices gone lawful each_seen each_notice = grind (arith)

-- a viewer sees a whole prefix of what is published
sees : (max_ops : ℕ) (w : World) (i : ℕ) (L : List Entry) → IsLawful max_ops w → IsWholePrefix L w.published
    → IsLawful max_ops (record w { seen = with_seen w.seen i L })
sees max_ops w i L lawful more = grind (arith, ints, leaves_list, with_seen-whole)

pub lawful_event : (max_ops : ℕ) (w : World) (e : Event) → IsLawful max_ops w → May max_ops w e → IsLawful max_ops (after_event w e)
lawful_event max_ops w (Accept op) lawful may =
    let unrefused = unrefused-push w.accepted (next_label w.published) op lawful.unrefused may.3 in
    accepts max_ops w (Operation op) lawful unrefused (omega (arith, revision_at-push w.accepted (next_label w.published) op)) may.1
lawful_event max_ops w Refuse lawful may = lawful
lawful_event max_ops w Close lawful may =
    grind (arith, ints, unrefused-end w.accepted (next_label w.published) lawful.unrefused, revision_at-end w.accepted (next_label w.published), accepts)
lawful_event max_ops w Publish lawful may = grind (arith, whole-self, none_pending, whole-trans, All-weaker, lawful)
lawful_event max_ops w (Discard true) lawful may = grind (arith, whole-self, none_pending, whole-trans, All-weaker, lawful)
lawful_event max_ops w (Discard false) lawful may = leaves_list max_ops w w.seen w.notices true lawful lawful.each_seen lawful.each_notice
lawful_event max_ops w (Look i) lawful may = sees max_ops w i w.published lawful (whole-self w.published)
lawful_event max_ops w Tell lawful may =
    leaves_list max_ops w w.seen (w.notices ++ w.published ∷ []) w.gone lawful lawful.each_seen
    (All-push (λ n. IsWholePrefix n w.published) w.notices w.published lawful.each_notice (whole-self w.published))
lawful_event max_ops w (Learn i k) lawful may = grind (arith, ints, notice-whole w.notices k w.published lawful.each_notice, sees, whole-longer)

-- an event leaves what is published as it is, or publishes more
pub published-event : (max_ops : ℕ) (w : World) (e : Event) → IsLawful max_ops w → IsWholePrefix w.published (after_event w e).published
published-event max_ops w Publish lawful = lawful.whole
published-event max_ops w (Discard true) lawful = lawful.whole
published-event max_ops w e lawful = whole-self w.published

-- each look shows more
pub shows_more : (max_ops : ℕ) (w : World) (e : Event) → IsLawful max_ops w → ShowsMore w e
shows_more max_ops w (Look i) lawful = (lawful.each_seen i, cond-true (i == i) w.published (w.seen i) (eq-eqb i i refl))
shows_more max_ops w e lawful = tt
