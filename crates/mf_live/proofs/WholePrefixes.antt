-- Whole prefixes of lists of entries.
use Rattle.std.proofs.Common.{◌≡◌, ◌≤◌, ◌<◌, ℕ, List, [], ◌++◌, length, nat_lt, inl, inr, refl, sym, ◌∙◌, ap, arith}
use Rattle.std.proofs.Math.ListN.{get_or-append}
use Rattle.std.proofs.lemmas.Bool.{cases_lt, cond-true, cond-false, lt-ltb, le-ltb, cond_both}
use Rattle.std.proofs.lemmas.List.{append_assoc, append-nil, length-append, length-map, map-append, nil_from_length}
use Rattle.mf_live.specs.Entries.{Entry}
use Rattle.mf_live.specs.Prefixes.{IsWholePrefix, IsCutAmong, IsCut, labels, longer}

pub length-labels : (L : List Entry) → length (labels L) ≡ length L
length-labels L = length-map L (λ (e : Entry). e.label)

pub labels-append : (xs ys : List Entry) → labels (xs ++ ys) ≡ labels xs ++ labels ys
labels-append xs ys = map-append (λ (e : Entry). e.label) xs ys

-- a cut before the end of some labels stays a cut when more labels follow
cut_among-append : (ns more : List ℕ) (n : ℕ) → n < length ns → IsCutAmong ns n → IsCutAmong (ns ++ more) n
cut_among-append ns more n inside (inl first) = inl first
cut_among-append ns more n inside (inr (inl last)) = absurd (omega arith)
cut_among-append ns more n inside (inr (inr between)) = grind (arith, get_or-append, length-append, sym)

-- the same for a cut of a list
cut-append : (L more : List Entry) (n : ℕ) → n < length L → IsCut L n → IsCut (L ++ more) n
cut-append L more n inside cut = rw (labels-append L more) (cut_among-append (labels L) (labels more) n (omega (arith, length-labels L)) cut)

cut-end : (L : List Entry) (n : ℕ) → n ≡ length L → IsCut L n
cut-end L n end = inr (inl (end ∙ sym (length-labels L)))

pub whole-self : (L : List Entry) → IsWholePrefix L L
whole-self L = record { rest = []; whole = sym (append-nil L); cut = cut-end L (length L) refl }

pub whole-nil : (L : List Entry) → IsWholePrefix [] L
whole-nil L = record { rest = L; whole = refl; cut = inl refl }

pub whole-length : (S L : List Entry) → IsWholePrefix S L → length S ≤ length L
whole-length S L whole = omega (arith, length-append S whole.rest, ap length whole.whole)

-- a whole prefix as long as the list is the list
pub whole-same : (S L : List Entry) → IsWholePrefix S L → length L ≤ length S → S ≡ L
whole-same S L whole long = grind (arith, nil_from_length, length-append, sym, append-nil)

pub whole-trans : (A B C : List Entry) → IsWholePrefix A B → IsWholePrefix B C → IsWholePrefix A C
whole-trans A B C first second = record {
  rest = first.rest ++ second.rest;
  whole = second.whole ∙ ap (λ prefix. prefix ++ second.rest) first.whole ∙ append_assoc A first.rest second.rest;
  cut = elim (cases_lt (length A) (length B)) [
    | inl shorter ↦ rw second.whole (cut-append B second.rest (length A) shorter first.cut)
    | inr long ↦ rw (whole-same A B first long) second.cut
  ];
}

-- the longer of two whole prefixes is a whole prefix
pub whole-longer : (a b L : List Entry) → IsWholePrefix a L → IsWholePrefix b L → IsWholePrefix (longer a b) L
whole-longer a b L one other = cond_both (nat_lt (length a) (length b)) b a (λ S. IsWholePrefix S L) (λ _. other) (λ _. one)

pub longer-shorter : (a b : List Entry) → length a < length b → longer a b ≡ b
longer-shorter a b shorter = cond-true (nat_lt (length a) (length b)) b a (lt-ltb (length a) (length b) shorter)

pub longer-long : (a b : List Entry) → length b ≤ length a → longer a b ≡ a
longer-long a b long = cond-false (nat_lt (length a) (length b)) b a (le-ltb (length a) (length b) long)

pub longer-of_whole : (a b : List Entry) → IsWholePrefix b a → longer a b ≡ a
longer-of_whole a b whole = longer-long a b (whole-length b a whole)
