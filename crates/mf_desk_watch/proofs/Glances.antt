-- The records of viewers.
use Rattle.std.proofs.Common.{◌≡◌, ◌≤◌, ◌+◌, ℕ, List, [], ◌∷◌, ◌++◌, All, refl, ap, ◌∙◌, arith, length-append}
use Rattle.std.proofs.lemmas.List.Elements.{All-head, All-tail, All-push, All-nil, All-weaker}
use Rattle.mf_live.specs.Entries.{Entry, picture_at, revision_at}
use Rattle.mf_live.specs.Prefixes.{IsWholePrefix}
use Rattle.mf_live.proofs.EntryLists.{revision_at-whole}
use Rattle.mf_live.proofs.WholePrefixes.{whole-self, whole-trans}
use Rattle.mf_rows.specs.Dots.{Dot, total_of}
use Rattle.mf_desk_watch.specs.declared.glance.Glance.{Glance}
use Rattle.mf_desk_watch.specs.Watchers.{AreGlances, HasSeen, IsGlance, NeverFall, glance_at}

-- the glance at the picture of a list
pub glance-of : (L : List Entry) (revision : ℕ) (picture : List Dot) → revision ≡ revision_at L
    → picture ≡ picture_at L → record { revision = revision; total = total_of picture } ≡ glance_at L
glance-of L revision picture number shown = rw (number, shown) refl

-- nothing is seen before the first look
pub AreGlances-none : (whole : List Entry) → AreGlances whole 0 []
AreGlances-none whole = record { counted = refl; each = All-nil (IsGlance whole); never_fall = tt }

-- a glance at a whole prefix of S is one at a whole prefix of L, where S is a whole prefix of L
IsGlance-more : (S L : List Entry) (g : Glance) → IsWholePrefix S L → IsGlance S g → IsGlance L g
IsGlance-more S L g more seen = record { list = seen.list; prefix = whole-trans seen.list S L seen.prefix more; is = seen.is }

-- the revision of a glance is no greater than that of the list
revision-le : (L : List Entry) (g : Glance) → IsGlance L g → g.revision ≤ revision_at L
revision-le L g seen = rw (ap (λ g. g.revision) seen.is) (revision_at-whole seen.list L seen.prefix)

NeverFall-push : (low : ℕ) (gs : List Glance) (g : Glance) → low ≤ g.revision
    → All (λ (e : Glance). e.revision ≤ g.revision) gs → NeverFall low gs → NeverFall low (gs ++ g ∷ [])
NeverFall-push low [] g above below rising = (above, tt)
NeverFall-push low (e ∷ es) g above below rising =
    let P : Glance → Type 0 = λ (x : Glance). x.revision ≤ g.revision in
    (rising.0, NeverFall-push e.revision es g (All-head P e es below) (All-tail P e es below) rising.1)

-- one more look, at a list of which everything that was seen is a whole prefix
pub AreGlances-push : (S L : List Entry) (looks : ℕ) (gs : List Glance) → IsWholePrefix S L → AreGlances S looks gs
    → AreGlances L (looks + 1) (gs ++ glance_at L ∷ [])
AreGlances-push S L looks gs more glances =
    let each : All (IsGlance L) gs = All-weaker (IsGlance S) (IsGlance L) (λ g seen. IsGlance-more S L g more seen) gs glances.each in
    record {
      counted = length-append gs (glance_at L ∷ []) ∙ ap (λ n. n + 1) glances.counted;
      each = All-push (IsGlance L) gs (glance_at L) each (record { list = L; prefix = whole-self L; is = refl });
      never_fall = NeverFall-push 0 gs (glance_at L) (omega arith)
          (All-weaker (IsGlance L) (λ (x : Glance). x.revision ≤ revision_at L) (λ g seen. revision-le L g seen) gs each) glances.never_fall;
    }

-- the last look
pub HasSeen-push : (S L : List Entry) (looks : ℕ) (gs : List Glance) → IsWholePrefix S L → AreGlances S looks gs → HasSeen L looks (gs ++ glance_at L ∷ [])
HasSeen-push S L looks gs more glances = record { are = AreGlances-push S L looks gs more glances; earlier = gs; last = refl }
