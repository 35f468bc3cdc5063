-- Heads stay true where edges are appended, and a new head appends a strip.
use Rattle.std.proofs.Common.{◌≡◌, ℕ, zero, suc, ℤ, get_or, ◌+◌, ◌≤◌, List, [], ◌∷◌, ◌++◌, length, take, drop, true, refl, sym, ap, ◌∙◌, length-append, length-drop, arith}
use Rattle.std.specs.Bool.{Decides}
use Rattle.std.specs.Cmp.Lexicographic.{pointwise}
use Rattle.std.proofs.lemmas.Bool.Decides.{Decides-and, Decides-int_eq, Decides-like}
use Rattle.std.proofs.lemmas.Int.{ints}
use Rattle.std.proofs.lemmas.List.{take-append-le, drop-append-le, map_push, take_all}
use Rattle.std.proofs.lemmas.List.Elements.{All-head, All-tail, All-weaker, All-push}
use Rattle.std.proofs.lemmas.Slice.Eq.{slice_eq-Decides}
use Rattle.std.proofs.Math.Seq.{drop-append_seam, take-append_seam}
use Rattle.mf_rows_edges.specs.contracts.edge.EdgePartialEq.TheImpl as edge_eq
use Rattle.mf_rows_edges.specs.declared.edge.Edge.{Edge}
use Rattle.mf_rows_strips.specs.declared.strips.Head.{Head}
use Rattle.mf_rows_strips.specs.Heads.{strip_at, strips_at, IsHead, AreHeads}
use Rattle.mf_rows_strips.specs.Strips.{EdgeStrip, last_row}

module _ (es fs : List Edge) where
  head_kept : (h : Head) → IsHead es h → IsHead (es ++ fs) h
  head_kept h head = record { there = omega (arith, head.there, length-append es fs) }

  pub heads_kept : (hs : List Head) → AreHeads es hs → AreHeads (es ++ fs) hs
  heads_kept hs heads = All-weaker (IsHead es) (IsHead (es ++ fs)) head_kept hs heads

  strip_kept : (h : Head) → IsHead es h → strip_at (es ++ fs) h ≡ strip_at es h
  strip_kept h head =
      ap (λ (gs : List Edge). record { top = h.top; edges = gs })
      (ap (take h.count) (drop-append-le h.start es fs (omega (arith, head.there)))
      ∙ take-append-le h.count (drop h.start es) fs (omega (arith, head.there, length-drop h.start es)))

  pub strips_kept : (hs : List Head) → AreHeads es hs → strips_at (es ++ fs) hs ≡ strips_at es hs
  strips_kept [] heads = refl
  strips_kept (h ∷ hs) heads = grind (arith, ints, strip_kept, All-head, All-tail, strips_kept hs (All-tail (IsHead es) h hs heads))

-- ---- a head is appended, whose edges are those that were appended

pub heads_more : (es fs ds : List Edge) → ds ≡ es ++ fs → (hs : List Head) → AreHeads es hs → AreHeads ds hs
heads_more es fs ds all hs heads = rw all (heads_kept es fs hs heads)

module _ (es fs ds : List Edge) (all : ds ≡ es ++ fs) (hs : List Head) (heads : AreHeads es hs) (h : Head) (top : ℤ) (tops : h.top ≡ top) (starts : h.start ≡ length es)
    (ends : h.start + h.count ≡ length ds) where
  pub heads_push : AreHeads ds (hs ++ h ∷ [])
  heads_push = All-push (IsHead ds) hs h (heads_more es fs ds all hs heads) (record { there = omega (arith, ends) })

  strip_pushed : strip_at ds h ≡ record { top = top; edges = fs }
  strip_pushed =
      let count : length fs ≤ h.count = omega (arith, starts, ends, length-append es fs, ap (λ (gs : List Edge). length gs) all) in
      let edges : take h.count (drop h.start ds) ≡ fs =
      ap (take h.count) (ap (λ n. drop n ds) starts ∙ ap (drop (length es)) all ∙ drop-append_seam es fs) ∙ take_all h.count fs count in
      λ i. record { top = tops i; edges = edges i }

  pub strips_push : strips_at ds (hs ++ h ∷ []) ≡ strips_at es hs ++ record { top = top; edges = fs } ∷ []
  strips_push = map_push (strip_at ds) hs h ∙ rw (ap (λ ds. strips_at ds hs) all, strips_kept es fs hs heads, strip_pushed) refl

-- ---- edges are appended, and taken back

module _ (es fs ds : List Edge) (all : ds ≡ es ++ fs) (hs : List Head) (heads : AreHeads es hs) (start : ℕ) (starts : start ≡ length es) where
  pub edges_back : take start ds ≡ es
  edges_back = ap (λ n. take n ds) starts ∙ ap (take (length es)) all ∙ take-append_seam es fs

  -- they are those of the last strip
  pub row_back : drop start ds ≡ last_row (strips_at ds hs) → fs ≡ last_row (strips_at es hs)
  row_back same =
      sym (drop-append_seam es fs) ∙ sym (ap (drop (length es)) all) ∙ sym (ap (λ n. drop n ds) starts) ∙ same
      ∙ ap last_row (ap (λ ts. strips_at ts hs) all ∙ strips_kept es fs hs heads)

-- the last head has the edges of the last strip
pub last_row_is : (es : List Edge) (hs : List Head) (n : ℕ) (h : Head) → length hs ≡ suc n → h ≡ get_or hs n h → (strip_at es h).edges ≡ last_row (strips_at es hs)
last_row_is es [] n h long last = absurd (omega arith)
last_row_is es (g ∷ []) zero h long last = ap (λ (h : Head). (strip_at es h).edges) last
last_row_is es (g ∷ []) (suc n) h long last = absurd (omega arith)
last_row_is es (g ∷ f ∷ hs) zero h long last = absurd (omega arith)
last_row_is es (g ∷ f ∷ hs) (suc n) h long last = last_row_is es (f ∷ hs) n h (omega arith) last

pub last_row-push : (ss : List EdgeStrip) (s : EdgeStrip) → last_row (ss ++ s ∷ []) ≡ s.edges
last_row-push [] s = refl
last_row-push (r ∷ []) s = refl
last_row-push (r ∷ t ∷ ss) s = last_row-push (t ∷ ss) s

-- ---- equal rows

-- edges compare as equal exactly where they are
edge_decides : (d e : Edge) → Decides ((edge_eq.eq-value).it d e) (d ≡ e)
edge_decides d e = grind (arith, ints, Decides-like, Decides-and, Decides-int_eq)

pub same_edges : (es fs : List Edge) → true ≡ pointwise (edge_eq.eq-value).it es fs → es ≡ fs
same_edges es fs equal = (slice_eq-Decides edge_decides es fs _ refl).0 (sym equal)
