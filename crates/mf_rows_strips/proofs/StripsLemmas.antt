-- The rows of strips.
use Rattle.std.proofs.Common.{◌≡◌, ℤ, pos, ◌-ℤ◌, ◌≤ℤ◌, ◌<ℤ◌, List, [], ◌∷◌, ◌++◌, refl, arith}
use Rattle.std.specs.Int.RustNames.{int_lt}
use Rattle.std.proofs.lemmas.Bool.{cond_both, cond-true, cond-false}
use Rattle.std.proofs.lemmas.Int.{ints, by_lt_z}
use Rattle.std.proofs.lemmas.List.Elements.{All-head, All-tail}
use Rattle.mf_rows_edges.specs.declared.edge.Edge.{Edge}
use Rattle.mf_rows_edges.specs.Edges.{weight_in, AreEdges, AreEdgesFrom}
use Rattle.mf_rows_edges.specs.LawfulWeights.{greatest_weight}
use Rattle.mf_rows_edges.specs.Reaches.{StaysInReach}
use Rattle.mf_rows_edges.proofs.EdgesLemmas.{weight_in-left, weight_in-before}
use Rattle.mf_rows_edges.proofs.ReachesLemmas.{wider_reach}
use Rattle.mf_rows_strips.specs.Strips.{EdgeStrip, last_row, row_in, IsStrip, AreStripsFrom, AreAbove}
use Rattle.mf_rows_strips.specs.Sums.{IsFrom}

-- ---- rows

-- where no strip begins above a row, it is the row above all of them
pub row_in-from : (above : List Edge) (ss : List EdgeStrip) (y : ℤ) → IsFrom ss y → row_in above ss y ≡ above
unfolding row_in
row_in-from above [] y from = refl
row_in-from above (s ∷ ss) y from = grind (arith, ints, cond-false)

pub starts_from : (top reach : ℤ) (ss : List EdgeStrip) (y : ℤ) → AreStripsFrom top reach ss → top ≤ℤ y → IsFrom ss y
starts_from top reach [] y strips le = tt
starts_from top reach (s ∷ ss) y strips le = let start : s.top ≤ℤ top = strips.1 in omega (arith, ints)

pub row_in-below : (above : List Edge) (s : EdgeStrip) (ss : List EdgeStrip) (y : ℤ) → y <ℤ s.top → row_in above (s ∷ ss) y ≡ row_in s.edges ss y
unfolding row_in
row_in-below above s ss y below = grind (arith, ints, cond-true)

-- a strip that is appended has the rows below its top
pub row_in-pushed : (above : List Edge) (ss : List EdgeStrip) (s : EdgeStrip) (y : ℤ) → AreAbove s.top ss → y <ℤ s.top → row_in above (ss ++ s ∷ []) y ≡ s.edges
unfolding row_in
row_in-pushed above [] s y lower below = grind (arith, ints, cond-true)
row_in-pushed above (t ∷ ts) s y lower below =
    grind (arith, ints, cond-true, All-head, row_in-pushed t.edges ts s y (All-tail (λ t. s.top <ℤ t.top) t ts lower) below)

-- strips that begin at a row or below it do not change the row
pub row_in-front : (above : List Edge) (ss ts : List EdgeStrip) (y : ℤ) → IsFrom ts y → row_in above (ss ++ ts) y ≡ row_in above ss y
unfolding row_in
row_in-front above [] ts y from = row_in-from above ts y from
row_in-front above (s ∷ ss) ts y from = grind (arith, ints, cond-true, cond-false, by_lt_z, row_in-front s.edges ss ts y from)

-- as one that is appended
pub row_in-kept : (above : List Edge) (ss : List EdgeStrip) (s : EdgeStrip) (y : ℤ) → s.top ≤ℤ y → row_in above (ss ++ s ∷ []) y ≡ row_in above ss y
row_in-kept above ss s y from = row_in-front above ss (s ∷ []) y from

-- below all strips, the row is that of the last one
pub row_in-lowest : (ss : List EdgeStrip) (y : ℤ) → AreAbove y ss → row_in [] ss y ≡ last_row ss
unfolding row_in
row_in-lowest [] y higher = refl
row_in-lowest (s ∷ []) y higher = grind (arith, ints, cond-true, All-head)
row_in-lowest (s ∷ t ∷ ss) y higher =
    let others = All-tail (λ s. y <ℤ s.top) s (t ∷ ss) higher in
    grind (arith, ints, cond-true, All-head (λ s. y <ℤ s.top) s (t ∷ ss) higher, All-head (λ s. y <ℤ s.top) t ss others, row_in-lowest (t ∷ ss) y others)

-- ---- lawful strips

pub strips_push : (top reach : ℤ) (ss : List EdgeStrip) (s : EdgeStrip) → AreStripsFrom top reach ss → AreAbove s.top ss → s.top ≤ℤ top → IsStrip reach s
    → AreStripsFrom top reach (ss ++ s ∷ [])
strips_push top reach [] s strips lower le strip = (strip, le, tt)
strips_push top reach (t ∷ ts) s strips lower le strip =
    grind (arith, ints, All-head, strips_push (t.top -ℤ pos 1) reach ts s strips.2 (All-tail (λ t. s.top <ℤ t.top) t ts lower))

pub wider_strip : (reach next : ℤ) (s : EdgeStrip) → reach ≤ℤ next → next ≤ℤ greatest_weight → IsStrip reach s → IsStrip next s
wider_strip reach next s le most strip = grind (arith, ints, wider_reach)

pub wider_strips : (top reach next : ℤ) (ss : List EdgeStrip) → reach ≤ℤ next → next ≤ℤ greatest_weight → AreStripsFrom top reach ss → AreStripsFrom top next ss
wider_strips top reach next [] le most strips = tt
wider_strips top reach next (s ∷ ss) le most strips =
    (wider_strip reach next s le most strips.0, strips.1, wider_strips (s.top -ℤ pos 1) reach next ss le most strips.2)

-- each row of strips is that of a strip, or the one above
row_in-all : (P : List Edge → Type 0) (top reach : ℤ) (above : List Edge) (ss : List EdgeStrip) (y : ℤ) → P above
    → ((s : EdgeStrip) → IsStrip reach s → P s.edges) → AreStripsFrom top reach ss → P (row_in above ss y)
unfolding row_in
row_in-all P top reach above [] y first each strips = first
row_in-all P top reach above (s ∷ ss) y first each strips =
    cond_both (int_lt y s.top) (row_in s.edges ss y) above P (λ _. row_in-all P (s.top -ℤ pos 1) reach s.edges ss y (each s strips.0) each strips.2) (λ _. first)

pub row_lawful : (top reach : ℤ) (above : List Edge) (ss : List EdgeStrip) (y : ℤ) → AreEdges above → AreStripsFrom top reach ss → AreEdges (row_in above ss y)
row_lawful top reach above ss y edges = row_in-all AreEdges top reach above ss y edges (λ s strip. strip.edges)

pub row_reached : (top reach : ℤ) (above : List Edge) (ss : List EdgeStrip) (y : ℤ) → StaysInReach reach above → AreStripsFrom top reach ss
    → StaysInReach reach (row_in above ss y)
row_reached top reach above ss y reached = row_in-all (StaysInReach reach) top reach above ss y reached (λ s strip. strip.reached)

-- ---- blank rows

pub no_weight : (x : ℤ) → weight_in [] x ≡ pos 0
unfolding weight_in
no_weight x = refl

pub no_edges : AreEdges []
no_edges = grind (arith, ints, no_weight)

pub none_reached : (reach : ℤ) → pos 0 ≤ℤ reach → reach ≤ℤ greatest_weight → StaysInReach reach []
none_reached reach least most = record { most = most; within = λ x. rw (no_weight x) (record { least = omega (arith, ints); greatest = omega (arith, ints) }) }

-- where all weights of a row are 0, it has no edges
pub blank_row : (low : ℤ) (es : List Edge) → AreEdgesFrom low es → ((x : ℤ) → weight_in es x ≡ pos 0) → es ≡ []
blank_row low [] sorted blank = refl
blank_row low (e ∷ es) sorted blank = grind (arith, ints, blank e.x, weight_in-left, weight_in-before)
