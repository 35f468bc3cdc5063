-- Strips that are written, or passed, from the top down.
use Rattle.std.proofs.Common.{◌≡◌, ℤ, pos, ◌-ℤ◌, ◌≤ℤ◌, ◌<ℤ◌, List, [], ◌∷◌, ◌++◌, refl, ap, sym, append_assoc, append-nil, ◌∙◌, arith}
use Rattle.std.proofs.lemmas.Int.{ints}
use Rattle.std.proofs.lemmas.List.Elements.{All-nil, All-weaker, All-push}
use Rattle.mf_geom.specs.Coordinates.{least_coordinate, greatest_coordinate}
use Rattle.mf_rows_edges.specs.declared.edge.Edge.{Edge}
use Rattle.mf_rows_edges.specs.Edges.{weight_in, AreEdges}
use Rattle.mf_rows_edges.specs.LawfulWeights.{greatest_weight}
use Rattle.mf_rows_strips.specs.Strips.{EdgeStrip, last_row, row_in, weight_in_strips, IsStrip, AreStrips, AreStripsDownTo, AreStripsFrom, HaveStripWeights}
use Rattle.mf_rows_strips.proofs.StripsLemmas.{row_in-lowest, row_in-pushed, row_in-kept, strips_push, row_lawful, no_edges, blank_row}

-- the strips above a height are those above a lower one
pub strips_lower : (low reach : ℤ) (ss : List EdgeStrip) → AreStripsDownTo low reach ss → (next : ℤ) → next ≤ℤ low → AreStripsDownTo next reach ss
strips_lower low reach ss strips next le = record { strips = strips.strips; above = All-weaker (λ s. low <ℤ s.top) (λ s. next <ℤ s.top) (λ s lt. omega (arith, ints)) ss strips.above }

-- a strip is appended
pub strips_more : (reach : ℤ) (ss : List EdgeStrip) (s : EdgeStrip) → AreStripsDownTo s.top reach ss → s.top ≤ℤ greatest_coordinate → IsStrip reach s
    → AreStripsDownTo (s.top -ℤ pos 1) reach (ss ++ s ∷ [])
strips_more reach ss s strips high strip = record {
  strips = strips_push greatest_coordinate reach ss s strips.strips strips.above high strip;
  above = All-push (λ t. (s.top -ℤ pos 1) <ℤ t.top) ss s (strips_lower s.top reach ss strips (s.top -ℤ pos 1) (omega (arith, ints))).above (omega (arith, ints));
}

-- below all strips, the row is that of the last one, which is lawful
module _ (low reach : ℤ) (ss : List EdgeStrip) (strips : AreStripsDownTo low reach ss) where
  pub weight_below : (x y : ℤ) → y ≤ℤ low → weight_in_strips ss x y ≡ weight_in (last_row ss) x
  unfolding weight_in_strips
  weight_below x y below =
      ap (λ es. weight_in es x) (row_in-lowest ss y (All-weaker (λ s. low <ℤ s.top) (λ s. y <ℤ s.top) (λ s lt. omega (arith, ints)) ss strips.above))

  pub last_lawful : AreEdges (last_row ss)
  last_lawful = rw (← row_in-lowest ss low strips.above) (row_lawful greatest_coordinate reach [] ss low no_edges strips.strips)

-- ---- strips go on

-- strips have the weights of a row below height `top`, and above it those that they had
pub record GoOn (top reach : ℤ) (es : List Edge) (old new : List EdgeStrip) : Type 0 where
  pub strips : AreStripsDownTo (top -ℤ pos 1) reach new
  pub below : (x y : ℤ) → y <ℤ top → weight_in_strips new x y ≡ weight_in es x
  pub above : (x y : ℤ) → top ≤ℤ y → weight_in_strips new x y ≡ weight_in_strips old x y

module _ (low top reach : ℤ) (es : List Edge) (old : List EdgeStrip) (strips : AreStripsDownTo low reach old) (le : top ≤ℤ low) where
  -- a strip with these edges is appended
  pub go_on_with : top ≤ℤ greatest_coordinate → IsStrip reach (record { top = top; edges = es }) → GoOn top reach es old (old ++ record { top = top; edges = es } ∷ [])
  unfolding weight_in_strips
  go_on_with high strip =
      let s : EdgeStrip = record { top = top; edges = es } in
      let lower = strips_lower low reach old strips top le in
      record {
        strips = strips_more reach old s lower high strip;
        below = λ x y lt. ap (λ es. weight_in es x) (row_in-pushed [] old s y lower.above lt);
        above = λ x y ge. ap (λ es. weight_in es x) (row_in-kept [] old s y ge);
      }

  -- or the last strip has them
  pub go_on : es ≡ last_row old → GoOn top reach es old old
  go_on same = record {
    strips = strips_lower low reach old strips (top -ℤ pos 1) (omega (arith, ints));
    below = λ x y lt. weight_below low reach old strips x y (omega (arith, ints)) ∙ ap (λ es. weight_in es x) (sym same);
    above = λ x y ge. refl;
  }

-- ---- strips are passed

-- the strips of a list that begin above height `low` were passed, and the others are left
pub record ArePassed (low reach : ℤ) (ss passed left : List EdgeStrip) : Type 0 where
  pub whole : AreStrips reach ss
  pub all : ss ≡ passed ++ left
  pub high : low ≤ℤ greatest_coordinate
  pub above : AreStripsDownTo low reach passed
  pub below : AreStripsFrom low reach left

pub strips_none : (reach : ℤ) → AreStripsDownTo greatest_coordinate reach []
strips_none reach = record { strips = tt; above = All-nil (λ s. greatest_coordinate <ℤ s.top) }

pub none_passed : (reach : ℤ) (ss : List EdgeStrip) → AreStrips reach ss → ArePassed greatest_coordinate reach ss [] ss
none_passed reach ss strips = record { whole = strips; all = refl; high = omega (arith, ints); above = strips_none reach; below = strips.strips }

module _ {low reach : ℤ} {ss passed left : List EdgeStrip} {s : EdgeStrip} (so_far : ArePassed low reach ss passed (s ∷ left)) where
  high : s.top ≤ℤ greatest_coordinate
  high = omega (arith, ints, so_far.below.1, so_far.high)

  pub passes : GoOn s.top reach s.edges passed (passed ++ s ∷ [])
  passes = go_on_with low s.top reach s.edges passed so_far.above so_far.below.1 high so_far.below.0

  pub one_passed : ArePassed (s.top -ℤ pos 1) reach ss (passed ++ s ∷ []) left
  one_passed = let goes = passes.strips in grind (arith, ints, append_assoc)

pub all_passed : {low reach : ℤ} {ss passed left : List EdgeStrip} → ArePassed low reach ss passed left → left ≡ [] → passed ≡ ss
all_passed {passed = passed} so_far none = sym (so_far.all ∙ ap (λ left. passed ++ left) none ∙ append-nil passed)

-- strips without weights below the field
pub strips_closed : (reach : ℤ) (f : ℤ → ℤ → ℤ) (low : ℤ) (out : List EdgeStrip) → AreStripsDownTo low reach out → HaveStripWeights f out
    → ((x : ℤ) → f x (least_coordinate -ℤ pos 1) ≡ pos 0) → pos 0 ≤ℤ reach → reach ≤ℤ greatest_weight → AreStrips reach out
unfolding weight_in_strips
strips_closed reach f low out written weights blank least most =
    let y = least_coordinate -ℤ pos 1 in
    let row = row_lawful greatest_coordinate reach [] out y no_edges written.strips in
    let closed = blank_row least_coordinate (row_in [] out y) row.sorted (λ x. weights.weights x y ∙ blank x) in
    grind (arith, ints)
