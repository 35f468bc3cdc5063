-- The row at a height, found among heads whose tops fall.
use Rattle.std.proofs.Common.{◌≡◌, ℕ, zero, suc, ◌<◌, ℤ, pos, ◌-ℤ◌, ◌≤ℤ◌, ◌<ℤ◌, Bool, true, int_lt, List, [], ◌∷◌, ◌++◌}
use Rattle.std.proofs.Common.{unwrap_or, length, take, drop, get_or, sym, ap, subst, ◌∙◌, arith}
use Rattle.std.specs.List.{All}
use Rattle.std.specs.List.Sorted.{IsPartitionedBy}
use Rattle.std.proofs.lemmas.Int.{ints}
use Rattle.std.proofs.lemmas.List.{take-map}
use Rattle.std.proofs.lemmas.List.Elements.{All-nil, All-cons, All-map, All-weaker}
use Rattle.mf_geom.specs.Coordinates.{least_coordinate, greatest_coordinate}
use Rattle.mf_geom.specs.Field.{IsColumnOrRow}
use Rattle.mf_rows_edges.specs.declared.edge.Edge.{Edge}
use Rattle.mf_rows_edges.specs.Edges.{weight_in}
use Rattle.mf_rows_edges.proofs.Falls.{Falls, IsPartitionedBy-falls}
use Rattle.mf_rows_strips.specs.declared.strips.Head.{Head}
use Rattle.mf_rows_strips.specs.Heads.{strip_at, strips_at}
use Rattle.mf_rows_strips.specs.Parts.{first_top}
use Rattle.mf_rows_strips.specs.RowEdges.{AreSameRows}
use Rattle.mf_rows_strips.specs.Strips.{EdgeStrip, AreStripsFrom, AreStrips, AreAbove, last_row, row_in, weight_in_strips}
use Rattle.mf_rows_strips.specs.Sums.{IsFrom}
use Rattle.mf_rows_strips.proofs.StripsLemmas.{row_in-front, row_in-lowest}

-- ---- the tops fall

heads_below : (top reach : ℤ) (es : List Edge) (hs : List Head) (up : ℤ) → top <ℤ up → AreStripsFrom top reach (strips_at es hs) → All (λ h. h.top <ℤ up) hs
heads_below top reach es [] up lt strips = All-nil (λ h. h.top <ℤ up)
heads_below top reach es (h ∷ hs) up lt strips =
    All-cons (λ h. h.top <ℤ up) h hs (omega (arith, ints, strips.1)) (heads_below (h.top -ℤ pos 1) reach es hs up (omega (arith, ints, strips.1)) strips.2)

tops_fall : (top reach : ℤ) (es : List Edge) (hs : List Head) → AreStripsFrom top reach (strips_at es hs) → Falls (λ h. h.top) hs
tops_fall top reach es [] strips = tt
tops_fall top reach es (h ∷ hs) strips =
    (heads_below (h.top -ℤ pos 1) reach es hs h.top (omega (arith, ints)) strips.2, tops_fall (h.top -ℤ pos 1) reach es hs strips.2)

-- whether the strip of a head begins above row y
abbrev pub begins_above : ℤ → Head → Bool
begins_above y h = int_lt y h.top

pub IsPartitionedBy-begins_above : (y reach : ℤ) (es : List Edge) (hs : List Head) → AreStrips reach (strips_at es hs) → IsPartitionedBy (begins_above y) hs
IsPartitionedBy-begins_above y reach es hs strips =
    IsPartitionedBy-falls (λ h. h.top) (begins_above y) (λ a b le above. grind (arith, ints)) hs (tops_fall greatest_coordinate reach es hs strips.strips)

-- the first n strips begin above row y where their heads do
pub first_above : (y : ℤ) (es : List Edge) (hs : List Head) (n : ℕ) → All (λ h. begins_above y h ≡ true) (take n hs) → AreAbove y (take n (strips_at es hs))
first_above y es hs n heads =
    rw take-map (All-map (λ s. y <ℤ s.top) (strip_at es) (take n hs)
    (All-weaker (λ h. begins_above y h ≡ true) (λ h. y <ℤ h.top) (λ h above. grind (arith, ints)) (take n hs) heads))

-- ---- the rows up to the strips below

-- the height at which strips begin, the end of the field where there are none
pub record IsBottom (ss : List EdgeStrip) (bottom : ℤ) : Type 0 where
  pub low : least_coordinate ≤ℤ bottom
  pub high : bottom ≤ℤ greatest_coordinate
  pub from : (y : ℤ) → bottom ≤ℤ y → IsFrom ss y
  pub among : (y : ℤ) → least_coordinate ≤ℤ y → IsFrom ss y → bottom ≤ℤ y

first_bottom : (top reach : ℤ) (ss : List EdgeStrip) → top ≤ℤ greatest_coordinate → AreStripsFrom top reach ss → IsBottom ss (unwrap_or (first_top ss) least_coordinate)
first_bottom top reach [] le strips = record { low = omega (arith, ints); high = omega (arith, ints); from = λ y _. tt; among = λ y le _. le }
first_bottom top reach (s ∷ ss) le strips =
    record { low = strips.0.bottom; high = omega (arith, ints, strips.1); from = λ y le. le; among = λ y _ from. from }

back_bottom : (top reach : ℤ) (fs ss : List EdgeStrip) → top ≤ℤ greatest_coordinate → AreStripsFrom top reach (fs ++ ss)
    → IsBottom ss (unwrap_or (first_top ss) least_coordinate)
back_bottom top reach [] ss le strips = first_bottom top reach ss le strips
back_bottom top reach (f ∷ fs) ss le strips = back_bottom (f.top -ℤ pos 1) reach fs ss (omega (arith, ints, strips.1)) strips.2

-- where no head from place n on begins above row y
pub from_others : (y : ℤ) (es : List Edge) (n : ℕ) (hs : List Head) → ((d : Head) → n < length hs → (get_or hs n d).top ≤ℤ y) → IsFrom (drop n (strips_at es hs)) y
from_others y es zero [] from = tt
from_others y es zero (h ∷ hs) from = from h (omega arith)
from_others y es (suc n) [] from = tt
from_others y es (suc n) (h ∷ hs) from = from_others y es n hs (λ d lt. from d (omega arith))

-- strips that are split at row y: those that begin above it, and the others, which begin at height `bottom`
pub record AreSplitAt (y reach bottom : ℤ) (ss fs gs : List EdgeStrip) : Type 0 where
  pub all : ss ≡ fs ++ gs
  pub strips : AreStrips reach ss
  pub above : AreAbove y fs
  pub from : IsFrom gs y
  pub ends : bottom ≡ unwrap_or (first_top gs) least_coordinate

module _ {y reach bottom : ℤ} {ss fs gs : List EdgeStrip} (split : AreSplitAt y reach bottom ss fs gs) where
  lowest : IsBottom gs bottom
  lowest =
      let lawful = subst (AreStripsFrom greatest_coordinate reach) split.all split.strips.strips in
      subst (IsBottom gs) (sym split.ends) (back_bottom greatest_coordinate reach fs gs (omega (arith, ints)) lawful)

  found_at : (v : ℤ) → v ≤ℤ y → IsFrom gs v → row_in [] ss v ≡ last_row fs
  found_at v le from_v =
      ap (λ ss. row_in [] ss v) split.all ∙ row_in-front [] fs gs v from_v
      ∙ row_in-lowest fs v (All-weaker (λ s. y <ℤ s.top) (λ s. v <ℤ s.top) (λ s lt. omega (arith, ints)) fs split.above)

  pub found_row : last_row fs ≡ row_in [] ss y
  found_row = sym (found_at y (omega (arith, ints)) split.from)

  pub found_rows : IsColumnOrRow y → AreSameRows (weight_in_strips ss) bottom y
  unfolding weight_in_strips
  found_rows in_field = record {
    low = lowest.low;
    order = lowest.among y in_field.least split.from;
    same = λ x v low le. ap (λ es. weight_in es x) (found_at v le (lowest.from v low) ∙ found_row);
  }
