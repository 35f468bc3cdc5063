-- The weights of a pile, part by part.
use Rattle.std.proofs.Common.{◌≡◌, ℕ, ◌<◌, ◌+◌, ℤ, ◌+ℤ◌, List, [], ◌∷◌, ◌++◌, take, get_or, length, ap, ◌∙◌, arith}
use Rattle.std.specs.Arc.{arc_value}
use Rattle.std.specs.declared.alloc.Global.{Global}
use Rattle.std.specs.declared.sync.Arc.{Arc}
use Rattle.std.specs.Int.{int_max}
use Rattle.std.proofs.lemmas.Int.{ints, clamps}
use Rattle.std.proofs.lemmas.List.{take_more}
use Rattle.mf_rows_strips.specs.declared.part.Part.{Part}
use Rattle.mf_rows_strips.specs.Parts.{weight_in_part, weight_in_parts}
use Rattle.mf_rows_strips.specs.RowEdges.{AreSameRows}

-- ---- the weight of a pixel

-- that of the part at the end is added
pub weight_pushed : (ps : List (Arc Part Global)) (p : Arc Part Global) (x y : ℤ)
    → weight_in_parts (ps ++ p ∷ []) x y ≡ weight_in_parts ps x y +ℤ weight_in_part (arc_value p) x y
unfolding weight_in_parts
weight_pushed [] p x y = omega (arith, ints)
weight_pushed (q ∷ ps) p x y = omega (arith, ints, weight_pushed ps p x y)

pub weight_in_parts-more : (ps : List (Arc Part Global)) (i : ℕ) (d : Arc Part Global) → i < length ps → (x y : ℤ)
    → weight_in_parts (take (i + 1) ps) x y ≡ weight_in_parts (take i ps) x y +ℤ weight_in_part (arc_value (get_or ps i d)) x y
weight_in_parts-more ps i d lt x y = ap (λ ps. weight_in_parts ps x y) (take_more ps i d lt) ∙ weight_pushed (take i ps) (get_or ps i d) x y

-- ---- rows

-- the sum of two weights whose rows are equal down to row `bottom` and to row `other`
pub both_same : {f g h : ℤ → ℤ → ℤ} {bottom other y : ℤ} → ((x v : ℤ) → h x v ≡ f x v +ℤ g x v) → AreSameRows f bottom y → AreSameRows g other y
    → (next : ℤ) → next ≡ int_max bottom other → AreSameRows h next y
both_same {y = y} both first second next is = record {
  low = omega (arith, ints, clamps, first.low);
  order = omega (arith, ints, clamps, first.order, second.order);
  same = λ x v low high. omega (arith, ints, both x v, both x y, first.same x v (omega (arith, ints, clamps)) high, second.same x v (omega (arith, ints, clamps)) high);
}
