-- Outside the field strips have weight 0.
use Rattle.std.proofs.Common.{◌≡◌, ℤ, pos, ◌-ℤ◌, ◌<ℤ◌, List, [], ◌∷◌, refl, arith}
use Rattle.std.proofs.lemmas.Int.{ints, by_lt_z}
use Rattle.mf_geom.specs.Coordinates.{least_coordinate, greatest_coordinate, last_in_field}
use Rattle.mf_geom.specs.Field.{IsInField}
use Rattle.mf_rows_edges.specs.declared.edge.Edge.{Edge}
use Rattle.mf_rows_edges.proofs.EdgesLemmas.{weight_in-outside}
use Rattle.mf_rows_strips.specs.Strips.{EdgeStrip, AreStrips, AreStripsFrom, row_in, weight_in_strips}
use Rattle.mf_rows_strips.proofs.StripsLemmas.{no_edges, no_weight, row_in-below, row_in-from, row_lawful, starts_from}

rows_below_field : (top reach : ℤ) (above : List Edge) (ss : List EdgeStrip) (y z : ℤ) → AreStripsFrom top reach ss → y <ℤ least_coordinate → z <ℤ least_coordinate
    → row_in above ss y ≡ row_in above ss z
unfolding row_in
rows_below_field top reach above [] y z strips low_y low_z = refl
rows_below_field top reach above (s ∷ ss) y z strips low_y low_z =
    grind (arith, ints, row_in-below, rows_below_field (s.top -ℤ pos 1) reach s.edges ss y z strips.2 low_y low_z)

pub strips_outside : (reach : ℤ) (ss : List EdgeStrip) (x y : ℤ) → AreStrips reach ss → (IsInField x y → ⊥) → weight_in_strips ss x y ≡ pos 0
unfolding weight_in_strips
strips_outside reach ss x y strips outside =
    by_lt_z last_in_field y (λ gt. grind (arith, ints, row_in-from, starts_from greatest_coordinate reach ss y strips.strips (omega (arith, ints)), no_weight))
    (λ le. by_lt_z y least_coordinate
    (λ lt. grind (arith, ints, rows_below_field greatest_coordinate reach [] ss y (least_coordinate -ℤ pos 1) strips.strips lt (omega (arith, ints)), no_weight))
    (λ ge. weight_in-outside (row_in [] ss y) x (row_lawful greatest_coordinate reach [] ss y no_edges strips.strips) (λ left right. outside (grind (arith, ints)))))

-- either a pixel lies in the field, or it does not
pub by_field : {P : Type 0} (x y : ℤ) → (IsInField x y → P) → ((IsInField x y → ⊥) → P) → P
by_field x y inside outside = grind (arith, ints, by_lt_z)
