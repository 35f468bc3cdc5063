-- The weights of piles.
use Rattle.std.specs.Prelude.{ℤ, ◌+ℤ◌}
use Rattle.mf_rows_strips.specs.declared.pile.Pile.{Pile}
use Rattle.mf_rows_strips.specs.declared.part.Part.{Part}
use Rattle.mf_rows_strips.specs.Parts.{weight_in_part, weight_in_parts}

-- the weight of the pixel (x, y) in a pile
abbrev pub weight_in_pile : Pile → ℤ → ℤ → ℤ
weight_in_pile p = weight_in_parts p.parts.items

-- the weight of the pixel (x, y) in a pile and a part together
unfoldable pub weight_with_part : Pile → Part → ℤ → ℤ → ℤ
weight_with_part p q x y = weight_in_pile p x y +ℤ weight_in_part q x y
