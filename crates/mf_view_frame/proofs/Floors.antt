-- Quotients that are rounded down: which cell a pixel is in.
use Rattle.std.proofs.Common.{ℤ, pos, negsuc, ◌+ℤ◌, ◌*ℤ◌, ◌≤ℤ◌, ◌<ℤ◌, arith}
use Rattle.std.proofs.lemmas.Int.{ints, by_lt_z}
use Rattle.mf_geom.specs.Coordinates.{least_coordinate, greatest_coordinate, last_in_field}
use Rattle.mf_geom.specs.Field.{IsColumnOrRow}
use Rattle.mf_rows_edges.proofs.Sources.{mul-le, mul-next, quotient-within}
use Rattle.mf_view_frame.specs.Cells.{cell_of}
use Rattle.mf_view_frame.specs.Windows.{line_of}

-- a pixel is at or after the first pixel of its cell, and before that of the next
pub cell-within : (s p : ℤ) → pos 1 ≤ℤ s → ((cell_of s p *ℤ s) ≤ℤ p) × (p <ℤ ((cell_of s p *ℤ s) +ℤ s))
unfolding cell_of
cell-within s p positive = quotient-within p s positive

-- the cell of a pixel that is at or after the first pixel of a cell is that cell or a later one
pub cell-from : (s c p : ℤ) → pos 1 ≤ℤ s → (c *ℤ s) ≤ℤ p → c ≤ℤ cell_of s p
cell-from s c p positive le =
    by_lt_z (cell_of s p) c
    (λ lt.
    grind (arith, ints, cell-within s p positive, mul-le (cell_of s p +ℤ pos 1) c s (omega (arith, ints)) (omega (arith, ints)), mul-next (cell_of s p) s))
    (λ ge. ge)

-- the cell of a pixel before the first pixel of the next cell is that cell or an earlier one
pub cell-to : (s c p : ℤ) → pos 1 ≤ℤ s → p <ℤ ((c *ℤ s) +ℤ s) → cell_of s p ≤ℤ c
cell-to s c p positive lt =
    by_lt_z c (cell_of s p)
    (λ after. grind (arith, ints, cell-within s p positive, mul-le (c +ℤ pos 1) (cell_of s p) s (omega (arith, ints)) (omega (arith, ints)), mul-next c s))
    (λ ge. ge)

-- cells are in the order of their pixels
pub cell-le : (s p q : ℤ) → pos 1 ≤ℤ s → p ≤ℤ q → cell_of s p ≤ℤ cell_of s q
cell-le s p q positive le = let within = cell-within s p positive in cell-from s (cell_of s p) q positive (omega (arith, ints))

-- the next pixel is in the same cell or the next
pub cell-next : (s p : ℤ) → pos 1 ≤ℤ s → cell_of s (p +ℤ pos 1) ≤ℤ (cell_of s p +ℤ pos 1)
cell-next s p positive = let within = cell-within s p positive in grind (arith, ints, mul-next, cell-to)

-- a cell is no further from the axis than its pixels
pub cell_in_field : (s p : ℤ) → pos 1 ≤ℤ s → least_coordinate ≤ℤ p → p ≤ℤ last_in_field → IsColumnOrRow (cell_of s p)
cell_in_field s p positive least greatest = record {
  least = cell-from s least_coordinate p positive (omega (arith, ints));
  greatest = cell-to s last_in_field p positive (omega (arith, ints));
}

-- at the greatest scale the field is two cells wide
pub cell_at_greatest : (p : ℤ) → least_coordinate ≤ℤ p → p ≤ℤ last_in_field
    → (negsuc 0 ≤ℤ cell_of greatest_coordinate p) × (cell_of greatest_coordinate p ≤ℤ pos 0)
cell_at_greatest p least greatest = (
  cell-from greatest_coordinate (negsuc 0) p (omega (arith, ints)) (omega (arith, ints)),
  cell-to greatest_coordinate (pos 0) p (omega (arith, ints)) (omega (arith, ints)),
)

-- line k shows the rows 2 * k and 2 * k + 1
pub line-within : (j : ℤ) → ((pos 2 *ℤ line_of j) ≤ℤ j) × (j <ℤ ((pos 2 *ℤ line_of j) +ℤ pos 2))
unfolding line_of
line-within j = let within = quotient-within j (pos 2) (omega (arith, ints)) in (omega (arith, ints, within.0), omega (arith, ints, within.1))

-- lines are in the order of their rows
pub line-le : (i j : ℤ) → i ≤ℤ j → line_of i ≤ℤ line_of j
line-le i j le = let first = line-within i in let last = line-within j in omega (arith, ints, first.0, last.1)
