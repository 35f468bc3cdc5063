use Rattle.std.proofs.Common.{◌≡◌, ◌++◌, drop, reverse}
use Rattle.mf_rows_strips.proofs.Mirrors.{opposite_heads}
use Rattle.mf_rows_strips.proofs.moves.mirrored_rows.Given as goal

-- the reversed heads so far follow those that are still to come
abbrev pub invariant-loop-head : goal.invariant-loop-head
invariant-loop-head l = opposite_heads l.start l.count (drop l.head-index l.head-items) ++ reverse l.heads.items ≡ opposite_heads 0 0 l.head-items
