use Rattle.std.proofs.Common.{refl, inr, ◌∙◌}
use Rattle.mf_rows_strips.proofs.HeadsLemmas.{same_edges}
use Rattle.mf_rows_strips.proofs.corner.push_unless_same.Goals as goal

pub returns-then-eq : goal.returns-then-eq
returns-then-eq c = inr (same_edges c.args.row.now c.last_row.result.now c.if-eq.ensures ∙ c.last_row.ensures, refl)
