use Rattle.std.proofs.Common.{◌≡◌, List, [], sym, append-nil, ◌∙◌}
use Rattle.std.proofs.lemmas.Result.{MatchResult-from_err}
use Rattle.mf_rows_edges.specs.declared.edge.Edge.{Edge}
use Rattle.mf_rows_edges.specs.Sums.{HasMoreEdges}
use Rattle.mf_rows_strips.proofs.writer.push_row.Goals as goal

none_more : {before after : List Edge} → after ≡ before → HasMoreEdges before after
none_more same = record { more = []; all = same ∙ sym (append-nil _) }

pub returns-in_err-push-clause-kept : goal.returns-in_err-push-clause-kept
returns-in_err-push-clause-kept c =
    MatchResult-from_err _ _ _ c.from_residual.ensures.0 (λ _. none_more c.in_err-push.ensures.items)

pub returns-in_err-push-2-clause-kept : goal.returns-in_err-push-2-clause-kept
returns-in_err-push-2-clause-kept c =
    MatchResult-from_err _ _ _ c.from_residual-in_err-push-2.ensures.0
    (λ _. record { more = _; all = c.in_err-push-2.ensures.items ∙ c.in_ok-push.ensures.items })

pub returns-in_err-extend_from_slice-clause-kept :
    goal.returns-in_err-extend_from_slice-clause-kept
returns-in_err-extend_from_slice-clause-kept c =
    MatchResult-from_err _ _ _ c.from_residual-in_err-extend_from_slice.ensures.0 (λ _. none_more c.in_err-extend_from_slice.ensures.items)
