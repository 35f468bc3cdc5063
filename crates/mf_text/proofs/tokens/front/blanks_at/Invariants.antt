use Rattle.std.proofs.Common.{◌≡◌, ℕ, ◌+◌, drop}
use Rattle.mf_text.specs.Tokens.{tokens_from}
use Rattle.mf_text.proofs.tokens.front.blanks_at.Given as goal

abbrev pub invariant-loop-place : goal.invariant-loop-place
invariant-loop-place l = (column : ℕ) → tokens_from (column + l.place) (drop l.place l.text) ≡ tokens_from column l.text
