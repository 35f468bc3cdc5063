use Rattle.std.proofs.Common.{◌≡◌, eqb, drop}
use Rattle.std.specs.List.{starts_with}
use Rattle.mf_text.proofs.tokens.front.begins_with.Given as goal

abbrev pub invariant-loop-place : goal.invariant-loop-place
invariant-loop-place l = starts_with eqb l.text l.written ≡ starts_with eqb (drop l.place l.text) (drop l.place l.written)
