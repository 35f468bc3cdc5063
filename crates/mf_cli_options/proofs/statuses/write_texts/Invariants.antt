use Rattle.std.proofs.Common.{◌≡◌, ◌++◌, ℕ, List, drop, flat_map}
use Rattle.std.specs.Io.KnownBytes.{Appends}
use Rattle.mf_cli_options.proofs.statuses.write_texts.Given as goal

-- a prefix of all texts, before those that are left, is written
abbrev pub invariant-loop-text : goal.invariant-loop-text
invariant-loop-text g l =
    (front : List ℕ) × (flat_map (λ text. text.now) l.texts ≡ front ++ flat_map (λ text. text.now) (drop l.text-index l.texts))
    × Appends (g.E.Write.contents l.initial.errors) (g.E.Write.contents l.errors) front
