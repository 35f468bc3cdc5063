use Rattle.std.proofs.Common.{◌≡◌, ◌++◌, List, ℕ, take}
use Rattle.std.specs.List.{flat_map}
use Rattle.mf_gf.specs.Files.{locator_if}
use Rattle.mf_gf.specs.Spellings.{Holds}
use Rattle.mf_gf.proofs.locators.Locators.spell.Given as goal

abbrev pub invariant-loop-last : goal.invariant-loop-last
invariant-loop-last l = record {
  held : (text : List ℕ) → Holds l.fn.out text → Holds l.out (text ++ flat_map locator_if (take l.last-index l.self.by_code.items));
  room : l.out.room ≡ l.fn.out.room;
}
