-- The name of the refusal for a failed allocation, as texts show it.
use Rattle.std.specs.Prelude.{ℕ, List, codes}

-- the name of the refusal for a failed allocation
abbrev pub memory_text : List ℕ
memory_text = codes "OutOfMemory"
