-- What a spelling represents.
use Rattle.std.specs.Prelude.{◌≡◌, ◌<◌, ◌≤◌, ℕ, false, List, ◌++◌, length}
use Rattle.mf_gf.specs.declared.spelling.Spelling.{Spelling}

-- these bytes were written: their number is exact where there is room for them, and they are all there where there was also
-- memory
pub record Holds (s : Spelling) (text : List ℕ) : Type 0 where
  pub counted : length text ≤ s.room → s.length ≡ length text
  pub beyond : s.room < length text → s.room < s.length
  pub kept : s.is_out_of_memory ≡ false → length text ≤ s.room → s.bytes.items ≡ text

-- some bytes were written
abbrev pub IsSpelling : Spelling → Type 0
IsSpelling s = (text : List ℕ) × Holds s text

-- among the bytes that were written, these are from `start` up to `end`, which are exact where there is room for them
pub record HasPart (s : Spelling) (start end : ℕ) (before part after : List ℕ) : Type 0 where
  pub held : Holds s (before ++ part ++ after)
  pub from : length before ≤ s.room → start ≡ length before
  pub to : length (before ++ part) ≤ s.room → end ≡ length (before ++ part)

-- there are bytes from `start` up to `end`
abbrev pub IsPart : Spelling → ℕ → ℕ → Type 0
IsPart s start end = (before : List ℕ) × (part : List ℕ) × (after : List ℕ) × HasPart s start end before part after
