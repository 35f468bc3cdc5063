-- The name of the refusal of a canvas, as it appears in texts.
use Rattle.std.specs.Prelude.{ℕ, List, codes}

-- the name of the refusal of a canvas that is too small
abbrev pub too_small_text : List ℕ
too_small_text = codes "TooSmall"
