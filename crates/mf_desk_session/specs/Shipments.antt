-- What shipping a character answers.
use Rattle.std.specs.Prelude.{◌≡◌, ◌⊎◌, ◌<◌, [], ◌∷◌, ◌++◌, codes, decimal, length}
use Rattle.mf_gf.specs.Files.{Character, bytes_so_far}
use Rattle.mf_desk_session.specs.Refusals.{refusal_line}
use Rattle.mf_desk_session.specs.States.{Answer, Limits, State, answer_with}
use Rattle.mf_desk_session.specs.declared.refusal.Refusal.TheVariants.{FileTooLong}

-- the preamble and the shipped characters, with this one, would have more bytes than the font file may have
abbrev pub IsTooMuch : Limits → State → Character → Type 0
IsTooMuch limits s c = limits.max_bytes < length (bytes_so_far [] (s.characters ++ c ∷ []))

-- the character is not shipped, and why is printed
pub record IsOverlong (limits : Limits) (s : State) (c : Character) (a : Answer) : Type 0 where
  pub too_long : IsTooMuch limits s c
  pub is : a ≡ answer_with (refusal_line FileTooLong) s

-- the character is shipped, whether or not its code was shipped before, and its code is printed in brackets
pub record IsShipped (limits : Limits) (s : State) (c : Character) (a : Answer) : Type 0 where
  pub fits : IsTooMuch limits s c → ⊥
  pub is : a ≡ answer_with (codes "[" ++ decimal c.code ++ codes "]\n") (record s { characters = s.characters ++ c ∷ [] })

-- what shipping a character answers
abbrev pub Ships : Limits → State → Character → Answer → Type 0
Ships limits s c a = IsOverlong limits s c a ⊎ IsShipped limits s c a
