-- The lines of a script of which only a prefix has been read.
use Rattle.std.specs.Prelude.{ℕ, List, [], ◌∷◌, ◌==◌}
use Rattle.std.specs.List.{slice_split}
use Rattle.std.specs.Str.Lines.{strip_carriage_return}

-- of the parts between line feeds, those before a line feed, as lines
unfoldable pub ended_of_parts : List (List ℕ) → List (List ℕ)
ended_of_parts [] = []
ended_of_parts (x ∷ []) = []
ended_of_parts (x ∷ y ∷ more) = strip_carriage_return x ∷ ended_of_parts (y ∷ more)

-- of the parts between line feeds, the last one
unfoldable pub last_part : List (List ℕ) → List ℕ
last_part [] = []
last_part (x ∷ []) = x
last_part (x ∷ y ∷ more) = last_part (y ∷ more)

-- the lines that a line feed ended
unfoldable pub ended_lines : List ℕ → List (List ℕ)
ended_lines bytes = ended_of_parts (slice_split (λ b. b == 10) bytes)

-- the bytes after the last line feed
unfoldable pub unended_line : List ℕ → List ℕ
unended_line bytes = last_part (slice_split (λ b. b == 10) bytes)
