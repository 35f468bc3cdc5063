-- Prefixes of lists that cut no publish in two.
use Rattle.std.specs.Prelude.{◌≡◌, ◌≢◌, ◌==◌, ◌⊎◌, ◌<◌, ◌-◌, ℕ, List, [], ◌++◌, map, length, get_or, nat_lt, if◌then◌else◌}
use Rattle.std.specs.List.{filter}
use Rattle.mf_live.specs.Entries.{Entry}

-- the labels of a list, in order
abbrev pub labels : List Entry → List ℕ
labels L = map (λ (e : Entry). e.label) L

-- a list is cut between two publishes after n of these labels: at one of its ends, or where the labels before and after differ
abbrev pub IsCutAmong : List ℕ → ℕ → Type 0
IsCutAmong ns n = (n ≡ 0) ⊎ ((n ≡ length ns) ⊎ ((0 < n) × (n < length ns) × (get_or ns (n - 1) 0 ≢ get_or ns n 0)))

-- no publish has entries both among the first n and after them
abbrev pub IsCut : List Entry → ℕ → Type 0
IsCut L n = IsCutAmong (labels L) n

-- S is a prefix of L, and no publish of L is cut at its end
pub record IsWholePrefix (S L : List Entry) : Type 0 where
  pub rest : List Entry
  pub whole : L ≡ S ++ rest
  pub cut : IsCut L (length S)

-- the longer of two lists
abbrev pub longer : List Entry → List Entry → List Entry
longer a b = if nat_lt (length a) (length b) then b else a

-- the entries of one publish
abbrev pub entries_labelled : ℕ → List Entry → List Entry
entries_labelled n L = filter (λ (e : Entry). e.label == n) L

-- of each publish, S has nothing or all that L has
pub record HasWholePublishes (S L : List Entry) : Type 0 where
  pub nothing_or_all : (n : ℕ) → (entries_labelled n S ≡ []) ⊎ (entries_labelled n S ≡ entries_labelled n L)
