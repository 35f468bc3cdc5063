-- What a writer has received: some bytes, or what it has got of a text, such as a message.
use Rattle.std.specs.Prelude.{◌≡◌, ◌<◌, ℕ, List, ◌++◌, Option, length, take}
use Rattle.std.specs.Io.KnownBytes.{Appends}

-- what a writer has received in one call or more: what it held before them and holds after them, where this is known
pub record Receipt : Type 0 where
  pub held : Option (List ℕ)
  pub holds : Option (List ℕ)

-- the receipt with these two, in this order
abbrev pub receipt : Option (List ℕ) → Option (List ℕ) → Receipt
receipt held holds = record { held = held; holds = holds }

-- the receipt of what is written to, before and after a call
abbrev pub receipt_of : {W : Type 0} → (W → Option (List ℕ)) → W → W → Receipt
receipt_of contents before after = receipt (contents before) (contents after)

-- a writer that held some bytes has got a prefix of the text, maybe nothing or all of it, and nothing else
abbrev pub GetsFront : Option (List ℕ) → Option (List ℕ) → List ℕ → Type 0
GetsFront held holds text = (front : List ℕ) × (rest : List ℕ) × (text ≡ front ++ rest) × Appends held holds front

-- it has got some first bytes of the text, fewer than all, and nothing else
abbrev pub GetsPart : Option (List ℕ) → Option (List ℕ) → List ℕ → Type 0
GetsPart held holds text = (count : ℕ) × (count < length text) × Appends held holds (take count text)
