-- The streams of a run, and what passes through them.
use Rattle.std.specs.Prelude.{ℕ, List, ◌≡◌, ◌++◌, Option, length}
use Rattle.std.specs.Io.KnownBytes.{Appends, Consumes}

-- what a reader had and has left, and what a writer held and holds, where this is known
pub record Streams : Type 0 where
  pub unread : Option (List ℕ)
  pub left : Option (List ℕ)
  pub held : Option (List ℕ)
  pub holds : Option (List ℕ)

-- streams with these four, in this order
abbrev pub streams : Option (List ℕ) → Option (List ℕ) → Option (List ℕ) → Option (List ℕ) → Streams
streams unread left held holds = record { unread = unread; left = left; held = held; holds = holds }

-- the streams of a reader and a writer, from before a call to after it
abbrev pub streams_of : {R W : Type 0} → (R → Option (List ℕ)) → R → R → (W → Option (List ℕ)) → W → W → Streams
streams_of remaining reader after contents writer written = streams (remaining reader) (remaining after) (contents writer) (contents written)

-- what has passed: the bytes that are left where they are known, those that were read, and those that were written
pub record Passage : Type 0 where
  pub left : Option (List ℕ)
  pub read : List ℕ
  pub written : List ℕ

-- a writer that held some bytes has got others of which this is true
abbrev pub Gets : Option (List ℕ) → Option (List ℕ) → (List ℕ → Type 0) → Type 0
Gets held holds IsSuch = (written : List ℕ) × Appends held holds written × IsSuch written

-- with these bytes left, where they are known, and these read, these written bytes make such a passage
abbrev pub MakesPassage : (Passage → Type 0) → Option (List ℕ) → List ℕ → List ℕ → Type 0
MakesPassage IsSuch left read written = IsSuch (record { left = left; read = read; written = written })

-- the reader has given some bytes of which this is true; where it is at its end, they are all that it had
abbrev pub HasRead : Streams → (List ℕ → Type 0) → Type 0
HasRead s IsSuch = (read : List ℕ) × Consumes s.unread s.left read × IsSuch read

-- what has passed through these streams is such a passage
abbrev pub Passes : Streams → (Passage → Type 0) → Type 0
Passes s IsSuch = HasRead s (λ read. Gets s.held s.holds (MakesPassage IsSuch s.left read))

-- these are so many bytes, and a prefix of such a text, maybe all of it
abbrev pub IsCutAfter : ℕ → (List ℕ → Type 0) → List ℕ → Type 0
IsCutAfter count IsText written = (length written ≡ count) × (rest : List ℕ) × IsText (written ++ rest)
