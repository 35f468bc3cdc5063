-- Lists of what a writer has accepted: operations and the end mark, each with the label of its publish.
use Rattle.std.specs.Prelude.{◌&&◌, ◌||◌, ◌+◌, Bool, true, false, not, ℕ, List, [], ◌∷◌, ◌++◌}
use Rattle.mf_rows.specs.Dots.{Dot}
use Rattle.mf_ops.specs.Operations.{picture_after, revision_after, AreAccepted}
use Rattle.mf_ops.specs.declared.op.Op.{Op}

-- an operation, or the mark after which nothing is accepted
pub data Change : Type 0 where
  Operation : Op → Change
  End : Change

-- a change with the label of its publish: changes that are published together have one label
pub record Entry : Type 0 where
  pub label : ℕ
  pub change : Change

-- a change as the entry with this label
abbrev pub entry : ℕ → Change → Entry
entry n c = record { label = n; change = c }

-- the operation of a change, if it is one
abbrev pub operation_of : Change → List Op
operation_of (Operation op) = op ∷ []
operation_of End = []

-- the operations of a list, in order
abbrev pub operations : List Entry → List Op
operations [] = []
operations (e ∷ es) = operation_of e.change ++ operations es

-- the picture of a list, by its operations alone
abbrev pub picture_at : List Entry → List Dot
picture_at L = picture_after (operations L)

-- its revision: how many operations it has
abbrev pub revision_at : List Entry → ℕ
revision_at L = revision_after (operations L)

-- no operation of a list is refused on the picture of those before it
abbrev pub IsUnrefused : List Entry → Type 0
IsUnrefused L = AreAccepted (operations L)

-- whether a change is the end mark
abbrev pub is_end : Change → Bool
is_end (Operation op) = false
is_end End = true

-- whether the end mark is in a list
abbrev pub is_closed : List Entry → Bool
is_closed [] = false
is_closed (e ∷ es) = is_end e.change || is_closed es

-- whether a list has no entry
abbrev pub is_empty : List Entry → Bool
is_empty [] = true
is_empty (e ∷ es) = false

-- whether nothing follows the end mark
abbrev pub is_nothing_after_end : List Entry → Bool
is_nothing_after_end [] = true
is_nothing_after_end (e ∷ es) = (not (is_end e.change) || is_empty es) && is_nothing_after_end es

-- one more than the label of the last entry, or n if there is none
abbrev pub next_label_after : ℕ → List Entry → ℕ
next_label_after n [] = n
next_label_after n (e ∷ es) = next_label_after (e.label + 1) es

-- the label of what is accepted next, once this list is published
abbrev pub next_label : List Entry → ℕ
next_label L = next_label_after 0 L

-- what is accepted once this change is accepted, too: it has the label of the next publish
abbrev pub accepted_list_with : List Entry → List Entry → Change → List Entry
accepted_list_with accepted published change = accepted ++ entry (next_label published) change ∷ []
