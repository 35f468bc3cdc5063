-- The pictures of lists of operations.
use Rattle.std.specs.Prelude.{◌≡◌, ℕ, List, [], ◌∷◌, length, None}
use Rattle.mf_rows.specs.Dots.{Dot}
use Rattle.mf_ops.specs.Step.{next_picture, op_fault}
use Rattle.mf_ops.specs.declared.op.Op.{Op}
use Rattle.mf_ops.specs.declared.op.Op.TheVariants.{Contour, Also}

-- the picture that operations, performed in order, make of the picture ds
unfoldable pub after_all : List Dot → List Op → List Dot
after_all ds [] = ds
after_all ds (op ∷ ops) = after_all (next_picture ds op) ops

-- the picture of a list of operations: blank at first, then changed by each of them in order
unfoldable pub picture_after : List Op → List Dot
picture_after ops = after_all [] ops

-- the revision number of a list of operations: its length
unfoldable pub revision_after : List Op → ℕ
revision_after ops = length ops

-- none of these operations, performed in order on the picture ds, is refused
abbrev pub AreAcceptedOn : List Dot → List Op → Type 0
AreAcceptedOn ds [] = Unit {0}
AreAcceptedOn ds (op ∷ ops) = (op_fault ds op ≡ None) × AreAcceptedOn (next_picture ds op) ops

-- none of these operations, performed in order on the blank picture, is refused
pub record AreAccepted (ops : List Op) : Type 0 where
  pub steps : AreAcceptedOn [] ops

-- the operation holds neither points nor pixels, so copying it is never refused
abbrev pub HoldsNoList : Op → Type 0
HoldsNoList (Contour ps w check) = ⊥
HoldsNoList (Also es s) = es ≡ []
HoldsNoList op = Unit {0}
