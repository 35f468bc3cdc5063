-- The pictures of lists of operations.
use Rattle.std.proofs.Common.{◌≡◌, None, List, [], ◌∷◌, ◌++◌, refl, arith}
use Rattle.mf_rows.specs.Dots.{Dot, IsPicture}
use Rattle.mf_ops.specs.Operations.{after_all, picture_after, AreAcceptedOn, AreAccepted}
use Rattle.mf_ops.specs.Step.{next_picture, op_fault}
use Rattle.mf_ops.specs.declared.op.Op.{Op}
use Rattle.mf_ops.proofs.Faults.{IsPicture-next_picture}

after_all-push : (ds : List Dot) (ops : List Op) (op : Op) → after_all ds (ops ++ op ∷ []) ≡ next_picture (after_all ds ops) op
unfolding after_all
after_all-push ds [] op = refl
after_all-push ds (first ∷ ops) op = after_all-push (next_picture ds first) ops op

pub picture_after-push : (ops : List Op) (op : Op) → picture_after (ops ++ op ∷ []) ≡ next_picture (picture_after ops) op
unfolding picture_after
picture_after-push ops op = after_all-push [] ops op

lawful_after_all : (ds : List Dot) (ops : List Op) → IsPicture ds → AreAcceptedOn ds ops → IsPicture (after_all ds ops)
unfolding after_all
lawful_after_all ds [] picture accepted = picture
lawful_after_all ds (op ∷ ops) picture accepted = lawful_after_all (next_picture ds op) ops (IsPicture-next_picture ds op accepted.0) accepted.1

pub lawful_picture_after : (ops : List Op) → AreAccepted ops → IsPicture (picture_after ops)
unfolding picture_after
lawful_picture_after ops accepted = lawful_after_all [] ops (record { dots = tt }) accepted.steps

accepted-push : (ds : List Dot) (ops : List Op) (op : Op) → AreAcceptedOn ds (ops ++ op ∷ []) → AreAcceptedOn ds ops × (op_fault (after_all ds ops) op ≡ None)
unfolding after_all
accepted-push ds [] op accepted = (tt, accepted.0)
accepted-push ds (first ∷ ops) op accepted = grind (arith, accepted-push (next_picture ds first) ops op accepted.1)

push-accepted : (ds : List Dot) (ops : List Op) (op : Op) → AreAcceptedOn ds ops → op_fault (after_all ds ops) op ≡ None → AreAcceptedOn ds (ops ++ op ∷ [])
unfolding after_all
push-accepted ds [] op accepted last = (last, tt)
push-accepted ds (first ∷ ops) op accepted last = (accepted.0, push-accepted (next_picture ds first) ops op accepted.1 last)

-- a list of operations is accepted where all but the last are accepted, and the last one is, too
pub AreAccepted-front : (ops : List Op) (op : Op) → AreAccepted (ops ++ op ∷ []) → AreAccepted ops × (op_fault (picture_after ops) op ≡ None)
unfolding picture_after
AreAccepted-front ops op accepted = let parts = accepted-push [] ops op accepted.steps in (record { steps = parts.0 }, parts.1)

pub AreAccepted-push : (ops : List Op) (op : Op) → AreAccepted ops → op_fault (picture_after ops) op ≡ None → AreAccepted (ops ++ op ∷ [])
unfolding picture_after
AreAccepted-push ops op accepted last = record { steps = push-accepted [] ops op accepted.steps last }
