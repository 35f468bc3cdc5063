-- Prefixes of lists.
use Rattle.std.proofs.Common.{◌≡◌, ◌≤◌, List, [], ◌∷◌, ◌++◌, length, refl, ap, sym, ◌∙◌, arith, append_assoc, length-append}
use Rattle.std.proofs.lemmas.List.{append-nil}
use mathlib.Core.List.{IsPrefix}

pub prefix-self : {A : Type 0} (xs : List A) → IsPrefix xs xs
prefix-self xs = ([], append-nil xs)

pub prefix-trans : {A : Type 0} (xs ys zs : List A) → IsPrefix xs ys → IsPrefix ys zs → IsPrefix xs zs
prefix-trans xs ys zs one other = (one.0 ++ other.0, sym (append_assoc xs one.0 other.0) ∙ ap (λ L. L ++ other.0) one.1 ∙ other.1)

-- of two prefixes of one list, the shorter is a prefix of the longer
pub prefix-shorter : {A : Type 0} (xs ys zs : List A) → IsPrefix xs zs → IsPrefix ys zs → length xs ≤ length ys → IsPrefix xs ys
prefix-shorter [] ys zs one other shorter = (ys, refl)
prefix-shorter (x ∷ xs) [] zs one other shorter = absurd (omega arith)
prefix-shorter (x ∷ xs) (y ∷ ys) [] one other shorter = absurd (cc (one.1))
prefix-shorter (x ∷ xs) (y ∷ ys) (z ∷ zs) one other shorter = grind (arith, prefix-shorter xs ys zs (one.0, cc (one.1)) (other.0, cc (other.1)) (omega arith))

-- a prefix as long as the list is the list
pub prefix-same : {A : Type 0} (xs ys : List A) → IsPrefix xs ys → length ys ≤ length xs → xs ≡ ys
prefix-same xs ys ([], whole) long = sym (append-nil xs) ∙ whole
prefix-same xs ys (y ∷ rest, whole) long = absurd (omega (arith, length-append xs (y ∷ rest), ap length whole))
