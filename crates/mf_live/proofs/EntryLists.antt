-- What one more entry does to a list of entries.
use Rattle.std.proofs.Common.{◌≡◌, ◌≤◌, ◌+◌, ◌||◌, ◌∙◌, Bool, true, false, ℕ, List, [], ◌∷◌, ◌++◌, length, None, refl, sym, ap}
use Rattle.std.proofs.Common.{append_assoc, arith, length-append}
use Rattle.std.proofs.lemmas.List.{append-nil}
use Rattle.mf_ops.specs.Operations.{picture_after, revision_after}
use Rattle.mf_ops.specs.Step.{next_picture, op_fault}
use Rattle.mf_ops.specs.declared.op.Op.{Op}
use Rattle.mf_ops.proofs.Operations.{picture_after-push, AreAccepted-push}
use Rattle.mf_live.specs.Entries.{Change, Operation, End, Entry, entry, operation_of, operations, picture_at, revision_at}
use Rattle.mf_live.specs.Entries.{IsUnrefused, is_end, is_closed, is_nothing_after_end}
use Rattle.mf_live.specs.Prefixes.{IsWholePrefix}
use Rattle.std.proofs.lemmas.Int.{ints}

pub operations-append : (xs ys : List Entry) → operations (xs ++ ys) ≡ operations xs ++ operations ys
operations-append [] ys = refl
operations-append (e ∷ xs) ys = rw (operations-append xs ys) (sym (append_assoc (operation_of e.change) (operations xs) (operations ys)))

operations-end : (L : List Entry) (n : ℕ) → operations (L ++ entry n End ∷ []) ≡ operations L
operations-end L n = operations-append L (entry n End ∷ []) ∙ append-nil (operations L)

pub picture_at-push : (L : List Entry) (n : ℕ) (op : Op) → picture_at (L ++ entry n (Operation op) ∷ []) ≡ next_picture (picture_at L) op
picture_at-push L n op = ap picture_after (operations-append L (entry n (Operation op) ∷ [])) ∙ picture_after-push (operations L) op

pub revision_at-append : (xs ys : List Entry) → revision_at (xs ++ ys) ≡ revision_at xs + revision_at ys
unfolding revision_after
revision_at-append xs ys = ap length (operations-append xs ys) ∙ length-append (operations xs) (operations ys)

pub revision_at-push : (L : List Entry) (n : ℕ) (op : Op) → revision_at (L ++ entry n (Operation op) ∷ []) ≡ revision_at L + 1
unfolding revision_after
revision_at-push L n op = revision_at-append L (entry n (Operation op) ∷ [])

pub picture_at-end : (L : List Entry) (n : ℕ) → picture_at (L ++ entry n End ∷ []) ≡ picture_at L
picture_at-end L n = ap picture_after (operations-end L n)

pub revision_at-end : (L : List Entry) (n : ℕ) → revision_at (L ++ entry n End ∷ []) ≡ revision_at L
revision_at-end L n = ap revision_after (operations-end L n)

pub revision_at-whole : (S L : List Entry) → IsWholePrefix S L → revision_at S ≤ revision_at L
revision_at-whole S L whole = grind (arith, revision_at-append)

pub unrefused-push : (L : List Entry) (n : ℕ) (op : Op) → IsUnrefused L → op_fault (picture_at L) op ≡ None → IsUnrefused (L ++ entry n (Operation op) ∷ [])
unrefused-push L n op unrefused allowed = rw (operations-append L (entry n (Operation op) ∷ [])) (AreAccepted-push (operations L) op unrefused allowed)

pub unrefused-end : (L : List Entry) (n : ℕ) → IsUnrefused L → IsUnrefused (L ++ entry n End ∷ [])
unrefused-end L n unrefused = rw (operations-end L n) unrefused

or-assoc : (a b c : Bool) → (a || (b || c)) ≡ ((a || b) || c)
or-assoc true b c = refl
or-assoc false b c = refl

pub is_closed-append : (xs ys : List Entry) → is_closed (xs ++ ys) ≡ (is_closed xs || is_closed ys)
is_closed-append [] ys = refl
is_closed-append (e ∷ xs) ys = rw (is_closed-append xs ys) (or-assoc (is_end e.change) (is_closed xs) (is_closed ys))

ends-alone : (n : ℕ) (c : Change) → is_nothing_after_end (entry n c ∷ []) ≡ true
ends-alone n (Operation op) = refl
ends-alone n End = refl

is_nothing_after_end-step : (n : ℕ) (c : Change) (L more : List Entry) → is_closed (entry n c ∷ L) ≡ false → is_nothing_after_end (entry n c ∷ L) ≡ true
    → (is_closed L ≡ false → is_nothing_after_end L ≡ true → is_nothing_after_end (L ++ more) ≡ true) → is_nothing_after_end (entry n c ∷ L ++ more) ≡ true
is_nothing_after_end-step n (Operation op) L more not_closed ends rest = rest not_closed ends
is_nothing_after_end-step n End L more not_closed ends rest = cc

pub is_nothing_after_end-push : (L : List Entry) (e : Entry) → is_closed L ≡ false → is_nothing_after_end L ≡ true → is_nothing_after_end (L ++ e ∷ []) ≡ true
is_nothing_after_end-push [] e not_closed ends = ends-alone e.label e.change
is_nothing_after_end-push (first ∷ L) e not_closed ends = grind (arith, ints, is_nothing_after_end-step, is_nothing_after_end-push L e)

nothing_after_end : (n : ℕ) (S rest : List Entry) → is_nothing_after_end (entry n End ∷ S ++ rest) ≡ true → rest ≡ []
nothing_after_end n [] [] ends = refl
nothing_after_end n [] (e ∷ rest) ends = cc
nothing_after_end n (e ∷ S) rest ends = cc

nothing_follows-step : (n : ℕ) (c : Change) (S rest : List Entry) → is_nothing_after_end (entry n c ∷ S ++ rest) ≡ true → is_closed (entry n c ∷ S) ≡ true
    → (is_nothing_after_end (S ++ rest) ≡ true → is_closed S ≡ true → rest ≡ []) → rest ≡ []
nothing_follows-step n (Operation op) S rest ends closed follows = follows ends closed
nothing_follows-step n End S rest ends closed follows = nothing_after_end n S rest ends

-- nothing follows a closed list
pub nothing_follows : (S rest : List Entry) → is_nothing_after_end (S ++ rest) ≡ true → is_closed S ≡ true → rest ≡ []
nothing_follows [] rest ends closed = cc
nothing_follows (e ∷ S) rest ends closed = nothing_follows-step e.label e.change S rest ends closed (nothing_follows S rest)

length-revision_at-step : (n : ℕ) (c : Change) (L : List Entry) → is_nothing_after_end (entry n c ∷ L) ≡ true
    → (is_nothing_after_end L ≡ true → length L ≤ revision_at L + 1) → length (entry n c ∷ L) ≤ revision_at (entry n c ∷ L) + 1
unfolding revision_after
length-revision_at-step n (Operation op) L ends rest = let few : length L ≤ revision_at L + 1 = rest ends in omega arith
length-revision_at-step n End [] ends rest = omega arith
length-revision_at-step n End (e ∷ L) ends rest = cc

-- all entries but the end mark are operations
pub length-revision_at : (L : List Entry) → is_nothing_after_end L ≡ true → length L ≤ revision_at L + 1
length-revision_at [] ends = omega arith
length-revision_at (e ∷ L) ends = length-revision_at-step e.label e.change L ends (length-revision_at L)
