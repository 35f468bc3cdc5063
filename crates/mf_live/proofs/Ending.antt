-- What a writer has accepted once an operation or the end mark is added.
use Rattle.std.proofs.Common.{◌≡◌, ◌∙◌, ◌+◌, ◌≤◌, true, false, ℕ, [], ◌∷◌, ◌++◌, refl, sym, ap, arith}
use Rattle.std.proofs.lemmas.Bool.{or_from, or_right}
use Rattle.mf_ops.specs.declared.op.Op.{Op}
use Rattle.mf_live.specs.declared.holder.Holder.{Holder}
use Rattle.mf_live.specs.Entries.{entry, Operation, End, revision_at, is_closed}
use Rattle.mf_live.specs.Holders.{accepted_list, published_list, version}
use Rattle.mf_live.proofs.EntryLists.{revision_at-push, revision_at-whole, is_closed-append}
use Rattle.mf_live.proofs.Histories.{lawful}
use Rattle.std.proofs.lemmas.Int.{ints}

-- no more is published than is accepted
pub published_list-few : (h : Holder) → (version h).notice.revision ≤ h.revision
published_list-few h = grind (arith, ints, revision_at-whole (published_list h) (accepted_list h) (lawful h).whole, lawful)

module _ (old new : Holder) (n : ℕ) where
  -- one more operation has the next number, and does not close the list
  module _ (op : Op) (more : accepted_list new ≡ accepted_list old ++ entry n (Operation op) ∷ []) where
    pub revision-push : new.revision ≡ old.revision + 1
    revision-push = new.numbered ∙ ap revision_at more ∙ revision_at-push (accepted_list old) n op ∙ ap (λ m. m + 1) (sym old.numbered)

    pub open-push : is_closed (accepted_list old) ≡ false → is_closed (accepted_list new) ≡ false
    open-push is_open =
        ap is_closed more ∙ is_closed-append (accepted_list old) (entry n (Operation op) ∷ []) ∙ or_from (is_closed (accepted_list old)) false is_open refl

  -- the end mark closes the list
  module _ (more : accepted_list new ≡ accepted_list old ++ entry n End ∷ []) where
    pub end_closes : is_closed (accepted_list new) ≡ true
    end_closes = ap is_closed more ∙ is_closed-append (accepted_list old) (entry n End ∷ []) ∙ or_right (is_closed (accepted_list old)) true refl
