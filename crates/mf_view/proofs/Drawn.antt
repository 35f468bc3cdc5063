-- What looks add to what an easel has drawn.
use Rattle.std.proofs.Common.{◌≡◌, ◌≢◌, ◌∙◌, ℕ, List, [], ◌∷◌, None, Option, Some, arith, sym, subst}
use Rattle.std.specs.Io.KnownBytes.{Appends}
use Rattle.std.proofs.KnownBytes.{Appends-nil, Appends-trans}
use Rattle.std.proofs.lemmas.List.{append-nil, nil_from_length}
use Rattle.std.proofs.lemmas.List.Elements.{All-cons, All-head, All-nil, All-weaker}
use Rattle.mf_base.specs.Messages.{Receipt, receipt}
use Rattle.mf_live.specs.Entries.{Entry, picture_at, revision_at}
use Rattle.mf_live.specs.Prefixes.{IsWholePrefix}
use Rattle.mf_live.proofs.EntryLists.{operations-append, revision_at-append, revision_at-whole}
use Rattle.mf_live.proofs.WholePrefixes.{whole-self, whole-trans}
use Rattle.mf_ops.specs.Operations.{revision_after}
use Rattle.mf_view.specs.Drawings.{AreLooks, HasDrawn, Rise, ShowsLast, frames, last_revision}
use Rattle.mf_view.specs.Easels.{HasSameManner, Manner, drawing, looked_at_list, manner_of, revision_of}
use Rattle.mf_view.specs.declared.easel.Easel.{Easel}

-- an easel that has drawn nothing
pub HasDrawn_nothing : (easel : Easel) (held : Option (List ℕ)) → revision_of easel ≡ None → HasDrawn easel (receipt held held)
HasDrawn_nothing easel held nothing = record {
  lists = [];
  text = Appends-nil held;
  looks = record { rise = tt; seen = All-nil (λ (L : List Entry). IsWholePrefix L (looked_at_list easel)) };
  last = nothing;
}

-- where its viewer looks, it has drawn what it had drawn
pub HasDrawn_looked : (before after : Easel) (screen : Receipt) → IsWholePrefix (looked_at_list before) (looked_at_list after)
    → HasSameManner before after → revision_of after ≡ revision_of before → HasDrawn before screen → HasDrawn after screen
HasDrawn_looked before after screen more manner last was = record {
  lists = was.lists;
  text = subst (λ m. Appends screen.held screen.holds (frames m was.lists)) (sym manner) was.text;
  looks = let looks = was.looks in grind (arith, All-weaker, whole-trans);
  last = last ∙ was.last;
}

-- a list of another revision than the last of these is above them
Rise-more : (L : List Entry) (lists : List (List Entry)) → last_revision lists ≢ Some (revision_at L) → AreLooks L lists → Rise (L ∷ lists)
Rise-more L [] new looks = (tt, tt)
Rise-more L (S ∷ lists) new looks = grind (arith, All-head, revision_at-whole)

-- a frame of another revision goes after what was drawn
pub HasDrawn_more : (before after : Easel) (held then holds : Option (List ℕ)) → looked_at_list after ≡ looked_at_list before
    → HasSameManner before after → revision_of before ≢ Some (revision_at (looked_at_list before))
    → revision_of after ≡ Some (revision_at (looked_at_list before))
    → Appends then holds (drawing (manner_of before) (revision_of before) (looked_at_list before))
    → HasDrawn before (receipt held then) → HasDrawn after (receipt held holds)
HasDrawn_more before after held then holds same manner new last gets was =
    let L = looked_at_list before in
    let gets_next = subst (λ d. Appends then holds (drawing (manner_of before) d L)) was.last gets in
    record {
      lists = L ∷ was.lists;
      text = subst (λ m. Appends held holds (frames m (L ∷ was.lists))) (sym manner) (Appends-trans held then holds _ _ was.text gets_next);
      looks = subst (λ all. AreLooks all (L ∷ was.lists)) (sym same) (record {
        rise = Rise-more L was.lists (subst (λ d. d ≢ Some (revision_at L)) was.last new) was.looks;
        seen = All-cons (λ (S : List Entry). IsWholePrefix S L) L was.lists (whole-self L) was.looks.seen;
      });
      last = last;
    }

-- a whole prefix with the revision of the list has its picture
same-picture : (L whole : List Entry) → IsWholePrefix L whole → revision_at L ≡ revision_at whole → picture_at L ≡ picture_at whole
unfolding revision_after
same-picture L whole part same = grind (arith, revision_at-append, nil_from_length, sym, operations-append, append-nil)

-- where the last of these frames has the revision of the list, it has its picture
ShowsLast-of : (m : Manner) (whole : List Entry) (screen : Receipt) (lists : List (List Entry)) → AreLooks whole lists
    → Appends screen.held screen.holds (frames m lists) → last_revision lists ≡ Some (revision_at whole) → ShowsLast m whole screen
ShowsLast-of m whole screen [] looks text last = cc
ShowsLast-of m whole screen (L ∷ earlier) looks text last = grind (arith, same-picture, All-head)

-- an easel whose last frame has the revision of the list that its viewer has looked at shows that picture
pub ShowsLast_drawn : (before after : Easel) (whole : List Entry) (screen : Receipt) → looked_at_list after ≡ whole → HasSameManner before after
    → revision_of after ≡ Some (revision_at (looked_at_list after)) → HasDrawn after screen → ShowsLast (manner_of before) whole screen
ShowsLast_drawn before after whole screen same manner last was = grind (arith, ShowsLast-of)
