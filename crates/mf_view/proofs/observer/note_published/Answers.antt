use Rattle.std.proofs.Common.{◌∙◌, Some, ap, sym}
use Rattle.mf_view.proofs.observer.note_published.Goals as goal

pub returns : goal.returns
returns g c = λ s stands.
    let is = c.revision-revision.ensures s stands in (
      λ known. let ends = c.if-ends_with.ensures.1 (known ∙ ap Some (sym is)) in cc,
      λ new. rw is at (c.in_ok-add_published.ensures _ (c.image.ensures ∙ (c.in_ok-plate.ensures s stands).svg.bytes_are)),
    )
