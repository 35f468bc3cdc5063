-- The page is written.
use Rattle.std.proofs.Common.{◌≡◌, ◌++◌, ◌∙◌, ℕ, List, Option, Result, Ok, Err}
use Rattle.std.specs.Prelude.{OnOk}
use Rattle.std.specs.Io.KnownBytes.{Appends, Keeps}
use Rattle.std.proofs.KnownBytes.{Appends-kept, Appends-trans}
use Rattle.mf_view.specs.Pages.{HasSections, Section, page_of}
use Rattle.mf_view.specs.declared.page.Page.{Page}
use Rattle.mf_view.specs.declared.page_text.TheConstants.{HEAD, TAIL}

-- the parts of a page are written one after another
pub page_written : {T E : Type 0} {head middle tail : List ℕ} (r : Result T E) (page : Page) (a b c d e : Option (List ℕ)) → head ≡ HEAD.now
    → middle ≡ page.sections.items → tail ≡ TAIL.now → Appends a b head → Appends b c middle → Appends c d tail → Keeps d e
    → OnOk r ((sections : List Section) → HasSections sections page → Appends a e (page_of sections))
page_written {head} {middle} {tail} (Ok done) page a b c d e is_head is_middle is_tail first second third kept = λ sections has.
    let all = Appends-kept a d e (head ++ middle ++ tail) (Appends-trans a c d (head ++ middle) tail (Appends-trans a b c head middle first second) third) kept in
    rw (is_head, is_middle ∙ has.text, is_tail) at all
page_written (Err fault) page a b c d e is_head is_middle is_tail first second third kept = tt
