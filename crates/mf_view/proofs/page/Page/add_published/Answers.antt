use Rattle.std.proofs.Common.{◌∙◌, ap, refl}
use Rattle.mf_view.proofs.page.Page.add_published.Goals as goal

pub returns : goal.returns
returns c = λ ds is sections was.
    let says = c.as_str.ensures.value ∙ c.in_ok-said.ensures.ok in
    record {
      text = rw (was.text, says, is) at c.in_ok-push.ensures.text;
      last = refl;
      codes = ap (λ v. v.items) c.in_ok-push.ensures.codes ∙ was.codes;
    }
