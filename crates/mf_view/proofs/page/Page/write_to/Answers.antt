use Rattle.mf_view.proofs.Pages.{page_written}
use Rattle.mf_view.proofs.page.Page.write_to.Goals as goal

pub returns : goal.returns
returns g c =
    page_written c.flush.result c.args.self.now _ _ _ _ _ c.as_bytes.ensures.value c.as_slice.ensures.value c.as_bytes-2.ensures.value
    c.in_ok-write_all.ensures.bytes c.in_ok-write_all-2.ensures.bytes c.in_ok-write_all-3.ensures.bytes c.flush.ensures.bytes
