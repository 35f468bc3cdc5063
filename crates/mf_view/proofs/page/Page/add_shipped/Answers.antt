use Rattle.std.proofs.Common.{◌≡◌, ◌∙◌, arith, of_z, rules, to_z, w32}
use Rattle.std.proofs.lemmas.Int.{ints, to_z-of_z}
use Rattle.std.proofs.lemmas.List.{append_assoc}
use Rattle.mf_view.specs.Pages.{Shipped, label}
use Rattle.mf_view.proofs.page.Page.add_shipped.Goals as goal

pub returns : goal.returns
returns c = λ ds is sections was.
    let shipment = c.args.shipment in
    let dx : to_z w32 (of_z w32 c.args.shipment.dx) ≡ c.args.shipment.dx = omega (arith, ints) in
    let width : to_z w32 (of_z w32 c.args.shipment.width) ≡ c.args.shipment.width = search (rules, to_z-of_z) in
    let says : c.as_str.result.now ≡ label (Shipped shipment.code shipment.dx shipment.width ds) =
    c.as_str.ensures.value ∙ c.in_ok-said.ensures.ok ∙ rw (dx, width) (simp append_assoc) in
    record {
      text = rw (was.text, says, is) at c.in_ok-push.ensures.text;
      last = c.in_ok-push.ensures.revision ∙ was.last;
      codes = rw (c.in_ok-push.ensures.codes, was.codes) at c.in_ok-push-2.ensures.items;
    }
