use Rattle.std.proofs.Common.{None, ap, ◌∙◌, slice_index_or}
use Rattle.std.proofs.lemmas.List.{get_or-replicate}
use Rattle.mf_gf.specs.Files.{last_shipment}
use Rattle.mf_gf.specs.Numbers.{code_count}
use Rattle.mf_gf.proofs.locators.Locators.new.Goals as goal

pub returns : goal.returns
unfolding last_shipment
returns c =
    let items = c.in_ok-from_slice.ensures.items in
    record { last = λ code fits. ap (λ table. slice_index_or table code None) items ∙ get_or-replicate code_count code None None fits }
