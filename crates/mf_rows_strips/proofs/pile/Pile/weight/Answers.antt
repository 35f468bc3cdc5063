use Rattle.std.proofs.Common.{◌≡◌, FitsSigned, rules, pos, get_or, to_z, of_z, to_z-of_z, w32, sym, ap, ◌∙◌, arith}
use Rattle.std.specs.Arc.{arc_value}
use Rattle.std.specs.Int.{int_wrap}
use Rattle.std.proofs.lemmas.Int.{ints, wrapping_add_onto, int_wrap-add_left, int_wrap_fits}
use Rattle.std.proofs.lemmas.List.{take_all}
use Rattle.mf_rows_strips.specs.Parts.{weight_in_part, weight_in_parts}
use Rattle.mf_rows_strips.proofs.PileReads.{weight_in_parts-more}
use Rattle.mf_rows_strips.proofs.pile.Pile.weight.Goals as goal

pub loop-part-init : goal.loop-part-init
unfolding weight_in_parts
loop-part-init c = sym (int_wrap_fits w32 (pos 0) (omega (arith, ints)))

pub loop-part-preserved : goal.loop-part-preserved
loop-part-preserved c =
    let ps = c.deref-part-items.result.now in
    let i = c.loop-part.part-index in
    let x = to_z w32 (of_z w32 c.args.x) in
    let y = to_z w32 (of_z w32 c.args.y) in
    let own : c.weight-weight.result ≡ weight_in_part (arc_value (get_or ps i c.part-item.result)) x y =
    c.weight-weight.ensures ∙ ap (λ p. weight_in_part p x y) (c.deref.ensures ∙ ap arc_value c.part-item.is) in
    let fits : FitsSigned w32 c.weight-weight.result = search rules in
    wrapping_add_onto w32 c.loop-part.weight-bits c.weight-weight.result (search rules) fits
    ∙ rw (c.loop-part.invariant, own) (int_wrap-add_left w32 _ _ ∙ ap (int_wrap w32) (sym (weight_in_parts-more ps i c.part-item.result c.loop-part-test.true x y)))

pub returns : goal.returns
returns c =
    let pile = c.args.self.now in
    let within = pile.lawful.within c.args.x c.args.y in
    let fits : FitsSigned w32 (weight_in_parts pile.parts.items c.args.x c.args.y) = omega (arith, ints, within.least, within.greatest, pile.lawful.most) in
    let all = take_all c.loop-part.part-index c.deref-part-items.result.now c.loop-part-test.false ∙ c.deref-part-items.ensures.value in
    (rw (to_z-of_z c.ranges.x, to_z-of_z c.ranges.y, all) at c.loop-part.invariant) ∙ int_wrap_fits w32 _ fits
