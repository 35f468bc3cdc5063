use Rattle.std.proofs.Common.{◌<◌, length, ap, ◌∙◌, refl, arith}
use Rattle.std.proofs.lemmas.List.{get_or_default, length-set}
use Rattle.mf_view_frame.specs.declared.shade.Shade.TheVariants.{Blank}
use Rattle.mf_view_frame.specs.Cells.{darker}
use Rattle.mf_view_frame.proofs.Darkness.{max-darker}
use Rattle.mf_view_frame.proofs.Painting.{darkened_more}
use Rattle.mf_view_frame.proofs.cells.darken.Goals as goal

pub loop-place-preserved : goal.loop-place-preserved
loop-place-preserved c =
    let so_far = c.loop-place.invariant in
    let within : c.loop-place.place < length c.loop-place.shades.items = omega (arith, c.loop-place-test.true, c.requires.end, so_far.so_far.count) in
    let here = c.index.ensures ∙ get_or_default c.loop-place.shades.items c.loop-place.place c.index.result.now Blank within in
    let shade = c.max.ensures ∙ max-darker c.index.result.now c.args.shade ∙ ap (λ s. darker s c.args.shade) here in
    rw shade (darkened_more c.loop-place-test.true c.requires.end refl (length-set c.loop-place.shades.items c.loop-place.place _) so_far)
