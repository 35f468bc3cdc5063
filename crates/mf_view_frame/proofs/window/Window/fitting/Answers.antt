use Rattle.std.proofs.Common.{◌≡◌, ◌+ℤ◌, ◌<ℤ◌, ◌∙◌, ap, pos, to_z, of_z, w32, arith, sym}
use Rattle.std.proofs.lemmas.Int.{ints}
use Rattle.mf_geom.specs.Coordinates.{greatest_coordinate}
use Rattle.mf_view_frame.specs.Windows.{window_at}
use Rattle.mf_view_frame.proofs.Windows.{few_lines, first-found, lawful_window, more_scales, scale_last, scale_more, scale_none}
use Rattle.mf_view_frame.proofs.window.Window.fitting.Goals as goal

pub loop-scale-init : goal.loop-scale-init
loop-scale-init c = scale_none _ _

pub returns-then-fits : goal.returns-then-fits
returns-then-fits c =
    let fits = sym (rw (c.at-window.ensures, c.columns-columns.ensures.value, c.picture_lines-lines.ensures.value) at c.if-fits.ensures) in
    let more : to_z w32 c.loop-scale.scale-bits <ℤ greatest_coordinate = omega (arith, ints, c.loop-scale-test.true) in
    let value = c.at-window.ensures ∙ ap (window_at c.args.bounds.now) (grind (arith, ints, first-found, more_scales, more, fits, c.loop-scale.invariant)) in
    record {
      value = value;
      lawful = rw value (lawful_window _ _ c.columns-columns.ensures.lawful c.requires);
      lines = rw value (few_lines _ _ c.columns-columns.ensures.lawful c.requires);
    }

pub loop-scale-preserved : goal.loop-scale-preserved
loop-scale-preserved c =
    let fails = sym (rw (c.at-window.ensures, c.columns-columns.ensures.value, c.picture_lines-lines.ensures.value) at c.if-fits.ensures) in
    let more : to_z w32 c.loop-scale.scale-bits <ℤ greatest_coordinate = omega (arith, ints, c.loop-scale-test.true) in
    let next : to_z w32 (of_z w32 (to_z w32 c.loop-scale.scale-bits +ℤ pos 1)) ≡ to_z w32 c.loop-scale.scale-bits +ℤ pos 1 =
    omega (arith, ints, c.loop-scale.invariant.least, c.loop-scale.invariant.greatest) in
    rw next (scale_more _ _ _ more fails c.loop-scale.invariant)

pub returns : goal.returns
returns c =
    let last : to_z w32 c.loop-scale.scale-bits ≡ greatest_coordinate = omega (arith, ints, c.loop-scale-test.false, c.loop-scale.invariant.greatest) in
    let value = c.at.ensures ∙ ap (window_at c.args.bounds.now) (scale_last _ _ _ last c.loop-scale.invariant) in
    record {
      value = value;
      lawful = rw value (lawful_window _ _ c.columns-columns.ensures.lawful c.requires);
      lines = rw value (few_lines _ _ c.columns-columns.ensures.lawful c.requires);
    }
