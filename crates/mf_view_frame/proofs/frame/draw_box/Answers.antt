use Rattle.std.proofs.Common.{◌≡◌, to_z, of_z, w64, refl, arith}
use Rattle.std.proofs.lemmas.Int.{ints}
use Rattle.mf_rows.specs.Dots.{total_of}
use Rattle.mf_rows.proofs.BoxesOfDots.{least_box_is, least_box_of_field}
use Rattle.mf_view_frame.specs.Frames.{frame_text}
use Rattle.mf_view_frame.proofs.DotsInWindow.{all_in_window}
use Rattle.mf_view_frame.proofs.FrameLines.{drawn_lines}
use Rattle.mf_view_frame.proofs.Windows.{is_scale, stays}
use Rattle.mf_view_frame.proofs.frame.draw_box.Goals as goal

pub fitting-window-requires : goal.fitting-window-requires
fitting-window-requires c = least_box_of_field _ _ c.total-total.ensures.lawful c.requires

pub cells_of-requires-clause-dots : goal.cells_of-requires-clause-dots
cells_of-requires-clause-dots c = rw c.fitting-window.ensures.value (all_in_window _ _ _ (is_scale c.args.canvas c.args.bounds.now).least c.requires)

pub push_measures-requires : goal.push_measures-requires
push_measures-requires c = least_box_of_field _ _ c.total-total.ensures.lawful c.requires

pub returns : goal.returns
unfolding frame_text
returns c =
    let w = c.fitting-window.result in
    let lines = drawn_lines c.args.style _ _ _ c.in_ok-shades.ensures in
    let of_window = c.fitting-window.ensures.lawful.scale in
    let scale = stays w.scale (omega (arith, ints, of_window.least)) of_window.greatest in
    let total : to_z w64 (of_z w64 c.total-total.result) ≡ total_of c.args.picture.now = omega (arith, ints, c.total-total.ensures.value) in
    rw (least_box_is _ _ c.requires, ← c.fitting-window.ensures.value, c.in_ok-push_measures.ensures, c.in_ok-push_heading.ensures, c.in_ok-push_lines.ensures)
    (rw (c.in_ok-push_empty_lines_above.ensures, c.new-text.ensures.items, c.deref.ensures.value, total, lines, scale) refl)
