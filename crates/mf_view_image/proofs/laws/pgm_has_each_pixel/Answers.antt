use Rattle.std.proofs.Common.{◌+◌, ◌*◌, [], length, ap, ◌∙◌, arith, length-append}
use lib.Seq.{get_or-append-add}
use Rattle.mf_text_show.specs.Grid.{shown_at}
use Rattle.mf_rows.specs.Boxes.{extent}
use Rattle.mf_text_show.proofs.ShownPixels.{box_length, pixel_at}
use Rattle.mf_view_image.specs.Boxes.{image_box}
use Rattle.mf_view_image.specs.Pgm.{box_bytes, gray_value, pgm_bytes, pgm_head}
use Rattle.mf_view_image.proofs.laws.pgm_has_each_pixel.Goals as goal

pub returns : goal.returns
unfolding pgm_bytes
returns c = record {
  pixels = λ ds i j column row.
      let b = image_box ds in
      let w = extent b.min_x b.max_x in
      get_or-append-add (pgm_head b) (box_bytes ds b) (j * w + i) 0 ∙ pixel_at (shown_at gray_value ds) [] b w (omega arith) i j column row;
  whole = λ ds.
      let b = image_box ds in
      length-append (pgm_head b) (box_bytes ds b)
      ∙ ap (λ k. length (pgm_head b) + k) (box_length (shown_at gray_value ds) [] b (extent b.min_x b.max_x) (omega arith));
}
