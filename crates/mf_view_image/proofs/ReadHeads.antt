-- The heads of PGM images, read back.
use Rattle.std.proofs.Common.{◌≡◌, ℕ, ℤ, pos, List, ◌∷◌, ◌++◌, Some, codes, drop, length, refl, ap, sym, ◌∙◌, append_assoc, arith}
use Rattle.std.specs.Fmt.{signed_decimal}
use Rattle.std.proofs.lemmas.Int.{ints}
use Rattle.std.proofs.Math.Seq.{drop-append_seam}
use Rattle.mf_rows.specs.declared.bounds.Box4.{Box4}
use Rattle.mf_rows.specs.Boxes.{IsBoxOfField, extent}
use Rattle.mf_rows.specs.Dots.{Dot, IsPicture}
use Rattle.mf_text_show.specs.Grid.{line_feed}
use Rattle.mf_view_image.specs.Boxes.{image_box}
use Rattle.mf_view_image.specs.Pgm.{box_bytes, pgm_bytes, pgm_head}
use Rattle.mf_view_image.specs.Reading.{after_first, space, graymap_from, graymap_of, number, read_pgm, rest_after, with_digits}
use Rattle.mf_view_image.specs.Svg.{IsImageNumber}
use Rattle.mf_view_image.proofs.ImageBoxes.{box_is_of_field}
use Rattle.mf_view_image.proofs.ReadTexts.{first_passes_digits, number_read, pass_number}

-- a space and a line feed are found after a number
space_after : (z : ℤ) (bs : List ℕ) → IsImageNumber z → after_first space (signed_decimal z ++ bs) ≡ after_first space bs
unfolding after_first
space_after z bs small = pass_number (after_first space) (first_passes_digits space (λ d below same. omega arith)) (λ more. refl) z bs small

line_after : (z : ℤ) (bs : List ℕ) → IsImageNumber z → after_first line_feed (signed_decimal z ++ bs) ≡ after_first line_feed bs
unfolding after_first
line_after z bs small = pass_number (after_first line_feed) (first_passes_digits line_feed (λ d below same. omega arith)) (λ more. refl) z bs small

module _ (b : Box4) (values : List ℕ) where
  -- the line of the greatest gray value, with what comes after it
  abbrev greatest_on : List ℕ
  greatest_on = codes "255\n" ++ values

  -- the line of the numbers of columns and rows, with what comes after it
  abbrev lines : List ℕ
  lines = signed_decimal (pos (extent b.min_x b.max_x)) ++ space ∷ (signed_decimal (pos (extent b.min_y b.max_y)) ++ line_feed ∷ greatest_on)

  -- the top row, with what comes after it
  abbrev top_on : List ℕ
  top_on = signed_decimal b.max_y ++ line_feed ∷ lines

  head_on : pgm_head b ++ values ≡ codes "P5\n# left " ++ (signed_decimal b.min_x ++ space ∷ (codes "top " ++ top_on))
  head_on = simp append_assoc

  graymap_read : IsBoxOfField b → graymap_from (signed_decimal b.min_x ++ space ∷ (codes "top " ++ top_on)) ≡ graymap_of b values
  unfolding after_first number with_digits
  graymap_read field =
      let columns = pos (extent b.min_x b.max_x) in
      let rows = pos (extent b.min_y b.max_y) in
      let left_fits : IsImageNumber b.min_x = omega (arith, ints, field) in
      let top_fits : IsImageNumber b.max_y = omega (arith, ints, field) in
      let columns_fit : IsImageNumber columns = omega (arith, ints, field) in
      let rows_fit : IsImageNumber rows = omega (arith, ints, field) in
      let left = number_read b.min_x space (codes "top " ++ top_on) left_fits refl in
      let to_top = ap (after_first space) (space_after b.min_x (space ∷ (codes "top " ++ top_on)) left_fits) in
      let top = ap number to_top ∙ number_read b.max_y line_feed lines top_fits refl in
      let to_lines = line_after b.min_x (space ∷ (codes "top " ++ top_on)) left_fits ∙ line_after b.max_y (line_feed ∷ lines) top_fits in
      let to_rows = ap (after_first space) to_lines ∙ space_after columns (space ∷ (signed_decimal rows ++ line_feed ∷ greatest_on)) columns_fit in
      let to_greatest =
      ap (after_first line_feed) to_lines ∙ line_after columns (space ∷ (signed_decimal rows ++ line_feed ∷ greatest_on)) columns_fit
      ∙ line_after rows (line_feed ∷ greatest_on) rows_fit in
      let wide = ap number to_lines ∙ number_read columns space (signed_decimal rows ++ line_feed ∷ greatest_on) columns_fit refl in
      let high = ap number to_rows ∙ number_read rows line_feed greatest_on rows_fit refl in
      λ i. record {
        left = left i;
        top = top i;
        columns = wide i;
        rows = high i;
        greatest = number (to_greatest i);
        values = after_first line_feed (to_greatest i);
      }

pub pgm_read : (ds : List Dot) → IsPicture ds
    → read_pgm (pgm_bytes ds) ≡ Some (graymap_of (image_box ds) (drop (length (pgm_head (image_box ds))) (pgm_bytes ds)))
unfolding pgm_bytes rest_after
pgm_read ds picture =
    let b = image_box ds in
    let values = box_bytes ds b in
    ap read_pgm (head_on b values) ∙ ap (λ it. Some it) (graymap_read b values (box_is_of_field ds picture))
    ∙ ap (λ it. Some (graymap_of b it)) (sym (drop-append_seam (pgm_head b) values))
