use Rattle.std.proofs.Common.{◌≡◌, ◌+ℤ◌, ◌++◌, pos, to_z, of_z, w32, ap, ◌∙◌, arith}
use Rattle.std.proofs.lemmas.Int.{ints}
use Rattle.mf_view_frame.specs.Tiles.{line_start, tile_end}
use Rattle.mf_view_frame.specs.Cells.{shade_in}
use Rattle.mf_view_frame.specs.Frames.{tile_at, tiles}
use Rattle.mf_view_frame.proofs.FrameLines.{three_parts, tile_here, tiles_all, tiles_more}
use Rattle.mf_view_frame.proofs.frame.push_line.Goals as goal

pub loop-place-init : goal.loop-place-init
loop-place-init c = grind (arith, ints)

pub loop-place-preserved : goal.loop-place-preserved
loop-place-preserved c =
    let w = c.args.window.now in
    let r = c.requires.window in
    let column : to_z w32 (of_z w32 (to_z w32 (of_z w32 w.column) +ℤ to_z w32 c.loop-place.place)) ≡ w.column +ℤ pos c.loop-place.place =
    omega (arith, ints, r.least_column, r.greatest_column, r.columns, c.loop-place-test.true) in
    let line : to_z w32 (of_z w32 (to_z w32 (of_z w32 w.line) +ℤ to_z w32 c.args.above)) ≡ w.line +ℤ pos c.args.above =
    omega (arith, ints, r.least_line, r.greatest_line, r.lines, c.requires.above) in
    let shown = tile_here c.args.style w c.args.shades.now c.args.above c.loop-place.place _ _ column line in
    tiles_more c.loop-place-test.true (c.in_ok-push_tile.ensures ∙ ap (λ t. c.loop-place.text.items ++ t) shown) c.loop-place.invariant

pub returns : goal.returns
returns c =
    let w = c.args.window.now in
    let all = tiles_all c.loop-place-test.false c.loop-place.invariant in
    let line = tiles (tile_at c.args.style (shade_in w c.args.shades.now) (w.line +ℤ pos c.args.above)) w.column w.columns in
    let end = tile_end c.args.style in
    grind (arith, ints, three_parts c.args.text.now.items (line_start c.args.style) line end)
