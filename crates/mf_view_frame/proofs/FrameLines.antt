-- The lines of a frame, written one after another.
use Rattle.std.proofs.Common.{◌≡◌, ◌≤◌, ◌<◌, ℕ, zero, suc, ◌+◌, ◌-◌, ◌*◌, ℤ, pos, ◌+ℤ◌, ◌-ℤ◌, ◌*ℤ◌, ◌≤ℤ◌, ◌<ℤ◌, List, ◌++◌, get_or}
use Rattle.std.proofs.Common.{refl, ap, ◌∙◌, append_assoc, arith}
use native.Mathlib.Nat.{suc-mul}
use Rattle.std.specs.Int.RustNames.{unsigned_abs}
use Rattle.std.proofs.lemmas.Int.{ints}
use Rattle.mf_rows.specs.Dots.{Dot}
use Rattle.mf_text_show.proofs.Pieces.{piece_more, pieces_all}
use Rattle.mf_view_frame.specs.declared.shade.Shade.{Shade}
use Rattle.mf_view_frame.specs.declared.shade.Shade.TheVariants.{Blank}
use Rattle.mf_view_frame.specs.declared.tile.Style.{Style}
use Rattle.mf_view_frame.specs.declared.tile.Style.TheVariants.{Colored}
use Rattle.mf_view_frame.specs.declared.window.Window.{Window}
use Rattle.mf_view_frame.specs.Cells.{cell_shade, shade_in, IsCellOf, AreCells}
use Rattle.mf_view_frame.specs.Frames.{empty_line, empty_lines, lowest_lines, tile_at, tiles, window_line, window_lines}
use Rattle.mf_view_frame.specs.Tiles.{tile}

-- ---- empty lines

-- n of the empty lines are written after the old text
pub record AreEmptySoFar (count : ℕ) (old : List ℕ) (n : ℕ) (text : List ℕ) : Type 0 where
  pub to : n ≤ count
  pub lines : text ++ empty_lines Colored (count - n) ≡ old ++ empty_lines Colored count

pub empty_none : (count : ℕ) (old : List ℕ) → AreEmptySoFar count old 0 old
empty_none count old = let all : count - 0 ≡ count = omega arith in record { to = omega arith; lines = rw all refl }

pub empty_more : (count : ℕ) (old : List ℕ) (n : ℕ) (text new : List ℕ) → n < count → new ≡ text ++ empty_line Colored → AreEmptySoFar count old n text
    → AreEmptySoFar count old (n + 1) new
unfolding empty_lines
empty_more count old n text new more written so_far =
    let left : count - n ≡ suc (count - (n + 1)) = omega arith in
    record { to = omega arith; lines = piece_more text (empty_line Colored) _ _ new _ written (ap (empty_lines Colored) left) so_far.lines }

pub empty_all : {count : ℕ} {old : List ℕ} {n : ℕ} {text : List ℕ} → count ≤ n → AreEmptySoFar count old n text → text ≡ old ++ empty_lines Colored count
unfolding empty_lines
empty_all {count} {old} {n} {text} over so_far = let none : count - n ≡ 0 = omega arith in pieces_all text _ _ (ap (empty_lines Colored) none) so_far.lines

-- ---- a line of tiles

-- what of a window is written after an old text: in which style, and with which shades of its cells
pub record WindowText : Type 0 where
  pub style : Style
  pub shades : ℤ → ℤ → Shade
  pub window : Window
  pub old : List ℕ

-- n tiles of line k, from a place in it on
abbrev tiles_from : WindowText → ℤ → ℕ → ℕ → List ℕ
tiles_from t k place n = tiles (tile_at t.style t.shades k) (t.window.column +ℤ pos place) n

-- all tiles of line k
abbrev tiles_of : WindowText → ℤ → List ℕ
tiles_of t k = tiles (tile_at t.style t.shades k) t.window.column t.window.columns

-- the first n tiles of line k are written after the old text
pub record AreTilesSoFar (t : WindowText) (k : ℤ) (n : ℕ) (text : List ℕ) : Type 0 where
  pub to : n ≤ t.window.columns
  pub line : text ++ tiles_from t k n (t.window.columns - n) ≡ t.old ++ tiles_of t k

tiles_from-next : (t : WindowText) (k : ℤ) (place n : ℕ)
    → tiles_from t k place (suc n) ≡ tile_at t.style t.shades k (t.window.column +ℤ pos place) ++ tiles_from t k (place + 1) n
unfolding tiles
tiles_from-next t k place n = grind (arith, ints)

pub tiles_more : {t : WindowText} {k : ℤ} {n : ℕ} {text new : List ℕ} → n < t.window.columns
    → new ≡ text ++ tile_at t.style t.shades k (t.window.column +ℤ pos n) → AreTilesSoFar t k n text → AreTilesSoFar t k (n + 1) new
tiles_more {t} {k} {n} {text} {new} more written so_far =
    let rest = t.window.columns - (n + 1) in
    let left : t.window.columns - n ≡ suc rest = omega arith in
    record { to = omega arith; line = piece_more text _ _ _ new _ written (ap (tiles_from t k n) left ∙ tiles_from-next t k n rest) so_far.line }

pub tiles_all : {t : WindowText} {k : ℤ} {n : ℕ} {text : List ℕ} → t.window.columns ≤ n → AreTilesSoFar t k n text → text ≡ t.old ++ tiles_of t k
unfolding tiles
tiles_all {t} {k} {n} {text} over so_far = let none : t.window.columns - n ≡ 0 = omega arith in pieces_all text _ _ (ap (tiles_from t k n) none) so_far.line

-- the two cells that the code shows in a tile are those of the tile
pub tile_here : (style : Style) (w : Window) (shades : List Shade) (above place : ℕ) (column line : ℤ)
    → column ≡ w.column +ℤ pos place → line ≡ w.line +ℤ pos above
    → tile style (get_or shades (2 * above * w.columns + w.columns + place) Blank, get_or shades (2 * above * w.columns + place) Blank) column line
    ≡ tile_at style (shade_in w shades) (w.line +ℤ pos above) (w.column +ℤ pos place)
unfolding shade_in
tile_here style w shades above place column line here there =
    let i = w.column +ℤ pos place in
    let k = w.line +ℤ pos above in
    let right : unsigned_abs (i -ℤ w.column) ≡ place = omega (arith, ints) in
    let lower : unsigned_abs ((pos 2 *ℤ k) -ℤ (pos 2 *ℤ w.line)) ≡ 2 * above = omega (arith, ints) in
    let upper : unsigned_abs (((pos 2 *ℤ k) +ℤ pos 1) -ℤ (pos 2 *ℤ w.line)) ≡ suc (2 * above) = omega (arith, ints) in
    grind (arith, ints, suc-mul)

-- ---- the lines of a window

-- the lines above the n lowest are written after the old text
pub record AreLinesSoFar (t : WindowText) (n : ℕ) (text : List ℕ) : Type 0 where
  pub to : n ≤ t.window.lines
  pub lines : text ++ lowest_lines t.style t.shades t.window n ≡ t.old ++ window_lines t.style t.shades t.window

pub lines_none : (t : WindowText) → AreLinesSoFar t t.window.lines t.old
lines_none t = record { to = omega arith; lines = refl }

pub lines_more : {t : WindowText} {above n : ℕ} {text new : List ℕ} → above ≡ suc n
    → new ≡ text ++ window_line t.style t.shades t.window (t.window.line +ℤ pos n) → AreLinesSoFar t above text → AreLinesSoFar t n new
unfolding lowest_lines
lines_more {t} {above} {n} {text} {new} next written so_far = record {
  to = omega (arith, so_far.to);
  lines = piece_more text _ _ _ new _ written (ap (lowest_lines t.style t.shades t.window) next) so_far.lines;
}

pub lines_all : (t : WindowText) (n : ℕ) (text : List ℕ) → n ≡ 0 → AreLinesSoFar t n text → text ≡ t.old ++ window_lines t.style t.shades t.window
unfolding lowest_lines
lines_all t n text none so_far = pieces_all text _ _ (ap (lowest_lines t.style t.shades t.window) none) so_far.lines

-- ---- equal cells make equal lines

same_tiles : (f g : ℤ → List ℕ) (i : ℤ) (n : ℕ) → ((c : ℤ) → i ≤ℤ c → c <ℤ (i +ℤ pos n) → f c ≡ g c) → tiles f i n ≡ tiles g i n
unfolding tiles
same_tiles f g i zero same = refl
same_tiles f g i (suc n) same = grind (arith, ints, same_tiles f g (i +ℤ pos 1) n (λ c from to. same c (omega (arith, ints)) (omega (arith, ints))))

same_lines : (style : Style) (f g : ℤ → ℤ → Shade) (w : Window) (n : ℕ) → ((i j : ℤ) → IsCellOf w i j → f i j ≡ g i j) → n ≤ w.lines
    → lowest_lines style f w n ≡ lowest_lines style g w n
unfolding lowest_lines
same_lines style f g w zero same few = refl
same_lines style f g w (suc n) same few =
    let k = w.line +ℤ pos n in
    let tiles_here = same_tiles (tile_at style f k) (tile_at style g k) w.column w.columns (λ c from to.
    let upper = same c ((pos 2 *ℤ k) +ℤ pos 1) (omega (arith, ints)) in
    let lower = same c (pos 2 *ℤ k) (omega (arith, ints)) in
    ap (λ cells. tile style cells c k) (λ t. (upper t, lower t))) in
    grind (arith, ints, same_lines style f g w n same (omega arith))

pub drawn_lines : (style : Style) (w : Window) (ds : List Dot) (shades : List Shade) → AreCells w ds shades
    → window_lines style (shade_in w shades) w ≡ window_lines style (cell_shade w.scale ds) w
drawn_lines style w ds shades cells = same_lines style (shade_in w shades) (cell_shade w.scale ds) w w.lines cells.cells (omega arith)

-- parts written one after another
pub three_parts : (t a b c : List ℕ) → ((t ++ a) ++ b) ++ c ≡ t ++ (a ++ b ++ c)
three_parts t a b c = simp append_assoc

pub nine_parts : (t s a b c d e f g : List ℕ) → (((((t ++ s) ++ a ++ b) ++ c ++ d) ++ e) ++ f) ++ g ≡ t ++ (s ++ a ++ b ++ c ++ d ++ e ++ f ++ g)
nine_parts t s a b c d e f g = simp append_assoc
