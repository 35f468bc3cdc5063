-- Runs painted on the cells of a window.
use Rattle.std.proofs.Common.{◌≡◌, ◌≢◌, ◌≤◌, ◌<◌, ℕ, zero, suc, ◌+◌, ◌*◌, ℤ, pos, ◌+ℤ◌, ◌-ℤ◌, ◌*ℤ◌, ◌≤ℤ◌, ◌<ℤ◌, List, [], ◌∷◌, ◌++◌, length}
use Rattle.std.proofs.Common.{get_or, set, inl, inr, refl, sym, ap, ◌∙◌, subst, arith, mul-le-mul_right, get_or-set_other, get_or-set_same}
use native.Mathlib.Nat.{suc-mul}
use Rattle.std.specs.Int.RustNames.{unsigned_abs}
use Rattle.std.specs.List.{flat_map}
use Rattle.std.specs.Prelude.{replicate}
use Rattle.std.proofs.lemmas.Bool.{cases_order}
use Rattle.std.proofs.lemmas.Int.{ints, by_lt_z}
use Rattle.std.proofs.lemmas.List.{length-replicate, get_or-replicate}
use Rattle.std.proofs.lemmas.List.Elements.{All-head, All-tail}
use Rattle.mf_rows.specs.declared.run.Run.{Run}
use Rattle.mf_rows.specs.Dots.{Dot, IsPicture}
use Rattle.mf_rows.specs.Order.{IsRun}
use Rattle.mf_rows.specs.Runs.{dots_of, runs_of, equal_dots}
use Rattle.mf_rows.proofs.PassedRuns.{ArePassedDots, next_is_lawful, none_passed, one_more_passed, all_passed}
use Rattle.mf_view_frame.specs.declared.shade.Shade.{Shade}
use Rattle.mf_view_frame.specs.declared.shade.Shade.TheVariants.{Blank}
use Rattle.mf_view_frame.specs.declared.window.Window.{Window}
use Rattle.mf_view_frame.specs.Cells.{Darkening, cell_of, cell_shade, darker, shade_of, place_in, shade_in, IsCellOf, AreCells, AreDarkened}
use Rattle.mf_view_frame.specs.Cells.{ArePainted, IsRunInWindow, AreInWindow}
use Rattle.mf_view_frame.specs.Windows.{IsWindow}
use Rattle.mf_view_frame.proofs.Darkness.{darker-blank, shade-append, shade-none, equal_dots-inside, equal_dots-outside}
use Rattle.mf_view_frame.proofs.Floors.{cell-le}

-- ---- a stretch of places

-- the places from start on up to this one are darkened
pub record AreDarkenedTo (d : Darkening) (old : List Shade) (place : ℕ) (new : List Shade) : Type 0 where
  pub from : d.start ≤ place
  pub to : place ≤ d.end
  pub so_far : AreDarkened (record d { end = place }) old new

pub darkened_more : {d : Darkening} {old : List Shade} {place : ℕ} {shades new : List Shade} → place < d.end → d.end ≤ length old
    → new ≡ set shades place (darker (get_or shades place Blank) d.shade) → length new ≡ length shades
    → AreDarkenedTo d old place shades → AreDarkenedTo d old (place + 1) new
darkened_more {d} {old} {place} {shades} {new} more room written kept so_far =
    let shade = d.shade in
    let done = so_far.so_far in
    let within : place < length shades = omega (arith, done.count) in
    let other : (k : ℕ) → k ≢ place → get_or new k Blank ≡ get_or shades k Blank =
    λ k apart. rw written (get_or-set_other shades place k (darker (get_or shades place Blank) shade) Blank apart) in
    let here : get_or new place Blank ≡ darker (get_or shades place Blank) shade =
    rw written (get_or-set_same shades place (darker (get_or shades place Blank) shade) Blank within) in
    record {
      from = omega (arith, so_far.from);
      to = omega arith;
      so_far = record {
        count = kept ∙ done.count;
        inside = λ k from to. elim (cases_order k place) [
          | inl same ↦ rw same (here ∙ ap (λ s. darker s shade) (done.after place (omega arith)))
          | inr (inl below) ↦ other k (omega arith) ∙ done.inside k from below
          | inr (inr above) ↦ absurd (omega arith)
        ];
        before = λ k below. other k (omega (arith, so_far.from)) ∙ done.before k below;
        after = λ k above. other k (omega arith) ∙ done.after k (omega arith);
      };
    }

-- ---- a run

-- the places of a row are before those of a higher row
row-apart : (a b c : ℕ) → a < b → a * c + c ≤ b * c
row-apart a b c less = let product : suc a * c ≤ b * c = mul-le-mul_right c (omega arith) in omega (arith, suc-mul a c)

pub place-inside : (w : Window) (i j : ℤ) → IsCellOf w i j → place_in w i j < 2 * w.lines * w.columns
place-inside w i j cell =
    let apart = row-apart (unsigned_abs (j -ℤ (pos 2 *ℤ w.line))) (2 * w.lines) w.columns (omega (arith, ints, cell.bottom, cell.top)) in
    omega (arith, ints, cell.left, cell.right)

-- where a run is among the places of a window
abbrev pub run_start : Window → Run → ℕ
run_start w r = place_in w (cell_of w.scale r.x) (cell_of w.scale r.y)

abbrev pub run_end : Window → Run → ℕ
run_end w r = place_in w (cell_of w.scale ((r.x +ℤ pos r.len) -ℤ pos 1)) (cell_of w.scale r.y) + 1

-- those places, with the shade of the run
abbrev pub darkening_of : Window → Run → Darkening
darkening_of w r = record { start = run_start w r; end = run_end w r; shade = shade_of r.weight }

-- the run gives no shade to a cell that it does not reach
shade_in-kept : (w : Window) (r : Run) (old new : List Shade) (i j : ℤ) → get_or new (place_in w i j) Blank ≡ get_or old (place_in w i j) Blank
    → cell_shade w.scale (dots_of r) i j ≡ Blank → shade_in w new i j ≡ darker (shade_in w old i j) (cell_shade w.scale (dots_of r) i j)
unfolding shade_in
shade_in-kept w r old new i j kept blank = rw blank (kept ∙ sym (darker-blank (get_or old (place_in w i j) Blank)))

-- a run reaches no cell that none of its columns and rows is in
outside_run : (w : Window) (r : Run) (i j : ℤ) → pos 1 ≤ℤ w.scale
    → ((u : ℤ) → r.x ≤ℤ u → u <ℤ (r.x +ℤ pos r.len) → cell_of w.scale u ≡ i → cell_of w.scale r.y ≡ j → ⊥) → cell_shade w.scale (dots_of r) i j ≡ Blank
unfolding dots_of
outside_run w r i j positive outside = equal_dots-outside w.scale r.y r.x r.weight r.len i j positive outside

inside_run : (s : ℤ) (y x m : ℤ) (n : ℕ) (i j : ℤ) → pos 1 ≤ℤ s → 1 ≤ n → cell_of s y ≡ j → cell_of s x ≤ℤ i → i ≤ℤ cell_of s ((x +ℤ pos n) -ℤ pos 1)
    → cell_shade s (equal_dots y x m n) i j ≡ shade_of m
inside_run s y x m zero i j positive some row left right = absurd (omega arith)
inside_run s y x m (suc n) i j positive some row left right =
    let last : (x +ℤ pos (suc n)) -ℤ pos 1 ≡ x +ℤ pos n = omega (arith, ints) in
    equal_dots-inside s y x m n i j positive row left (rw last at right)

within_run : (w : Window) (r : Run) (i j : ℤ) → pos 1 ≤ℤ w.scale → IsRun r → cell_of w.scale r.y ≡ j → cell_of w.scale r.x ≤ℤ i
    → i ≤ℤ cell_of w.scale ((r.x +ℤ pos r.len) -ℤ pos 1) → cell_shade w.scale (dots_of r) i j ≡ shade_of r.weight
unfolding dots_of
within_run w r i j positive run row left right = inside_run w.scale r.y r.x r.weight r.len i j positive run.some row left right

-- a cell in the run's row
in_row : (w : Window) (r : Run) (old new : List Shade) (i : ℤ) → IsWindow w → IsRunInWindow w r → IsCellOf w i (cell_of w.scale r.y)
    → AreDarkened (darkening_of w r) old new
    → get_or new (place_in w i (cell_of w.scale r.y)) Blank
    ≡ darker (get_or old (place_in w i (cell_of w.scale r.y)) Blank) (cell_shade w.scale (dots_of r) i (cell_of w.scale r.y))
unfolding shade_in
in_row w r old new i window within cell dark =
    let row = cell_of w.scale r.y in
    let first = cell_of w.scale r.x in
    let last = cell_of w.scale ((r.x +ℤ pos r.len) -ℤ pos 1) in
    let p = place_in w i row in
    let positive = window.scale.least in
    by_lt_z i first
    (λ left.
    let before : p < run_start w r = omega (arith, ints, cell.left, within.first.left) in
    shade_in-kept w r old new i row (dark.before p before)
    (outside_run w r i row positive (λ u from to column _. let le = cell-le w.scale r.x u positive from in omega (arith, ints, column))))
    (λ from. by_lt_z last i
    (λ right.
    let after : run_end w r ≤ p = omega (arith, ints, cell.left, within.last.left) in
    shade_in-kept w r old new i row (dark.after p after)
    (outside_run w r i row positive
    (λ u start to column _. let le = cell-le w.scale u ((r.x +ℤ pos r.len) -ℤ pos 1) positive (omega (arith, ints)) in omega (arith, ints, column))))
    (λ to.
    let above : run_start w r ≤ p = omega (arith, ints, cell.left, within.first.left) in
    let below : p < run_end w r = omega (arith, ints, cell.left, within.last.left) in
    rw (within_run w r i row positive within.run refl from to) (dark.inside p above below)))

-- a cell is left of the run, right of it, above it, below it, or in it
painted_cell : (w : Window) (r : Run) (old new : List Shade) (i j : ℤ) → IsWindow w → IsRunInWindow w r → IsCellOf w i j
    → AreDarkened (darkening_of w r) old new
    → shade_in w new i j ≡ darker (shade_in w old i j) (cell_shade w.scale (dots_of r) i j)
unfolding shade_in
painted_cell w r old new i j window within cell dark =
    let row = cell_of w.scale r.y in
    let a = unsigned_abs (j -ℤ (pos 2 *ℤ w.line)) in
    let b = unsigned_abs (row -ℤ (pos 2 *ℤ w.line)) in
    let positive = window.scale.least in
    by_lt_z j row
    (λ below.
    let apart = row-apart a b w.columns (omega (arith, ints, cell.bottom, within.first.bottom)) in
    let before : place_in w i j < run_start w r = omega (arith, ints, cell.left, cell.right) in
    shade_in-kept w r old new i j (dark.before (place_in w i j) before) (outside_run w r i j positive (λ u from to _ same. omega (arith, ints, same))))
    (λ from_row. by_lt_z row j
    (λ above.
    let apart = row-apart b a w.columns (omega (arith, ints, cell.bottom, within.first.bottom)) in
    let after : run_end w r ≤ place_in w i j = omega (arith, ints, within.last.left, within.last.right) in
    shade_in-kept w r old new i j (dark.after (place_in w i j) after) (outside_run w r i j positive (λ u from to _ same. omega (arith, ints, same))))
    (λ to_row.
    let same : j ≡ row = omega (arith, ints) in
    rw same (in_row w r old new i window within (rw same at cell) dark)))

pub painted_run : {w : Window} {r : Run} {old new : List Shade} → IsWindow w → IsRunInWindow w r
    → AreDarkened (darkening_of w r) old new → ArePainted w r old new
painted_run {w} {r} {old} {new} window within dark = record { count = dark.count; cells = λ i j cell. painted_cell w r old new i j window within cell dark }

-- ---- all runs

-- the cells have the shades of all dots but those of the last runs, rs
pub record ArePaintedBefore (w : Window) (ds : List Dot) (rs : List Run) (shades : List Shade) : Type 0 where
  pub passed : List Dot
  pub passes : ArePassedDots ds rs passed
  pub cells : AreCells w passed shades

pub painted_none : (w : Window) (ds : List Dot) (rs : List Run) (shades : List Shade) (n : ℕ) → IsPicture ds → rs ≡ runs_of ds → shades ≡ replicate n Blank
    → n ≡ 2 * w.lines * w.columns → ArePaintedBefore w ds rs shades
unfolding shade_in
painted_none w ds rs shades n picture all blank count = record {
  passed = [];
  passes = none_passed ds rs picture all;
  cells = grind (arith, ints, length-replicate, shade-none, get_or-replicate, place-inside);
}

pub painted_more : {w : Window} {ds : List Dot} {rs : List Run} {r : Run} {others : List Run} {old new : List Shade} → rs ≡ r ∷ others → ArePainted w r old new
    → ArePaintedBefore w ds rs old → ArePaintedBefore w ds others new
painted_more {w} {ds} {rs} {r} {others} {old} {new} first painted so_far = grind (arith, ints, one_more_passed ds rs r others so_far.passed first so_far.passes, shade-append)

pub painted_all : (w : Window) (ds : List Dot) (rs : List Run) (shades : List Shade) → rs ≡ [] → ArePaintedBefore w ds rs shades → AreCells w ds shades
painted_all w ds rs shades none so_far = subst (λ dots. AreCells w dots shades) (all_passed ds rs so_far.passed none so_far.passes) so_far.cells

-- ---- the next run lies in the window

in_window_first : (w : Window) (y x m : ℤ) (n : ℕ) (es : List Dot) → AreInWindow w (equal_dots y x m (suc n) ++ es)
    → IsCellOf w (cell_of w.scale x) (cell_of w.scale y)
unfolding equal_dots
in_window_first w y x m n es all =
    All-head (λ d. IsCellOf w (cell_of w.scale d.x) (cell_of w.scale d.y)) (record { y = y; x = x; weight = m }) (equal_dots y (x +ℤ pos 1) m n ++ es) all

in_window_last : (w : Window) (y x m : ℤ) (n : ℕ) (es : List Dot) → AreInWindow w (equal_dots y x m (suc n) ++ es)
    → IsCellOf w (cell_of w.scale (x +ℤ pos n)) (cell_of w.scale y)
unfolding equal_dots
in_window_last w y x m zero es all = grind (arith, ints, in_window_first w y x m zero es all)
in_window_last w y x m (suc n) es all =
    let same : x +ℤ pos (suc n) ≡ (x +ℤ pos 1) +ℤ pos n = omega (arith, ints) in
    rw same (in_window_last w y (x +ℤ pos 1) m n es (All-tail (λ d. IsCellOf w (cell_of w.scale d.x) (cell_of w.scale d.y))
    (record { y = y; x = x; weight = m }) (equal_dots y (x +ℤ pos 1) m (suc n) ++ es) all))

in_window_after : (w : Window) (ds es : List Dot) → AreInWindow w (ds ++ es) → AreInWindow w es
in_window_after w [] es all = all
in_window_after w (d ∷ ds) es all = in_window_after w ds es (All-tail (λ d. IsCellOf w (cell_of w.scale d.x) (cell_of w.scale d.y)) d (ds ++ es) all)

run_in_window : (w : Window) (y x m : ℤ) (n : ℕ) (es : List Dot) → 1 ≤ n → AreInWindow w (equal_dots y x m n ++ es)
    → IsCellOf w (cell_of w.scale x) (cell_of w.scale y) × IsCellOf w (cell_of w.scale ((x +ℤ pos n) -ℤ pos 1)) (cell_of w.scale y)
run_in_window w y x m zero es some all = absurd (omega arith)
run_in_window w y x m (suc n) es some all =
    let same : (x +ℤ pos (suc n)) -ℤ pos 1 ≡ x +ℤ pos n = omega (arith, ints) in
    (in_window_first w y x m n es all, rw same (in_window_last w y x m n es all))

pub next_in_window : {w : Window} {ds : List Dot} {rs : List Run} {r : Run} {others : List Run} {shades : List Shade} → AreInWindow w ds → rs ≡ r ∷ others
    → ArePaintedBefore w ds rs shades → IsRunInWindow w r
unfolding dots_of
next_in_window {w} {ds} {rs} {r} {others} {shades} all first so_far =
    let run = next_is_lawful ds rs r others so_far.passed first so_far.passes in
    let left : AreInWindow w (flat_map dots_of rs) = in_window_after w so_far.passed (flat_map dots_of rs) (subst (AreInWindow w) so_far.passes.split all) in
    let ends = run_in_window w r.y r.x r.weight r.len (flat_map dots_of others) run.some (subst (λ runs. AreInWindow w (flat_map dots_of runs)) first left) in
    record { run = run; first = ends.0; last = ends.1 }

pub start_before_end : (w : Window) (r : Run) → IsWindow w → IsRunInWindow w r → run_start w r ≤ run_end w r
start_before_end w r window within =
    grind (arith, ints, cell-le w.scale r.x ((r.x +ℤ pos r.len) -ℤ pos 1) window.scale.least (omega (arith, ints, within.run.some)))
