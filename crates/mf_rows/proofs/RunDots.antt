-- The dots of a run, dots followed by a run, and the dots of runs in reading order.
use Rattle.std.proofs.Common.{◌≡◌, ◌≢◌, ℕ, zero, suc, ◌&&◌, if◌then◌else◌, ℤ, pos, ◌+ℤ◌, ◌≤ℤ◌, ◌<ℤ◌, List, [], ◌∷◌, ◌++◌}
use Rattle.std.proofs.Common.{refl, ap, append-nil, ◌∙◌, arith}
use Rattle.std.specs.List.{All, flat_map}
use Rattle.std.specs.Ordering.{int_eq}
use Rattle.std.proofs.lemmas.Int.{ints, by_lt_z}
use Rattle.std.proofs.lemmas.List.Elements.{All-nil, All-cons, All-head, All-tail, All-weaker}
use Rattle.mf_rows.specs.declared.run.Run.{Run}
use Rattle.mf_rows_edges.specs.LawfulWeights.{IsLawfulWeight}
use Rattle.mf_rows.specs.Dots.{Dot, AreDotsFrom, place, start_of_field, weight_at}
use Rattle.mf_rows.specs.Order.{AreBefore, IsRun, AreRunsFrom, AreRuns, Fits}
use Rattle.mf_rows.specs.Runs.{equal_dots, dots_of}
use Rattle.mf_rows.proofs.DotsLemmas.{weight_at-here, weight_at-elsewhere, weight_at-after, weight_at-before, not_at, dots_from-lower, dots_from-append}
use Rattle.mf_rows.proofs.PlacesLemmas.{AreFieldColumns, by_same, first_column, next_columns, place-next}

pub equal_dots-from : (y x w : ℤ) (n : ℕ) → AreFieldColumns x y n → IsLawfulWeight w → w ≢ pos 0 → AreDotsFrom (place x y) (equal_dots y x w n)
unfolding equal_dots
equal_dots-from y x w zero columns lawful nonzero = tt
equal_dots-from y x w (suc n) columns lawful nonzero =
    grind (arith, ints, first_column, place-next, next_columns, equal_dots-from y (x +ℤ pos 1) w n (next_columns x y n columns) lawful nonzero)

-- a pixel of a run
pub record IsOnRun (r : Run) (x y : ℤ) : Type 0 where
  pub row : r.y ≡ y
  pub left : r.x ≤ℤ x
  pub right : x <ℤ (r.x +ℤ pos r.len)

-- a pixel is on a run or not
pub by_on_run : {P : Type 0} (r : Run) (x y : ℤ) → (IsOnRun r x y → P) → ((IsOnRun r x y → ⊥) → P) → P
by_on_run r x y on off = grind (arith, ints, by_same, by_lt_z)

pub weight_at-equal_dots : (y x w : ℤ) (n : ℕ) (u : ℤ) → x ≤ℤ u → u <ℤ (x +ℤ pos n) → weight_at (equal_dots y x w n) u y ≡ w
unfolding equal_dots
weight_at-equal_dots y x w zero u left right = absurd (omega (arith, ints))
weight_at-equal_dots y x w (suc n) u left right =
    by_lt_z x u (λ later. grind (arith, ints, weight_at-elsewhere, weight_at-equal_dots y (x +ℤ pos 1) w n u (omega (arith, ints)) (omega (arith, ints))))
    (λ here. grind (arith, ints, weight_at-here))

-- equal dots without that pixel do not affect it
weight_at-skip : (y x w : ℤ) (n : ℕ) (ds : List Dot) (u v : ℤ) → (y ≡ v → x ≤ℤ u → u <ℤ (x +ℤ pos n) → ⊥)
    → weight_at (equal_dots y x w n ++ ds) u v ≡ weight_at ds u v
unfolding equal_dots
weight_at-skip y x w zero ds u v off = refl
weight_at-skip y x w (suc n) ds u v off =
    grind (arith, ints, weight_at-elsewhere, weight_at-skip y (x +ℤ pos 1) w n ds u v (λ row left right. off row (omega (arith, ints)) (omega (arith, ints))))

-- dots that all come before a pixel do not affect it
pub weight_at-append_after : (ds es : List Dot) (x y : ℤ) → AreBefore (place x y) ds → weight_at (ds ++ es) x y ≡ weight_at es x y
weight_at-append_after [] es x y before = refl
weight_at-append_after (d ∷ ds) es x y before =
    grind (arith, ints, weight_at-elsewhere, not_at, All-head, weight_at-append_after ds es x y (All-tail (λ d. place d.x d.y <ℤ place x y) d ds before))

-- nor do dots at the end that give the pixel weight 0
pub weight_at-append_none : (ds es : List Dot) (x y : ℤ) → weight_at es x y ≡ pos 0 → weight_at (ds ++ es) x y ≡ weight_at ds x y
unfolding weight_at
weight_at-append_none [] es x y none = none
weight_at-append_none (d ∷ ds) es x y none = ap (λ others. if int_eq d.x x && int_eq d.y y then d.weight else others) (weight_at-append_none ds es x y none)

pub place-le : (x u y : ℤ) → x ≤ℤ u → place x y ≤ℤ place u y
unfolding place
place-le x u y le = omega (arith, ints)

-- dots before a run come before each of its pixels
before_pixel : (ds : List Dot) (r : Run) (x y : ℤ) → Fits ds r → IsOnRun r x y → AreBefore (place x y) ds
before_pixel ds r x y fits on =
    let further = place-le r.x x r.y on.left in
    rw (← on.row) (All-weaker (λ d. place d.x d.y <ℤ place r.x r.y) (λ d. place d.x d.y <ℤ place x r.y) (λ d lower. omega (arith, ints)) ds fits.before)

pub weight_at-before_run : (ds : List Dot) (r : Run) (x y : ℤ) → Fits ds r → IsOnRun r x y → weight_at ds x y ≡ pos 0
weight_at-before_run ds r x y fits on = weight_at-after ds x y (before_pixel ds r x y fits on)

-- a pushed run gives its weight to its pixels
pub weight_at-on_run : (ds : List Dot) (r : Run) (x y : ℤ) → Fits ds r → IsOnRun r x y → weight_at (ds ++ dots_of r) x y ≡ r.weight
unfolding dots_of
weight_at-on_run ds r x y fits on =
    weight_at-append_after ds (dots_of r) x y (before_pixel ds r x y fits on)
    ∙ rw (← on.row) (weight_at-equal_dots r.y r.x r.weight r.len x on.left on.right)

-- and every other pixel keeps its weight
pub weight_at-off_run : (ds : List Dot) (r : Run) (x y : ℤ) → (IsOnRun r x y → ⊥) → weight_at (ds ++ dots_of r) x y ≡ weight_at ds x y
unfolding dots_of weight_at
weight_at-off_run ds r x y off =
    let skipped = weight_at-skip r.y r.x r.weight r.len [] x y (λ row left right. off (record { row = row; left = left; right = right })) in
    weight_at-append_none ds (equal_dots r.y r.x r.weight r.len) x y (rw append-nil at skipped)

pub before_equal_dots-end : (y x w : ℤ) (n : ℕ) (p : ℤ) → place (x +ℤ pos n) y ≤ℤ p → AreBefore p (equal_dots y x w n)
unfolding equal_dots place
before_equal_dots-end y x w zero p end = All-nil (λ d. place d.x d.y <ℤ p)
before_equal_dots-end y x w (suc n) p end = grind (arith, ints, All-cons, before_equal_dots-end y (x +ℤ pos 1) w n p (omega (arith, ints)))

-- ---- runs in reading order

pub runs_from-lower : (low high : ℤ) (rs : List Run) → low ≤ℤ high → AreRunsFrom high rs → AreRunsFrom low rs
runs_from-lower low high [] le runs = tt
runs_from-lower low high (r ∷ rs) le runs = let start : high ≤ℤ place r.x r.y = runs.1 in (runs.0, omega (arith, ints), runs.2)

pub runs_from-lawful : (low : ℤ) (rs : List Run) → AreRunsFrom low rs → All IsRun rs
runs_from-lawful low [] runs = All-nil IsRun
runs_from-lawful low (r ∷ rs) runs = All-cons IsRun r rs runs.0 (runs_from-lawful (place (r.x +ℤ pos r.len) r.y) rs runs.2)

-- the runs after the first are in reading order, too
pub runs-rest : (r : Run) (rs : List Run) → AreRuns (r ∷ rs) → AreRuns rs
unfolding place
runs-rest r rs ordered = record { runs = runs_from-lower start_of_field (place (r.x +ℤ pos r.len) r.y) rs (omega (arith, ints, ordered.runs.1)) ordered.runs.2 }

-- the dots of runs in reading order are in reading order, too
pub dots_from-run : (r : Run) → IsRun r → AreDotsFrom (place r.x r.y) (dots_of r)
unfolding dots_of
dots_from-run r run =
    let columns : AreFieldColumns r.x r.y r.len = record { left = run.left; right = run.right; bottom = run.bottom; top = run.top } in
    equal_dots-from r.y r.x r.weight r.len columns run.lawful run.nonzero

pub dots_from-runs : (low : ℤ) (rs : List Run) → AreRunsFrom low rs → AreDotsFrom low (flat_map dots_of rs)
unfolding dots_of
dots_from-runs low [] runs = tt
dots_from-runs low (r ∷ rs) runs =
    let end = place (r.x +ℤ pos r.len) r.y in
    let further = place-le r.x (r.x +ℤ pos r.len) r.y (omega (arith, ints)) in
    dots_from-append low end (dots_of r) (flat_map dots_of rs) (omega (arith, ints, runs.1))
    (dots_from-lower low (place r.x r.y) (dots_of r) runs.1 (dots_from-run r runs.0))
    (before_equal_dots-end r.y r.x r.weight r.len end (omega (arith, ints))) (dots_from-runs end rs runs.2)

-- to the left of the first run of its row a pixel has weight 0
pub weight_at-left_of : (x y u : ℤ) (rs : List Run) → AreRunsFrom (place x y) rs → u <ℤ x → weight_at (flat_map dots_of rs) u y ≡ pos 0
unfolding place
weight_at-left_of x y u rs runs lt = weight_at-before (place x y) (flat_map dots_of rs) u y (dots_from-runs (place x y) rs runs) (omega (arith, ints))

-- the pixels of the first run have its weight, and it does not affect any other
pub weight_at-on_first : (low : ℤ) (r : Run) (rs : List Run) (x y : ℤ) → AreRunsFrom low (r ∷ rs) → IsOnRun r x y
    → weight_at (flat_map dots_of (r ∷ rs)) x y ≡ r.weight
unfolding dots_of
weight_at-on_first low r rs x y runs on = grind (arith, ints, weight_at-append_none, weight_at-left_of, weight_at-equal_dots)

pub weight_at-off_first : (r : Run) (rs : List Run) (x y : ℤ) → (IsOnRun r x y → ⊥)
    → weight_at (flat_map dots_of (r ∷ rs)) x y ≡ weight_at (flat_map dots_of rs) x y
unfolding dots_of
weight_at-off_first r rs x y off =
    weight_at-skip r.y r.x r.weight r.len (flat_map dots_of rs) x y (λ row left right. off (record { row = row; left = left; right = right }))
