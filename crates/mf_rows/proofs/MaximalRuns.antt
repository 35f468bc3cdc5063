-- Maximal runs: they are the runs of their dots, and the weights of their pixels and neighbours say that they are as long as can be.
use Rattle.std.proofs.Common.{◌≡◌, ℕ, zero, suc, ◌≤◌, ℤ, pos, ◌+ℤ◌, ◌-ℤ◌, List, [], ◌∷◌, ◌++◌, refl, sym, ◌∙◌, subst, arith, ◌≢◌, ◌≤ℤ◌, get_or}
use Rattle.std.specs.List.{All, flat_map}
use Rattle.std.proofs.lemmas.Bool.{cond-true, cond-false, false_from_ne_true}
use Rattle.std.proofs.lemmas.Int.{ints}
use Rattle.std.proofs.lemmas.List.Elements.{All-head, All-tail, All-cons, All-nil}
use Rattle.mf_rows.specs.declared.run.Run.{Run}
use Rattle.mf_rows.specs.Dots.{Dot, IsPicture, place, start_of_field, weight_at}
use Rattle.mf_rows.specs.Order.{AreRunsFrom}
use Rattle.mf_rows.specs.Runs.{equal_dots, dots_of, run_from, with_dot, runs_of, AreMaximal, IsFollowedBy, IsMaximalRun}
use Rattle.mf_rows.proofs.RunsLemmas.{Decides-continues, dots_of-runs_of, maximal_runs_of}
use Rattle.mf_rows.proofs.DotsLemmas.{weight_at-before}
use Rattle.mf_rows.proofs.PassedRuns.{ordered_runs_of}
use Rattle.mf_rows.proofs.RunDots.{runs_from-lower, dots_from-runs, weight_at-left_of, weight_at-on_first, weight_at-off_first}

-- a dot that the first run does not follow is a run of its own
with_dot-alone : (d : Dot) (rs : List Run) → AreMaximal (run_from d 0 ∷ rs) → with_dot d rs ≡ run_from d 0 ∷ rs
unfolding with_dot
with_dot-alone d [] maximal = refl
with_dot-alone d (r ∷ rs) maximal = grind (arith, ints, cond-false, false_from_ne_true, Decides-continues)

-- a run without its first column ends in the same column
maximal-shifted : (y x w : ℤ) (n : ℕ) (rs : List Run) → AreMaximal (record { y = y; x = x; len = suc (suc n); weight = w } ∷ rs)
    → AreMaximal (record { y = y; x = x +ℤ pos 1; len = suc n; weight = w } ∷ rs)
maximal-shifted y x w n [] maximal = tt
maximal-shifted y x w n (r ∷ rs) maximal = grind (arith, ints)

-- the first run of dots that begin with equal ones
pub runs_of-equal_dots : (y x w : ℤ) (n : ℕ) (ds : List Dot) → 1 ≤ n → AreMaximal (record { y = y; x = x; len = n; weight = w } ∷ runs_of ds)
    → runs_of (equal_dots y x w n ++ ds) ≡ record { y = y; x = x; len = n; weight = w } ∷ runs_of ds
unfolding runs_of equal_dots run_from with_dot
runs_of-equal_dots y x w zero ds some maximal = absurd (omega arith)
runs_of-equal_dots y x w (suc zero) ds some maximal = with_dot-alone (record { y = y; x = x; weight = w }) (runs_of ds) maximal
runs_of-equal_dots y x w (suc (suc n)) ds some maximal =
    let others = runs_of-equal_dots y (x +ℤ pos 1) w (suc n) ds (omega arith) (maximal-shifted y x w n (runs_of ds) maximal) in
    grind (arith, ints, cond-true, Decides-continues)

pub maximal-tail : (r : Run) (rs : List Run) → AreMaximal (r ∷ rs) → AreMaximal rs
maximal-tail r [] maximal = tt
maximal-tail r (s ∷ rs) maximal = maximal.1

-- maximal runs are the runs of their dots
pub runs_of-dots_of : (rs : List Run) → All (λ r. 1 ≤ r.len) rs → AreMaximal rs → runs_of (flat_map dots_of rs) ≡ rs
unfolding runs_of dots_of
runs_of-dots_of [] some maximal = refl
runs_of-dots_of (r ∷ rs) some maximal =
    let others = runs_of-dots_of rs (All-tail (λ r. 1 ≤ r.len) r rs some) (maximal-tail r rs maximal) in
    grind (arith, runs_of-equal_dots, All-head)

-- ---- the weights of pixels and neighbours

-- each run begins at or after the first place
runs_from-after : (low : ℤ) (rs : List Run) → AreRunsFrom low rs → All (λ r. low ≤ℤ place r.x r.y) rs
unfolding place
runs_from-after low [] runs = All-nil (λ r. low ≤ℤ place r.x r.y)
runs_from-after low (r ∷ rs) runs =
    let others = runs_from-lower low (place (r.x +ℤ pos r.len) r.y) rs (omega (arith, ints, runs.1)) runs.2 in
    All-cons (λ r. low ≤ℤ place r.x r.y) r rs runs.1 (runs_from-after low rs others)

-- the first of maximal runs is continued by none of the others
not_followed : (r : Run) (rs : List Run) → AreRunsFrom (place (r.x +ℤ pos r.len) r.y) rs → AreMaximal (r ∷ rs) → All (λ s. IsFollowedBy r s → ⊥) rs
unfolding place
not_followed r [] runs maximal = All-nil (λ s. IsFollowedBy r s → ⊥)
not_followed r (s ∷ rs) runs maximal =
    let others = runs_from-after (place (s.x +ℤ pos s.len) s.y) rs runs.2 in
    All-cons (λ s. IsFollowedBy r s → ⊥) s rs maximal.0
    (λ k t lt joined. omega (arith, ints, others k t lt, runs.0.some, runs.1, joined.row, joined.column))

-- so the pixel after it has another weight
weight-after : (r : Run) (rs : List Run) → r.weight ≢ pos 0 → AreRunsFrom (place (r.x +ℤ pos r.len) r.y) rs → AreMaximal (r ∷ rs)
    → weight_at (flat_map dots_of rs) (r.x +ℤ pos r.len) r.y ≢ r.weight
unfolding place weight_at
weight-after r [] some runs maximal = λ same. some (sym same)
weight-after r (s ∷ rs) some runs maximal =
    grind (arith, ints, sym, weight_at-on_first, weight_at-off_first, weight_at-before, dots_from-runs (place (s.x +ℤ pos s.len) s.y) rs runs.2)

-- a later run, which does not continue it, stays as long as it can be
IsMaximalRun-cons : (low : ℤ) (r : Run) (rs : List Run) (s : Run) → AreRunsFrom low (r ∷ rs) → place (r.x +ℤ pos r.len) r.y ≤ℤ place s.x s.y
    → (IsFollowedBy r s → ⊥) → IsMaximalRun (flat_map dots_of rs) s → IsMaximalRun (flat_map dots_of (r ∷ rs)) s
unfolding place
IsMaximalRun-cons low r rs s runs after apart maximal = grind (arith, ints, weight_at-off_first, sym, weight_at-on_first)

longest : (low : ℤ) (rs : List Run) → AreRunsFrom low rs → AreMaximal rs → All (IsMaximalRun (flat_map dots_of rs)) rs
longest low [] runs maximal = All-nil (IsMaximalRun [])
longest low (r ∷ rs) runs maximal =
    let end = place (r.x +ℤ pos r.len) r.y in
    let others = longest end rs runs.2 (maximal-tail r rs maximal) in
    All-cons (IsMaximalRun (flat_map dots_of (r ∷ rs))) r rs
    (record {
      some = runs.0.some;
      nonzero = runs.0.nonzero;
      inside = λ i lt. weight_at-on_first low r rs (r.x +ℤ pos i) r.y runs (record { row = refl; left = omega (arith, ints); right = omega (arith, ints) });
      left = λ same. runs.0.nonzero (sym same ∙ weight_at-off_first r rs (r.x -ℤ pos 1) r.y (λ on. omega (arith, ints, on.left))
          ∙ weight_at-left_of (r.x +ℤ pos r.len) r.y (r.x -ℤ pos 1) rs runs.2 (omega (arith, ints)));
      right = λ same. weight-after r rs runs.0.nonzero runs.2 maximal (sym (weight_at-off_first r rs (r.x +ℤ pos r.len) r.y (λ on. omega (arith, ints, on.right))) ∙ same);
    })
    (λ k s lt. IsMaximalRun-cons low r rs (get_or rs k s) runs (runs_from-after end rs runs.2 k s lt) (not_followed r rs runs.2 maximal k s lt) (others k s lt))

-- each run of dots has at least one pixel, and is as long as it can be
pub longest_runs : (ds : List Dot) → IsPicture ds → All (IsMaximalRun ds) (runs_of ds)
longest_runs ds picture =
    subst (λ es. All (IsMaximalRun es) (runs_of ds)) (dots_of-runs_of ds)
    (longest start_of_field (runs_of ds) (ordered_runs_of ds picture).runs (maximal_runs_of ds))
