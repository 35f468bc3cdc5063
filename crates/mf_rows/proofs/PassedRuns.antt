-- The dots of a picture before those of its last runs.
use Rattle.std.proofs.Common.{◌≡◌, ℕ, suc, ℤ, pos, ◌+ℤ◌, ◌≤ℤ◌, List, [], ◌∷◌, ◌++◌, sym, ◌∙◌, arith}
use Rattle.std.specs.List.{All, flat_map}
use Rattle.std.proofs.lemmas.Bool.{cond_both}
use Rattle.std.proofs.lemmas.Int.{ints}
use Rattle.std.proofs.lemmas.List.{append-nil, append_assoc}
use Rattle.std.proofs.lemmas.List.Elements.{All-head, All-rest, All-same}
use Rattle.mf_geom.specs.Coordinates.{greatest_coordinate}
use Rattle.mf_rows.specs.declared.run.Run.{Run}
use Rattle.mf_rows.specs.Dots.{Dot, IsDot, IsPicture, AreDotsFrom, place, start_of_field}
use Rattle.mf_rows.specs.Order.{IsRun, AreRunsFrom, AreRuns}
use Rattle.mf_rows.specs.Runs.{continues, dots_of, run_from, with_dot, runs_of}
use Rattle.mf_rows.proofs.RunDots.{runs_from-lower, runs_from-lawful}
use Rattle.mf_rows.proofs.RunsLemmas.{Decides-continues, dots_of-runs_of}

-- a run that begins at a dot is lawful where it ends in the field
run_from_dot : (d : Dot) (n : ℕ) → IsDot d → (d.x +ℤ pos (suc n)) ≤ℤ greatest_coordinate → IsRun (run_from d n)
unfolding run_from
run_from_dot d n dot right = grind (arith, ints)

runs_from-with_dot : (low : ℤ) (d : Dot) (rs : List Run) → IsDot d → low ≤ℤ place d.x d.y
    → AreRunsFrom (place d.x d.y +ℤ pos 1) rs → AreRunsFrom low (with_dot d rs)
unfolding with_dot run_from place
runs_from-with_dot low d [] dot le runs = (run_from_dot d 0 dot (omega (arith, ints, dot.in_field.right)), le, tt)
runs_from-with_dot low d (r ∷ rs) dot le runs =
    cond_both (continues d r) (run_from d r.len ∷ rs) (run_from d 0 ∷ r ∷ rs) (AreRunsFrom low)
    (λ yes.
    let joined = (Decides-continues d r).0 yes in
    (run_from_dot d r.len dot (omega (arith, ints, joined.column, runs.0.right)), le, runs_from-lower _ _ rs (omega (arith, ints, joined.row, joined.column)) runs.2))
    (λ _. (run_from_dot d 0 dot (omega (arith, ints, dot.in_field.right)), le, (runs.0, omega (arith, ints, runs.1), runs.2)))

-- the runs of dots in reading order are in reading order, lie in the field, and have lawful weights
runs_from-runs_of : (low : ℤ) (ds : List Dot) → AreDotsFrom low ds → AreRunsFrom low (runs_of ds)
unfolding runs_of
runs_from-runs_of low [] dots = tt
runs_from-runs_of low (d ∷ ds) dots = runs_from-with_dot low d (runs_of ds) dots.0 dots.1 (runs_from-runs_of (place d.x d.y +ℤ pos 1) ds dots.2)

pub ordered_runs_of : (ds : List Dot) → IsPicture ds → AreRuns (runs_of ds)
ordered_runs_of ds picture = record { runs = runs_from-runs_of start_of_field ds picture.dots }

pub lawful_runs_of : (ds : List Dot) → IsPicture ds → All IsRun (runs_of ds)
lawful_runs_of ds picture = runs_from-lawful start_of_field (runs_of ds) (ordered_runs_of ds picture).runs

pub runs_are_lawful : (ds : List Dot) (rs : List Run) → IsPicture ds → rs ≡ runs_of ds → All IsRun rs
runs_are_lawful ds rs picture all = rw all (lawful_runs_of ds picture)

-- the first dots are those before the dots of the last runs
pub record ArePassedDots (ds : List Dot) (rs : List Run) (passed : List Dot) : Type 0 where
  pub split : ds ≡ passed ++ flat_map dots_of rs
  pub runs : All IsRun rs

pub none_passed : (ds : List Dot) (rs : List Run) → IsPicture ds → rs ≡ runs_of ds → ArePassedDots ds rs []
none_passed ds rs picture all = rw all (record { split = sym (dots_of-runs_of ds); runs = lawful_runs_of ds picture })

-- the first of the last runs is lawful, and is passed next
pub next_is_lawful : (ds : List Dot) (rs : List Run) (r : Run) (others : List Run) (passed : List Dot) → rs ≡ r ∷ others → ArePassedDots ds rs passed → IsRun r
next_is_lawful ds rs r others passed first so_far = All-head IsRun r others (All-same IsRun (r ∷ others) rs (sym first) so_far.runs)

pub one_more_passed : (ds : List Dot) (rs : List Run) (r : Run) (others : List Run) (passed : List Dot)
    → rs ≡ r ∷ others → ArePassedDots ds rs passed → ArePassedDots ds others (passed ++ dots_of r)
one_more_passed ds rs r others passed first so_far = record {
  split = so_far.split ∙ rw first (sym (append_assoc passed (dots_of r) (flat_map dots_of others)));
  runs = All-rest IsRun r others rs first so_far.runs;
}

pub all_passed : (ds : List Dot) (rs : List Run) (passed : List Dot) → rs ≡ [] → ArePassedDots ds rs passed → passed ≡ ds
all_passed ds rs passed none so_far = sym (so_far.split ∙ rw none (append-nil passed))
