-- The runs of dots.
use Rattle.std.proofs.Common.{◌≡◌, ℕ, suc, Bool, true, false, if◌then◌else◌, Option, Some, List, [], ◌∷◌, drop, refl, sym, ap, ◌∙◌, arith}
use Rattle.std.specs.Bool.{Decides}
use Rattle.std.specs.List.{flat_map}
use Rattle.std.proofs.lemmas.Bool.{false≢true, cond_both}
use Rattle.std.proofs.lemmas.Bool.Decides.{Decides-int_eq, Decides-and, Decides-like}
use Rattle.std.proofs.lemmas.Int.{ints}
use Rattle.mf_rows.specs.declared.run.Run.{Run}
use Rattle.mf_rows.specs.Dots.{Dot}
use Rattle.mf_rows.specs.Runs.{equal_dots, dots_of, continues, run_from, with_dot, runs_of, with_next, IsFollowedBy, AreMaximal}

-- a dot continues a run exactly where the run follows that of the dot alone
pub Decides-continues : (d : Dot) (r : Run) → Decides (continues d r) (IsFollowedBy (run_from d 0) r)
unfolding continues run_from
Decides-continues d r = grind (arith, ints, Decides-like, Decides-and, Decides-int_eq)

-- a run with one more dot at its left end has that dot and its own dots
dots_of-run_from : (d : Dot) (r : Run) → IsFollowedBy (run_from d 0) r → dots_of (run_from d r.len) ≡ d ∷ dots_of r
unfolding run_from dots_of equal_dots
dots_of-run_from d r followed = ap (λ others. d ∷ others) (rw (← followed.row, ← followed.column, ← followed.weight) refl)

dots_of-with_dot : (d : Dot) (rs : List Run) → flat_map dots_of (with_dot d rs) ≡ d ∷ flat_map dots_of rs
unfolding with_dot run_from dots_of equal_dots
dots_of-with_dot d [] = refl
dots_of-with_dot d (r ∷ rs) = grind (arith, ints, cond_both, dots_of-run_from, Decides-continues)

-- the dots of the runs are the dots
pub dots_of-runs_of : (ds : List Dot) → flat_map dots_of (runs_of ds) ≡ ds
unfolding runs_of
dots_of-runs_of [] = refl
dots_of-runs_of (d ∷ ds) = dots_of-with_dot d (runs_of ds) ∙ ap (λ others. d ∷ others) (dots_of-runs_of ds)

-- a lengthened run ends where it did, so the next run does not follow it either
maximal_lengthened : (d : Dot) (r : Run) (rs : List Run) → IsFollowedBy (run_from d 0) r → AreMaximal (r ∷ rs) → AreMaximal (run_from d r.len ∷ rs)
unfolding run_from
maximal_lengthened d r [] joined maximal = tt
maximal_lengthened d r (s ∷ rs) joined maximal = grind (arith, ints, sym)

maximal_with_dot : (d : Dot) (rs : List Run) → AreMaximal rs → AreMaximal (with_dot d rs)
unfolding with_dot
maximal_with_dot d [] maximal = tt
maximal_with_dot d (r ∷ rs) maximal = grind (arith, ints, cond_both, maximal_lengthened, Decides-continues, false≢true, sym)

-- no run of the dots could be longer
pub maximal_runs_of : (ds : List Dot) → AreMaximal (runs_of ds)
unfolding runs_of
maximal_runs_of [] = tt
maximal_runs_of (d ∷ ds) = maximal_with_dot d (runs_of ds) (maximal_runs_of ds)

-- how many of the dots after a dot belong to its run
unfoldable pub more_after : Dot → List Dot → ℕ
more_after d [] = 0
more_after d (e ∷ es) = if continues d (run_from e 0) then suc (more_after e es) else 0

-- a dot before a run, which it continues or not
first_split : (b : Bool) (d e : Dot) (es : List Dot) (r : Run) (n : ℕ) → r ∷ runs_of (drop n es) ≡ runs_of (e ∷ es)
    → (if b then (run_from d (suc n) ∷ runs_of (drop n es)) else (run_from d 0 ∷ r ∷ runs_of (drop n es)))
    ≡ run_from d (if b then suc n else 0) ∷ runs_of (drop (if b then suc n else 0) (e ∷ es))
first_split true d e es r n same = refl
first_split false d e es r n same = ap (λ rs. run_from d 0 ∷ rs) same

-- the first run takes the dots that lengthen it, and the others come after them
pub runs_of-first : (d : Dot) (ds : List Dot) → runs_of (d ∷ ds) ≡ run_from d (more_after d ds) ∷ runs_of (drop (more_after d ds) ds)
unfolding runs_of with_dot more_after continues run_from
runs_of-first d [] = refl
runs_of-first d (e ∷ es) = grind (arith, ints, first_split, sym, runs_of-first e es)

-- the run that an iterator returned is the first
pub with_next-some : (o : Option Run) (r : Run) (rs : List Run) → o ≡ Some r → with_next o rs ≡ r ∷ rs
with_next-some o r rs some = rw some refl

-- what `runs_are_maximal` says
pub ruleset maximal_runs = (dots_of-runs_of, maximal_runs_of)
