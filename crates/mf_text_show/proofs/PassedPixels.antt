-- Walks over the weights of a picture.
use Rattle.std.proofs.Common.{◌≡◌, ℕ, zero, suc, ◌<◌, ℤ, pos, ◌+ℤ◌, ◌-ℤ◌, ◌≤ℤ◌, Option, None, Some}
use Rattle.std.proofs.Common.{MatchOption, List, [], ◌∷◌, length, refl, subst, arith}
use Rattle.std.specs.List.{flat_map}
use Rattle.std.proofs.lemmas.Int.{ints}
use Rattle.mf_rows.specs.declared.bounds.Box4.{Box4}
use Rattle.mf_rows.specs.declared.run.Run.{Run}
use Rattle.mf_rows.specs.Boxes.{IsBoxOfField}
use Rattle.mf_rows.specs.Dots.{Dot, IsPicture, place, weight_at}
use Rattle.mf_rows.specs.Order.{AreRuns, IsRun}
use Rattle.mf_rows.specs.Runs.{dots_of, runs_of, with_next}
use Rattle.mf_rows.proofs.RunDots.{before_equal_dots-end, runs-rest, weight_at-append_after}
use Rattle.mf_rows.proofs.RunsLemmas.{dots_of-runs_of, with_next-some}
use Rattle.mf_rows.proofs.PassedRuns.{ordered_runs_of}
use Rattle.mf_text_show.specs.Grid.{shown_at, shown_row}
use Rattle.mf_text_show.specs.RunsAhead.{AreSameFrom}

-- ---- the runs ahead

-- pixels after the first run have the weights of the other runs
same_after : (r : Run) (rs : List Run) (p : ℤ) → place (r.x +ℤ pos r.len) r.y ≤ℤ p → AreSameFrom p (flat_map dots_of (r ∷ rs)) (flat_map dots_of rs)
unfolding dots_of
same_after r rs p end = grind (arith, ints, before_equal_dots-end, weight_at-append_after)

-- ---- what a walk has ahead

-- these runs are in reading order, and give the weights of these dots to all pixels from a place on
pub record AreAhead (low : ℤ) (ds : List Dot) (rs : List Run) : Type 0 where
  pub order : AreRuns rs
  pub same : AreSameFrom low ds (flat_map dots_of rs)

-- all runs of a picture, where none is passed
pub all_ahead : (low : ℤ) (ds : List Dot) (rs : List Run) → IsPicture ds → rs ≡ runs_of ds → AreAhead low ds rs
all_ahead low ds rs picture all = grind (arith, ints, ordered_runs_of, dots_of-runs_of)

pub none_passed : (low : ℤ) (all : List Run) → AreRuns all → AreAhead low (flat_map dots_of all) all
none_passed low all ordered = record { order = ordered; same = record { same = λ x y from. refl } }

-- fewer runs are ahead, and later pixels have the same weights
pub ahead_later : (low between high : ℤ) (ds : List Dot) (rs others : List Run) → low ≤ℤ high → between ≤ℤ high → AreRuns others
    → AreSameFrom between (flat_map dots_of rs) (flat_map dots_of others) → AreAhead low ds rs → AreAhead high ds others
ahead_later low between high ds rs others le more ordered later so_far = grind (arith, ints)

-- ---- runs that are passed

pub taken_is_lawful : (o : Option Run) (r : Run) (rs : List Run) → o ≡ Some r → AreRuns (with_next o rs) → IsRun r
taken_is_lawful o r rs some ordered = (subst AreRuns (with_next-some o r rs some) ordered).runs.0

-- the run that an iterator returns is the first of those that it had left
next_taken : (o : Option Run) (rs others : List Run) → MatchOption o ((rs ≡ []) × (others ≡ [])) (λ r. rs ≡ r ∷ others) → rs ≡ with_next o others
next_taken None rs others none = none.0
next_taken (Some r) rs others first = first

pub one_more_passed : {low : ℤ} {ds : List Dot} {o : Option Run} {r : Run} (p : Option Run) (rs others : List Run) → o ≡ Some r
    → place (r.x +ℤ pos r.len) r.y ≤ℤ low → MatchOption p ((rs ≡ []) × (others ≡ [])) (λ s. rs ≡ s ∷ others)
    → AreAhead low ds (with_next o rs) → AreAhead low ds (with_next p others)
one_more_passed {low} {ds} {o} {r} p rs others some end next so_far =
    let all = subst (AreAhead low ds) (with_next-some o r rs some) so_far in
    grind (arith, ints, ahead_later, runs-rest r rs all.order, same_after r rs low end, next_taken)

pub fewer_ahead : (o p : Option Run) (r : Run) (rs others : List Run) → o ≡ Some r
    → MatchOption p ((rs ≡ []) × (others ≡ [])) (λ s. rs ≡ s ∷ others) → length (with_next p others) < length (with_next o rs)
fewer_ahead o p r rs others some next = rw (← next_taken p rs others next, with_next-some o r rs some) (omega arith)

-- ---- pixels in reading order

-- the pixel from which runs are ahead has the weight that these give to it
pub weight_ahead : (x y : ℤ) {ds : List Dot} {rs : List Run} → AreAhead (place x y) ds rs → weight_at (flat_map dots_of rs) x y ≡ weight_at ds x y
weight_ahead x y so_far = so_far.same.same x y (omega (arith, ints))

-- so has each of n pixels of its row
pub row_ahead : (show : ℤ → ℕ) {ds es : List Dot} (y x : ℤ) (n : ℕ) → AreSameFrom (place x y) ds es
    → shown_row (shown_at show es y) x n ≡ shown_row (shown_at show ds y) x n
unfolding shown_row place
row_ahead show y x zero same = refl
row_ahead show {ds} {es} y x (suc n) same =
    let weight : weight_at es x y ≡ weight_at ds x y = same.same x y (omega (arith, ints)) in
    let right : AreSameFrom (place (x +ℤ pos 1) y) ds es = record { same = λ u v from. same.same u v (omega (arith, ints)) } in
    rw (weight, row_ahead show y (x +ℤ pos 1) n right) refl

pub ahead_right : (x y : ℤ) {ds : List Dot} {rs others : List Run} → AreRuns others
    → AreSameFrom (place x y) (flat_map dots_of rs) (flat_map dots_of others) → AreAhead (place x y) ds rs → AreAhead (place (x +ℤ pos 1) y) ds others
unfolding place
ahead_right x y {ds} {rs} {others} = ahead_later (place x y) (place x y) (place (x +ℤ pos 1) y) ds rs others (omega (arith, ints)) (omega (arith, ints))

pub ahead_below : {b : Box4} (y : ℤ) {ds : List Dot} {rs others : List Run} → IsBoxOfField b → AreRuns others
    → AreSameFrom (place (b.max_x +ℤ pos 1) y) (flat_map dots_of rs) (flat_map dots_of others) → AreAhead (place b.min_x y) ds rs
    → AreAhead (place b.min_x (y -ℤ pos 1)) ds others
unfolding place
ahead_below {b} y {ds} {rs} {others} box =
    ahead_later (place b.min_x y) (place (b.max_x +ℤ pos 1) y) (place b.min_x (y -ℤ pos 1)) ds rs others
    (omega (arith, ints)) (omega (arith, ints, box.left, box.right))

-- ---- the weight of the pixel (x, y), where no run is ahead

pub weight_of_none : (x y : ℤ) {ds : List Dot} {o : Option Run} (rs : List Run) → o ≡ None
    → AreSameFrom (place x y) ds (flat_map dots_of (with_next o rs)) → pos 0 ≡ weight_at ds x y
unfolding weight_at
weight_of_none x y {o = None} rs none so_far = so_far.same x y (omega (arith, ints))
weight_of_none x y {o = Some r} rs none so_far = absurd cc
