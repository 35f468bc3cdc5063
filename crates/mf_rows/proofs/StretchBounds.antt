-- Pixels of nonzero weight.
use Rattle.std.proofs.Common.{◌≢◌, ◌&&◌, ℤ, pos, List, [], ◌∷◌, refl}
use Rattle.std.specs.List.{All}
use Rattle.std.specs.Ordering.{int_eq}
use Rattle.mf_rows.specs.Dots.{Dot, weight_at}
use Rattle.std.proofs.lemmas.Bool.{and_parts, cond_both}
use Rattle.std.proofs.lemmas.Bool.Decides.{Decides-int_eq}
use Rattle.std.proofs.lemmas.List.Elements.{All-head, All-tail}

-- what holds of all dots holds of each pixel of nonzero weight
pub holds_at_weight : (P : ℤ → ℤ → Type 0) (ds : List Dot) (x y : ℤ) → All (λ d. P d.x d.y) ds → weight_at ds x y ≢ pos 0 → P x y
unfolding weight_at
holds_at_weight P [] x y all nonzero = absurd (nonzero refl)
holds_at_weight P (d ∷ ds) x y all nonzero =
    cond_both (int_eq d.x x && int_eq d.y y) d.weight (weight_at ds x y) (λ w. w ≢ pos 0 → P x y)
    (λ test _.
    let here = and_parts (int_eq d.x x) (int_eq d.y y) test in
    rw (← (Decides-int_eq d.x x).0 here.0, ← (Decides-int_eq d.y y).0 here.1) (All-head (λ d. P d.x d.y) d ds all))
    (λ _. holds_at_weight P ds x y (All-tail (λ d. P d.x d.y) d ds all)) nonzero
