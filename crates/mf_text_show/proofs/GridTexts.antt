-- Grid texts, and pictures that are too large for them.
use Rattle.std.proofs.Common.{◌≡◌, ◌⊎◌, inl, inr, ⊎_elim, List, [], Option, None, Some, codes, true, false, ap, arith}
use Rattle.std.specs.Prelude.{MatchOption, ◌↔◌}
use Rattle.std.proofs.lemmas.Bool.{cases_lt, false≢true}
use Rattle.mf_rows.specs.declared.bounds.Box4.{Box4}
use Rattle.mf_rows.specs.Bounds.{IsLeastBox}
use Rattle.mf_rows.specs.Boxes.{IsLargerThan, box_of, extent}
use Rattle.mf_rows.specs.Dots.{Dot}
use Rattle.mf_rows.proofs.BoxesOfDots.{least_box_is, no_box}
use Rattle.mf_text_show.specs.Grid.{IsTooLargeForGrid, box_text, greatest_grid_side, grid_text, grid_text_in}

pub grid_of_box : (ds : List Dot) (b : Box4) → IsLeastBox ds b → grid_text ds ≡ box_text ds b
unfolding grid_text
grid_of_box ds b least = ap (grid_text_in ds) (least_box_is ds b least)

pub grid_of_blank : (ds : List Dot) → ds ≡ [] → grid_text ds ≡ codes "blank\n"
unfolding grid_text
grid_of_blank ds blank = ap (grid_text_in ds) (no_box ds blank)

-- whether a picture is too large can be told
pub large_or_not : (ds : List Dot) → IsTooLargeForGrid ds ⊎ (IsTooLargeForGrid ds → ⊥)
large_or_not ds = by_box (box_of ds)
  where
    by_box : (box : Option Box4) → MatchOption box ⊥ (IsLargerThan greatest_grid_side) ⊎ (MatchOption box ⊥ (IsLargerThan greatest_grid_side) → ⊥)
    by_box None = inr (λ none. none)
    by_box (Some b) =
        elim (cases_lt greatest_grid_side (extent b.min_x b.max_x)) [
          | inl wide ↦ inl (inl wide)
          | inr narrow ↦ elim (cases_lt greatest_grid_side (extent b.min_y b.max_y)) [
            | inl high ↦ inl (inr high)
            | inr low ↦ inr (⊎_elim (λ wide. omega (arith, narrow, wide)) (λ high. omega (arith, low, high)))
          ]
        ]

-- a picture whose text is not refused as too large is not
pub neither : {P Q : Type 0} → (P → ⊥) → (Q → ⊥) → P ↔ Q
neither no_p no_q = (λ p. absurd (no_p p), λ q. absurd (no_q q))

pub blank_fits : (ds : List Dot) → ds ≡ [] → IsTooLargeForGrid ds → ⊥
blank_fits ds blank large = rw (no_box ds blank) at large

-- a picture is too large exactly where its least box is
pub large_box : (ds : List Dot) (b : Box4) → IsLeastBox ds b → IsTooLargeForGrid ds ↔ IsLargerThan greatest_grid_side b
large_box ds b least = rw (least_box_is ds b least) (λ large. large, λ large. large)

pub small_box_fits : (ds : List Dot) (b : Box4) → IsLeastBox ds b → (IsLargerThan greatest_grid_side b → false ≡ true) → IsTooLargeForGrid ds → ⊥
small_box_fits ds b least test large = false≢true (test ((large_box ds b least).0 large))
