-- The dots of a picture, weight by weight.
use Rattle.std.proofs.Common.{◌≡◌, ◌≢◌, ℕ, zero, suc, false, if◌then◌else◌, ℤ, pos, ◌+ℤ◌, ◌≤ℤ◌, ◌<ℤ◌, List, [], ◌∷◌, ◌++◌}
use Rattle.std.proofs.Common.{inl, inr, refl, sym, ◌∙◌, subst, arith}
use Rattle.std.specs.List.{All, flat_map}
use Rattle.std.specs.Ordering.{int_eq}
use Rattle.std.proofs.lemmas.Bool.{cond_both, cond-true, cond-false, cases_Bool, false≢true}
use Rattle.std.proofs.lemmas.Bool.Decides.{Decides-and, Decides-int_eq}
use Rattle.std.proofs.lemmas.Int.{ints}
use Rattle.std.proofs.lemmas.List.Elements.{All-head, All-tail, All-cons, All-nil, All-weaker}
use Rattle.mf_rows.specs.declared.run.Run.{Run}
use Rattle.mf_rows.specs.Dots.{Dot, AreDotsFrom, place, weight_at}
use Rattle.mf_rows.specs.Runs.{equal_dots, dots_of}
use Rattle.mf_rows.proofs.DotsLemmas.{IsAt, dots_from-after, dots_from-lawful, weight_at-here, weight_at-elsewhere}
use Rattle.mf_view_image.specs.Svg.{weights_of}

-- the dots of this weight
unfoldable pub dots_with : ℤ → List Dot → List Dot
dots_with w [] = []
dots_with w (d ∷ ds) = if int_eq d.weight w then d ∷ dots_with w ds else dots_with w ds

-- the dots of n weights from w on, weight by weight
unfoldable pub dots_by_weight : List Dot → ℤ → ℕ → List Dot
dots_by_weight ds w zero = []
dots_by_weight ds w (suc n) = dots_with w ds ++ dots_by_weight ds (w +ℤ pos 1) n

pub dots_with-append : (w : ℤ) (ds es : List Dot) → dots_with w (ds ++ es) ≡ dots_with w ds ++ dots_with w es
unfolding dots_with
dots_with-append w [] es = refl
dots_with-append w (d ∷ ds) es = grind (arith, ints, cond_both, dots_with-append w ds es)

pub dots_with-same : (w y x : ℤ) (n : ℕ) → dots_with w (equal_dots y x w n) ≡ equal_dots y x w n
unfolding dots_with equal_dots
dots_with-same w y x zero = refl
dots_with-same w y x (suc n) = grind (arith, ints, cond-true, dots_with-same w y (x +ℤ pos 1) n)

pub dots_with-other : (w v y x : ℤ) (n : ℕ) → int_eq v w ≡ false → dots_with w (equal_dots y x v n) ≡ []
unfolding dots_with equal_dots
dots_with-other w v y x zero other = refl
dots_with-other w v y x (suc n) other = cond-false (int_eq v w) _ _ other ∙ dots_with-other w v y (x +ℤ pos 1) n other

-- ---- a pixel among the dots of a weight

-- a pixel is there, or is not
at_or_not : (P : Type 0) (d : Dot) (x y : ℤ) → (IsAt d x y → P) → ((IsAt d x y → ⊥) → P) → P
at_or_not P d x y here elsewhere = grind (arith, ints, Decides-and, Decides-int_eq, cases_Bool)

-- no dot of weight w is at the pixel, so the dots of weight w do not affect it
weight_at-without : (w : ℤ) (ds es : List Dot) (x y : ℤ) → All (λ d. d.weight ≡ w → IsAt d x y → ⊥) ds → weight_at (dots_with w ds ++ es) x y ≡ weight_at es x y
unfolding dots_with
weight_at-without w [] es x y none = refl
weight_at-without w (d ∷ ds) es x y none =
    let rest = weight_at-without w ds es x y (All-tail (λ d. d.weight ≡ w → IsAt d x y → ⊥) d ds none) in
    cond_both (int_eq d.weight w) (d ∷ dots_with w ds) (dots_with w ds) (λ all. weight_at (all ++ es) x y ≡ weight_at es x y)
    (λ yes. weight_at-elsewhere d (dots_with w ds ++ es) x y (All-head (λ d. d.weight ≡ w → IsAt d x y → ⊥) d ds none ((Decides-int_eq d.weight w).0 yes))
    ∙ rest)
    (λ no. rest)

-- the pixel has weight w, so it has it among the dots of weight w
weight_at-with : (w : ℤ) (ds es : List Dot) (x y : ℤ) → w ≢ pos 0 → weight_at ds x y ≡ w → weight_at (dots_with w ds ++ es) x y ≡ w
unfolding dots_with weight_at
weight_at-with w [] es x y nonzero weight = absurd (nonzero (sym weight))
weight_at-with w (d ∷ ds) es x y nonzero weight =
    at_or_not (weight_at (dots_with w (d ∷ ds) ++ es) x y ≡ w) d x y
    (grind (arith, ints, weight_at-here, cond-true))
    (λ elsewhere.
    grind (arith, ints, weight_at-elsewhere, cond_both, weight_at-with w ds es x y nonzero (sym (weight_at-elsewhere d ds x y elsewhere) ∙ weight)))

-- ---- a picture

-- no dot of a weight is at a pixel that has another weight, nor where the weight is 0
none_of : (low w : ℤ) (ds : List Dot) (x y : ℤ) → AreDotsFrom low ds → weight_at ds x y ≢ w → All (λ d. d.weight ≡ w → IsAt d x y → ⊥) ds
none_of low w [] x y dots other = All-nil (λ d. d.weight ≡ w → IsAt d x y → ⊥)
none_of low w (d ∷ ds) x y dots other =
    at_or_not (All (λ d. d.weight ≡ w → IsAt d x y → ⊥) (d ∷ ds)) d x y
    (λ here.
    let same : place d.x d.y ≡ place x y = rw (here.column, here.row) refl in
    All-cons (λ d. d.weight ≡ w → IsAt d x y → ⊥) d ds (λ weight _. other (weight_at-here d ds x y here ∙ weight))
    (All-weaker (λ d. IsAt d x y → ⊥) (λ d. d.weight ≡ w → IsAt d x y → ⊥) (λ e no _. no) ds
    (grind (arith, ints, dots_from-after (place d.x d.y +ℤ pos 1) ds dots.2, dots.2))))
    (λ elsewhere. All-cons (λ d. d.weight ≡ w → IsAt d x y → ⊥) d ds (λ _ at. elsewhere at)
    (none_of (place d.x d.y +ℤ pos 1) w ds x y dots.2 (λ same. other (weight_at-elsewhere d ds x y elsewhere ∙ same))))

none_of_zero : (low : ℤ) (ds : List Dot) (x y : ℤ) → AreDotsFrom low ds → All (λ d. d.weight ≡ pos 0 → IsAt d x y → ⊥) ds
none_of_zero low ds x y dots = grind (arith, ints, dots_from-lawful low ds dots)

-- a pixel whose weight is below all of these weights has no dot among theirs
weight_at-lesser : (low : ℤ) (ds : List Dot) (w : ℤ) (n : ℕ) (x y : ℤ) → AreDotsFrom low ds → weight_at ds x y <ℤ w
    → weight_at (dots_by_weight ds w n) x y ≡ pos 0
unfolding dots_by_weight weight_at
weight_at-lesser low ds w zero x y dots less = refl
weight_at-lesser low ds w (suc n) x y dots less =
    weight_at-without w ds (dots_by_weight ds (w +ℤ pos 1) n) x y (none_of low w ds x y dots (λ same. omega (arith, ints)))
    ∙ weight_at-lesser low ds (w +ℤ pos 1) n x y dots (omega (arith, ints))

-- a pixel whose weight is one of these has it among their dots
pub weight_at-dots_by_weight : (low : ℤ) (ds : List Dot) (w : ℤ) (n : ℕ) (x y : ℤ) → AreDotsFrom low ds → w ≤ℤ weight_at ds x y
    → weight_at ds x y <ℤ (w +ℤ pos n) → weight_at (dots_by_weight ds w n) x y ≡ weight_at ds x y
unfolding dots_by_weight
weight_at-dots_by_weight low ds w zero x y dots least greatest = absurd (omega (arith, ints))
weight_at-dots_by_weight low ds w (suc n) x y dots least greatest =
    let v = weight_at ds x y in
    let others = dots_by_weight ds (w +ℤ pos 1) n in
    elim (cases_Bool (int_eq v w)) [
      | inl matches ↦
          (let same : v ≡ w = (Decides-int_eq v w).0 matches in
          elim (cases_Bool (int_eq w (pos 0))) [
            | inl blank ↦
                (let none : w ≡ pos 0 = (Decides-int_eq w (pos 0)).0 blank in
                weight_at-without w ds others x y (subst (λ u. All (λ d. d.weight ≡ u → IsAt d x y → ⊥) ds) (sym none) (none_of_zero low ds x y dots))
                ∙ weight_at-lesser low ds (w +ℤ pos 1) n x y dots (omega (arith, ints)) ∙ sym none ∙ sym same)
            | inr shown ↦ weight_at-with w ds others x y (λ none. false≢true (sym shown ∙ (Decides-int_eq w (pos 0)).1 none)) same ∙ sym same
          ])
      | inr differs ↦
          (let other : v ≢ w = λ same. false≢true (sym differs ∙ (Decides-int_eq v w).1 same) in
          weight_at-without w ds others x y (none_of low w ds x y dots other)
          ∙ weight_at-dots_by_weight low ds (w +ℤ pos 1) n x y dots (above w v least other) (omega (arith, ints)))
    ]
  where
    above : (u v : ℤ) → u ≤ℤ v → v ≢ u → (u +ℤ pos 1) ≤ℤ v
    above u v le other = grind (arith, ints)

-- ---- the weights of runs

weight_at-equal_dots : (P : ℤ → Type 0) (y x w : ℤ) (n : ℕ) (es : List Dot) (u v : ℤ) → P w → P (weight_at es u v)
    → P (weight_at (equal_dots y x w n ++ es) u v)
unfolding equal_dots weight_at
weight_at-equal_dots P y x w zero es u v here others = others
weight_at-equal_dots P y x w (suc n) es u v here others = grind (arith, ints, cond_both, weight_at-equal_dots P y (x +ℤ pos 1) w n es u v here others)

-- what holds for 0 and for the weights of all runs holds for the weight of each pixel
pub weight_of_runs : (P : ℤ → Type 0) (rs : List Run) (x y : ℤ) → P (pos 0) → All P (weights_of rs) → P (weight_at (flat_map dots_of rs) x y)
unfolding weight_at dots_of
weight_of_runs P [] x y none all = none
weight_of_runs P (r ∷ rs) x y none all =
    weight_at-equal_dots P r.y r.x r.weight r.len (flat_map dots_of rs) x y (All-head P r.weight (weights_of rs) all)
    (weight_of_runs P rs x y none (All-tail P r.weight (weights_of rs) all))
