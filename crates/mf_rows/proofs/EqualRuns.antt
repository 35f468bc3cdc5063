-- Pictures are equal exactly where a walk over the runs of both finds them equal.
use Rattle.std.proofs.Common.{◌≡◌, Bool, true, false, Option, Some, None, MatchOption, IfSome, List, [], ◌∷◌, refl, ap, sym, subst, ◌∙◌, arith}
use Rattle.std.specs.Bool.{Decides}
use Rattle.std.specs.Iterator.{YieldsFirst, YieldsThen, ComparesItemsByEq}
use Rattle.std.specs.List.{AllZip, flat_map}
use Rattle.std.proofs.lemmas.Bool.{false≢true}
use Rattle.std.proofs.lemmas.Bool.Decides.{Decides-int_eq, Decides-eqb, Decides-and, Decides-like, not_from_Decides}
use Rattle.mf_rows.specs.declared.run.Run.{Run}
use Rattle.mf_rows.specs.contracts.run.RunPartialEq.TheImpl as run_eq
use Rattle.mf_rows.specs.Dots.{Dot, IsPicture}
use Rattle.mf_rows.specs.Runs.{dots_of, runs_of}
use Rattle.mf_rows.specs.Weights.{HaveSameWeights}
use Rattle.mf_rows.proofs.RunsLemmas.{dots_of-runs_of}
use Rattle.mf_rows.proofs.WeightsLemmas.{same_pictures}

same_run : (r s : Run) → r.y ≡ s.y → r.x ≡ s.x → r.len ≡ s.len → r.weight ≡ s.weight → r ≡ s
same_run r s row column length weight = λ i. record { y = row i; x = column i; len = length i; weight = weight i }

-- runs compare as equal exactly where they are
pub run_decides : (r s : Run) → Decides ((run_eq.ghosts).eq r s) (r ≡ s)
run_decides r s = grind (arith, Decides-like, same_run, Decides-and, Decides-int_eq, Decides-eqb)

module _ {S T A : Type 0} (rest : S → List A) (others : T → List A) (eq : A → A → Bool) (decides : (x y : A) → Decides (eq x y) (x ≡ y)) (b : Bool) where
  -- what the last two calls of a comparison say of its answer
  abbrev IsLastStep : Option A → Option A → Type 0
  IsLastStep o p = MatchOption o (MatchOption p (b ≡ true) (λ _. b ≡ false)) (λ x. (b ≡ false) × IfSome p (λ y. eq x y ≡ false))

  decides_false : {P : Type 0} → b ≡ false → (P → ⊥) → Decides b P
  decides_false fails differs = (λ yes. absurd (false≢true (sym fails ∙ yes)), λ same. absurd (differs same))

  at_last : (o p : Option A) (s u : S) (t w : T) → YieldsFirst rest s o u → YieldsFirst others t p w → IsLastStep o p → Decides b (rest s ≡ others t)
  at_last None None s u t w left right last = (λ yes. left.0 ∙ sym right.0, λ same. last)
  at_last None (Some y) s u t w left right last = decides_false last (λ same. absurd cc)
  at_last (Some x) None s u t w left right last = decides_false last.0 (λ same. absurd cc)
  at_last (Some x) (Some y) s u t w left right last = decides_false last.0 (λ same. not_from_Decides (eq x y) (decides x y) last.1 cc)

  along : (xs ys : List A) (o p : Option A) (s u : S) (t w : T) → YieldsThen (YieldsFirst rest) s xs o u
      → YieldsThen (YieldsFirst others) t ys p w → AllZip (λ x y. eq x y ≡ true) xs ys → IsLastStep o p → Decides b (rest s ≡ others t)
  along [] [] o p s u t w left right pairs last =
      at_last o p s u t w (subst (λ j. YieldsFirst rest j o u) (sym left.1) left.2) (subst (λ j. YieldsFirst others j p w) (sym right.1) right.2) last
  along [] (y ∷ ys) o p s u t w left right pairs last = absurd pairs
  along (x ∷ xs) [] o p s u t w left right pairs last = absurd pairs
  along (x ∷ xs) (y ∷ ys) o p s u t w left right pairs last =
      grind (arith, Decides-like, sym, along xs ys o p left.1.0 u right.1.0 w (left.0, left.1.2, left.2) (right.0, right.1.2, right.2) pairs.1 last)

  -- `eq` of two iterators answers whether the lists that they have left are equal
  pub eq_decides : (s : S) (t : T) → ComparesItemsByEq (YieldsFirst rest) (λ i j. j ≡ i) (YieldsFirst others) s t eq b → Decides b (rest s ≡ others t)
  eq_decides s t ran =
      along ran.1 ran.2 ran.3 ran.4 s ran.5 t ran.6 ran.8 (subst (λ j. YieldsThen (YieldsFirst others) j ran.2 ran.4 ran.6) ran.7 ran.9) ran.10 ran.11

-- two pictures are equal exactly where their runs are
pub same_from_runs : (b : Bool) {ds es : List Dot} {rs ss : List Run} → rs ≡ runs_of ds → ss ≡ runs_of es → Decides b (rs ≡ ss) → Decides b (ds ≡ es)
same_from_runs b {ds} {es} left right runs =
    Decides-like b
    (λ same. sym (dots_of-runs_of ds) ∙ ap (flat_map dots_of) (sym left ∙ same ∙ right) ∙ dots_of-runs_of es)
    (λ same. left ∙ ap runs_of same ∙ sym right)
    runs

-- and exactly where their weights are
pub same_weights : (b : Bool) (ds es : List Dot) → IsPicture ds → IsPicture es → Decides b (ds ≡ es) → Decides b (HaveSameWeights ds es)
same_weights b ds es left right pictures =
    Decides-like b (λ same. subst (HaveSameWeights ds) same (record { same = λ x y inside. refl })) (same_pictures ds es left right) pictures
