use Rattle.std.proofs.Common.{◌≡◌, ◌∙◌, ◌-◌, ◌≤◌, ◌&&◌, ◌∷◌, [], ℕ, Bool, List, true, false, zero, suc, refl, ap, take, drop, length, arith}
use Rattle.std.proofs.lemmas.List.{take_rest}
use Rattle.std.proofs.Math.Bool.{and_assoc}
use Rattle.std.specs.List.{list_all}
use Rattle.mf_text.proofs.text.are_ends_text.Goals as goal
use Rattle.std.proofs.lemmas.Int.{ints}

and_shared : (a b c : Bool) → (b && c) ≡ c → ((a && b) && (a && c)) ≡ (a && c)
and_shared true b c same = same
and_shared false b c same = refl

-- what is so of all is so of the first
front-all : (is_so : ℕ → Bool) (size : ℕ) (all : List ℕ) → (list_all is_so (take size all) && list_all is_so all) ≡ list_all is_so all
front-all is_so zero all = refl
front-all is_so (suc size) [] = refl
front-all is_so (suc size) (x ∷ all) = and_shared (is_so x) (list_all is_so (take size all)) (list_all is_so all) (front-all is_so size all)

-- two ends that touch or overlap are all
ends-all : (is_so : ℕ → Bool) (size from : ℕ) (all : List ℕ) → from ≤ size
    → (list_all is_so (take size all) && list_all is_so (drop from all)) ≡ list_all is_so all
ends-all is_so size zero all touch = front-all is_so size all
ends-all is_so zero (suc from) all touch = absurd (omega (arith, touch))
ends-all is_so (suc size) (suc from) [] touch = refl
ends-all is_so (suc size) (suc from) (x ∷ all) touch =
    and_assoc (is_so x) (list_all is_so (take size all)) (list_all is_so (drop from all))
    ∙ ap (λ others. is_so x && others) (ends-all is_so size from all (omega (arith, touch)))

pub returns : goal.returns
returns g = grind (arith, ints, take_rest g.args.line.now (length g.args.line.now - g.args.size), ends-all)
