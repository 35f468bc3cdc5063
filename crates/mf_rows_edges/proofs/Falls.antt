-- What a partition point says of lists whose heights fall, and of the edges of a row to the left of a column.
use Rattle.std.proofs.Common.{◌≡◌, ℕ, zero, suc, ◌≤◌, ℤ, ◌≤ℤ◌, ◌<ℤ◌, List, [], ◌∷◌, Bool, true, length, take, get_or, arith, ◌<◌, pos, neg_ℤ, ◌+ℤ◌, int_lt, drop}
use Rattle.std.specs.List.{All, AllWithin}
use Rattle.std.specs.List.Sorted.{IsPartitionedBy}
use Rattle.std.proofs.lemmas.Int.{ints}
use Rattle.std.proofs.lemmas.List.{get_or-take, length-take-le}
use Rattle.std.proofs.lemmas.List.Elements.{All-weaker}
use Rattle.mf_rows_edges.specs.declared.edge.Edge.{Edge}
use Rattle.mf_rows_edges.specs.Edges.{AreEdgesFrom}
use Rattle.mf_rows_edges.specs.Merging.{BeginFrom}
use Rattle.mf_rows_edges.proofs.EdgesAt.{edges_from-at}

-- each height is less than all before it
abbrev pub Falls : {X : Type 0} → (X → ℤ) → List X → Type 0
Falls f [] = Unit {0}
Falls f (x ∷ xs) = All (λ y. f y <ℤ f x) xs × Falls f xs

-- a test that each greater height passes, too, is passed by the first elements of such a list
pub IsPartitionedBy-falls : {X : Type 0} (f : X → ℤ) (p : X → Bool) → ((a b : X) → f a ≤ℤ f b → p a ≡ true → p b ≡ true)
    → (xs : List X) → Falls f xs → IsPartitionedBy p xs
IsPartitionedBy-falls f p up [] falls i j d le lt e = absurd (omega arith)
IsPartitionedBy-falls f p up (x ∷ xs) falls zero zero d le lt e = e
IsPartitionedBy-falls f p up (x ∷ xs) falls zero (suc j) d le lt e =
    let lower = falls.0 j d (omega arith) in
    up (get_or xs j d) x (omega (arith, ints)) e
IsPartitionedBy-falls f p up (x ∷ xs) falls (suc i) zero d le lt e = absurd (omega arith)
IsPartitionedBy-falls f p up (x ∷ xs) falls (suc i) (suc j) d le lt e = IsPartitionedBy-falls f p up xs falls.1 i j d (omega arith) (omega arith) e

-- what a partition point says of the elements before it
pub All-take_within : {X : Type 0} (P : X → Type 0) (xs : List X) (n : ℕ) → n ≤ length xs → AllWithin P xs 0 n → All P (take n xs)
All-take_within P xs n le within k d lt = grind (arith, ints, length-take-le, get_or-take)

abbrev pub is_left_of : ℤ → Edge → Bool
is_left_of x e = int_lt e.x x

-- columns rise, so their opposites fall
edges_fall : (low : ℤ) (es : List Edge) → AreEdgesFrom low es → Falls (λ e. neg_ℤ e.x) es
edges_fall low [] sorted = tt
edges_fall low (e ∷ es) sorted =
    (λ k d lt. omega (arith, ints, (edges_from-at (e.x +ℤ pos 1) es k d sorted.2 lt).1), edges_fall (e.x +ℤ pos 1) es sorted.2)

pub IsPartitionedBy-is_left_of : (low x : ℤ) (es : List Edge) → AreEdgesFrom low es → IsPartitionedBy (is_left_of x) es
IsPartitionedBy-is_left_of low x es sorted =
    IsPartitionedBy-falls (λ e. neg_ℤ e.x) (is_left_of x) (λ a b le left. grind (arith, ints)) es (edges_fall low es sorted)

pub left_split : (x : ℤ) (n : ℕ) (es : List Edge) → n ≤ length es → AllWithin (λ e. is_left_of x e ≡ true) es 0 n → All (λ e. e.x <ℤ x) (take n es)
left_split x n es le passed =
    All-weaker (λ e. is_left_of x e ≡ true) (λ e. e.x <ℤ x) (λ e left. grind (arith, ints)) (take n es)
    (All-take_within (λ e. is_left_of x e ≡ true) es n le passed)

-- where an edge, if there is one, is not to the left of a column, it and those after it begin from there
pub begin_from : (x : ℤ) (n : ℕ) (es : List Edge) → ((d : Edge) → n < length es → x ≤ℤ (get_or es n d).x) → BeginFrom x (drop n es)
begin_from x zero [] from = tt
begin_from x zero (e ∷ es) from = from e (omega arith)
begin_from x (suc n) [] from = tt
begin_from x (suc n) (e ∷ es) from = begin_from x n es (λ d lt. from d (omega arith))
