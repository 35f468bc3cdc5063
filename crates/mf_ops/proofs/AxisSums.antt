-- Sums over one axis of the field, and over the field, of weights that were moved.
use Rattle.std.proofs.Common.{◌≡◌, ◌≢◌, ℕ, zero, suc, ◌+◌, ◌*◌, ◌<◌, ◌⊎◌, inl, inr}
use Rattle.std.proofs.Common.{ℤ, pos, ◌+ℤ◌, ◌-ℤ◌, ◌*ℤ◌, ◌≤ℤ◌, ◌<ℤ◌, nat_abs, refl, sym, ◌∙◌, ap, arith}
use lib.IntN.{ℤ_discrete}
use Rattle.std.proofs.Math.IntN.{*ℤ_comm, *ℤ-zero, zero-*ℤ}
use Rattle.std.proofs.lemmas.Bool.{cases_eq}
use Rattle.std.proofs.lemmas.Int.{ints, by_lt_z}
use Rattle.mf_geom.specs.Coordinates.{least_coordinate, greatest_coordinate, last_in_field, field_size}
use Rattle.mf_geom.specs.Crossing.{unit_step}
use Rattle.mf_geom.specs.Field.{IsColumnOrRow, sum_over_field}
use Rattle.mf_geom.specs.Sum.{sum_below}
use Rattle.mf_geom.proofs.Areas.{sum_below-unit_step_in_field}
use Rattle.mf_geom.proofs.Crossings.{unit_step-reached, unit_step-beyond}
use Rattle.mf_geom.proofs.Sums.{sum_below-same, sum_below-zero, sum_below-next, sum_below-sub, sum_below-mul, sum_below-swap}
use Rattle.mf_rows_edges.specs.Axes.{opposite}
use Rattle.mf_rows.specs.Moves.{turned_once}
use borrow.Author.Differences.{up, down, product_is}

-- the sum over the columns, or rows, of the field
abbrev axis_sum : (ℤ → ℤ) → ℤ
axis_sum g = sum_below field_size (λ i. g (least_coordinate +ℤ pos i))

sum_below-none : (n : ℕ) (f : ℕ → ℤ) → ((i : ℕ) → i < n → f i ≡ pos 0) → sum_below n f ≡ pos 0
sum_below-none n f none = sum_below-same n f (λ i. pos 0) none ∙ sum_below-zero n

sum_below-alone : (n k : ℕ) (f : ℕ → ℤ) → k < n → ((i : ℕ) → i ≢ k → f i ≡ pos 0) → sum_below n f ≡ f k
unfolding sum_below
sum_below-alone zero k f below others = absurd (omega arith)
sum_below-alone (suc n) k f below others =
    elim (cases_eq n k) [
      | inl last ↦
          let before = sum_below-none n f (λ i i_below. others i (λ same. omega arith)) in
          let is_last : f n ≡ f k = ap f last in
          omega (arith, ints)
      | inr earlier ↦
          let before = sum_below-alone n k f (omega arith) others in
          let none = others n earlier in
          omega (arith, ints)
    ]

-- the n numbers from b downwards are the n numbers from a upwards
sum_below-downwards : (n : ℕ) (a b : ℤ) (g : ℤ → ℤ) → a +ℤ pos n ≡ b +ℤ pos 1 → sum_below n (λ i. g (b -ℤ pos i)) ≡ sum_below n (λ i. g (a +ℤ pos i))
unfolding sum_below
sum_below-downwards zero a b g ends = refl
sum_below-downwards (suc n) a b g ends =
    let before = sum_below-downwards n (a +ℤ pos 1) b g (omega (arith, ints)) in
    let column : (i : ℕ) → (a +ℤ pos 1) +ℤ pos i ≡ a +ℤ pos (i + 1) = λ i. omega (arith, ints) in
    let from_next : sum_below n (λ i. g ((a +ℤ pos 1) +ℤ pos i)) ≡ sum_below n (λ i. g (a +ℤ pos (i + 1))) = λ t. sum_below n (λ i. g (column i t)) in
    let from_first = sum_below-next n (λ i. g (a +ℤ pos i)) in
    let last : g (b -ℤ pos n) ≡ g (a +ℤ pos 0) = ap g (omega (arith, ints)) in
    omega (arith, ints)

axis_sum-same : (f g : ℤ → ℤ) → ((q : ℤ) → f q ≡ g q) → axis_sum f ≡ axis_sum g
axis_sum-same f g same = λ t. sum_below field_size (λ i. same (least_coordinate +ℤ pos i) t)

axis_sum-none : (g : ℤ → ℤ) → ((q : ℤ) → g q ≡ pos 0) → axis_sum g ≡ pos 0
axis_sum-none g none = axis_sum-same g (λ q. pos 0) none ∙ sum_below-zero field_size

axis_sum-alone : (g : ℤ → ℤ) (p : ℤ) → IsColumnOrRow p → ((q : ℤ) → q ≢ p → g q ≡ pos 0) → axis_sum g ≡ g p
axis_sum-alone g p within others =
    let k = nat_abs (p -ℤ least_coordinate) in
    let at_k : least_coordinate +ℤ pos k ≡ p = omega (arith, ints) in
    sum_below-alone field_size k (λ i. g (least_coordinate +ℤ pos i)) (omega (arith, ints))
    (λ i other. others (least_coordinate +ℤ pos i) (λ same. other (omega (arith, ints)))) ∙ ap g at_k

axis_sum-swap : (f : ℤ → ℤ → ℤ) → axis_sum (λ q. axis_sum (f q)) ≡ axis_sum (λ p. axis_sum (λ q. f q p))
axis_sum-swap f = sum_below-swap field_size field_size (λ j i. f (least_coordinate +ℤ pos j) (least_coordinate +ℤ pos i))

axis_sum-mul : (a : ℤ) (g : ℤ → ℤ) → axis_sum (λ q. a *ℤ g q) ≡ a *ℤ axis_sum g
axis_sum-mul a g = sum_below-mul field_size a (λ i. g (least_coordinate +ℤ pos i))

sum_over_field-axes : (f : ℤ → ℤ → ℤ) → sum_over_field f ≡ axis_sum (λ y. axis_sum (λ x. f x y))
unfolding sum_over_field
sum_over_field-axes f = refl

-- the axis read from its other end
axis_sum-opposite : (g : ℤ → ℤ) → axis_sum (λ q. g (opposite q)) ≡ axis_sum g
axis_sum-opposite g =
    let column : (i : ℕ) → opposite (least_coordinate +ℤ pos i) ≡ last_in_field -ℤ pos i = λ i. omega (arith, ints) in
    (λ t. sum_below field_size (λ i. g (column i t))) ∙ sum_below-downwards field_size least_coordinate last_in_field g refl

-- a turn by 90 degrees maps the field to itself
pub sum_over_field-turn : (f : ℤ → ℤ → ℤ) → sum_over_field (turned_once f) ≡ sum_over_field f
sum_over_field-turn f =
    sum_over_field-axes (turned_once f)
    ∙ axis_sum-swap (λ y x. f y (opposite x))
    ∙ axis_sum-opposite (λ y. axis_sum (λ x. f x y))
    ∙ sym (sum_over_field-axes f)

-- A move of the axis takes each column, or row, p to the n columns from `first p` on, and column q comes from `source q` alone. A
-- column that is kept lies in the field before and after the move.
pub record IsMove (n : ℕ) (source : ℤ → ℤ) (IsKept : ℤ → Type 0) : Type 0 where
  pub first : ℤ → ℤ
  pub start : (q : ℤ) → first (source q) ≤ℤ q
  pub end : (q : ℤ) → q <ℤ (first (source q) +ℤ pos n)
  pub only : (p q : ℤ) → first p ≤ℤ q → q <ℤ (first p +ℤ pos n) → source q ≡ p
  pub before : (p : ℤ) → IsKept p → IsColumnOrRow p
  pub after : (p : ℤ) → IsKept p → (least_coordinate ≤ℤ first p) × ((first p +ℤ pos n) ≤ℤ greatest_coordinate)

-- 1 at the n columns from s on, and 0 elsewhere
abbrev among : ℕ → ℤ → ℤ → ℤ
among n s q = unit_step q s -ℤ unit_step q (s +ℤ pos n)

among-inside : (n : ℕ) (s q : ℤ) → s ≤ℤ q → q <ℤ (s +ℤ pos n) → among n s q ≡ pos 1
among-inside n s q start end = grind (arith, ints, unit_step-reached, unit_step-beyond)

axis_sum-among : (n : ℕ) (s : ℤ) → least_coordinate ≤ℤ s → (s +ℤ pos n) ≤ℤ greatest_coordinate → axis_sum (among n s) ≡ pos n
axis_sum-among n s start end =
    let from_start = sum_below-unit_step_in_field s start (omega (arith, ints)) in
    let from_end = sum_below-unit_step_in_field (s +ℤ pos n) (omega (arith, ints)) end in
    sum_below-sub field_size (λ i. unit_step (least_coordinate +ℤ pos i) s) (λ i. unit_step (least_coordinate +ℤ pos i) (s +ℤ pos n)) ∙ omega (arith, ints)

times_twice : (m n : ℕ) (a : ℤ) → pos n *ℤ (pos m *ℤ a) ≡ pos (m * n) *ℤ a
times_twice m n a =
    let product = product_is (pos m) a in
    let ups : n * up (pos m *ℤ a) ≡ n * (m * up a) = ap (λ k. n * k) (omega arith) in
    let downs : n * down (pos m *ℤ a) ≡ n * (m * down a) = ap (λ k. n * k) (omega arith) in
    omega (arith, ints)

-- what column p adds at column q, where the n columns of p begin at s
abbrev part : ℕ → ℤ → (ℤ → ℤ) → ℤ → ℤ → ℤ
part n s g q p = g p *ℤ among n s q

part-other : (n : ℕ) (s : ℤ) (g : ℤ → ℤ) (q p : ℤ) → (s ≤ℤ q → q <ℤ (s +ℤ pos n) → ⊥) → part n s g q p ≡ pos 0
part-other n s g q p outside = ap (λ a. g p *ℤ a) (grind (arith, ints, by_lt_z, unit_step-beyond, unit_step-reached)) ∙ *ℤ-zero (g p)

part-zero : (n : ℕ) (s : ℤ) (g : ℤ → ℤ) (q p : ℤ) → g p ≡ pos 0 → part n s g q p ≡ pos 0
part-zero n s g q p none = ap (λ a. a *ℤ among n s q) none ∙ zero-*ℤ (among n s q)

-- only the source of column q adds anything at q
from_source : (n : ℕ) (source : ℤ → ℤ) (IsKept : ℤ → Type 0) (g : ℤ → ℤ) (q : ℤ) → (move : IsMove n source IsKept)
    → ((p : ℤ) → IsKept p ⊎ (g p ≡ pos 0)) → axis_sum (λ p. part n (move.first p) g q p) ≡ g (source q)
from_source n source IsKept g q move kept_or_zero =
    let p = source q in
    let parts : ℤ → ℤ = λ o. part n (move.first o) g q o in
    let others : (o : ℤ) → o ≢ p → parts o ≡ pos 0 = λ o other. part-other n (move.first o) g q o (λ start end. other (sym (move.only o q start end))) in
    elim (kept_or_zero p) [
      | inl kept ↦
          axis_sum-alone parts p (move.before p kept) others
          ∙ ap (λ a. g p *ℤ a) (among-inside n (move.first p) q (move.start q) (move.end q))
          ∙ omega (arith, ints)
      | inr blank ↦
          axis_sum-none parts (λ o. elim (ℤ_discrete o p) [
            | yes same ↦ part-zero n (move.first o) g q o (ap g same ∙ blank)
            | no other ↦ others o other
          ])
          ∙ sym blank
    ]

-- column p adds n times its own value
to_columns : (n : ℕ) (source : ℤ → ℤ) (IsKept : ℤ → Type 0) (g : ℤ → ℤ) (p : ℤ) → (move : IsMove n source IsKept)
    → IsKept p ⊎ (g p ≡ pos 0) → axis_sum (λ q. part n (move.first p) g q p) ≡ pos n *ℤ g p
to_columns n source IsKept g p move kept_or_zero =
    elim kept_or_zero [
      | inl kept ↦
          let inside = move.after p kept in
          axis_sum-mul (g p) (among n (move.first p))
          ∙ ap (λ a. g p *ℤ a) (axis_sum-among n (move.first p) inside.0 inside.1)
          ∙ *ℤ_comm (g p) (pos n)
      | inr blank ↦
          axis_sum-none (λ q. part n (move.first p) g q p) (λ q. part-zero n (move.first p) g q p blank)
          ∙ sym (ap (λ a. pos n *ℤ a) blank ∙ *ℤ-zero (pos n))
    ]

-- Where the columns that leave the field have value 0, a move multiplies the sum by the number of columns to which it takes each
-- one. Both sums add the same parts, one grouped by the columns to which they go and the other by those from which they come.
axis_sum-move : (n : ℕ) (source : ℤ → ℤ) (IsKept : ℤ → Type 0) (g : ℤ → ℤ) → IsMove n source IsKept → ((p : ℤ) → IsKept p ⊎ (g p ≡ pos 0))
    → axis_sum (λ q. g (source q)) ≡ pos n *ℤ axis_sum g
axis_sum-move n source IsKept g move kept_or_zero =
    let parts : ℤ → ℤ → ℤ = λ q p. part n (move.first p) g q p in
    axis_sum-same (λ q. g (source q)) (λ q. axis_sum (parts q)) (λ q. sym (from_source n source IsKept g q move kept_or_zero))
    ∙ axis_sum-swap parts
    ∙ axis_sum-same (λ p. axis_sum (λ q. parts q p)) (λ p. pos n *ℤ g p) (λ p. to_columns n source IsKept g p move (kept_or_zero p))
    ∙ axis_sum-mul (pos n) g

-- a fact that holds wherever f is not 0 holds, or the sum of f is 0
holds_or_none : {P : Type 0} (n : ℕ) (f : ℕ → ℤ) → ((i : ℕ) → P ⊎ (f i ≡ pos 0)) → P ⊎ (sum_below n f ≡ pos 0)
unfolding sum_below
holds_or_none zero f holds_or_zero = inr refl
holds_or_none (suc n) f holds_or_zero =
    elim (holds_or_zero n) [
      | inl holds ↦ inl holds
      | inr last ↦ elim (holds_or_none n f holds_or_zero) [
        | inl holds ↦ inl holds
        | inr before ↦ inr (omega (arith, ints))
      ]
    ]

-- the same for the field: the rows move, and within each row the columns
pub sum_over_field-move : (m n : ℕ) (column row : ℤ → ℤ) (IsKeptColumn IsKeptRow : ℤ → Type 0) (f : ℤ → ℤ → ℤ) → IsMove m column IsKeptColumn
    → IsMove n row IsKeptRow → ((x y : ℤ) → IsKeptColumn x ⊎ (f x y ≡ pos 0)) → ((x y : ℤ) → IsKeptRow y ⊎ (f x y ≡ pos 0))
    → sum_over_field (λ x y. f (column x) (row y)) ≡ pos (m * n) *ℤ sum_over_field f
sum_over_field-move m n column row IsKeptColumn IsKeptRow f columns rows column_or_zero row_or_zero =
    let moved_row : ℤ → ℤ = λ y. axis_sum (λ x. f (column x) y) in
    let whole_row : ℤ → ℤ = λ y. axis_sum (λ x. f x y) in
    let times : (y : ℤ) → moved_row y ≡ pos m *ℤ whole_row y =
    λ y. axis_sum-move m column IsKeptColumn (λ x. f x y) columns (λ x. column_or_zero x y) in
    sum_over_field-axes (λ x y. f (column x) (row y))
    ∙ axis_sum-move n row IsKeptRow moved_row rows (λ y. holds_or_none field_size _ (λ i. row_or_zero (column (least_coordinate +ℤ pos i)) y))
    ∙ ap (λ s. pos n *ℤ s) (axis_sum-same moved_row (λ y. pos m *ℤ whole_row y) times ∙ axis_sum-mul (pos m) whole_row)
    ∙ times_twice m n (axis_sum whole_row)
    ∙ ap (λ s. pos (m * n) *ℤ s) (sym (sum_over_field-axes f))
