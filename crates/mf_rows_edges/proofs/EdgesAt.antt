-- The edges of a row, one after another.
use Rattle.std.proofs.Common.{◌≡◌, ℕ, zero, suc, ◌<◌, ◌+◌, ℤ, pos, ◌+ℤ◌, ◌-ℤ◌, ◌≤ℤ◌, ◌<ℤ◌, List, [], ◌∷◌, length, get_or, drop, subst, ◌∙◌, arith}
use Rattle.std.specs.List.{All}
use Rattle.std.proofs.lemmas.Int.{ints}
use Rattle.std.proofs.lemmas.List.{drop_more}
use Rattle.std.proofs.lemmas.List.Elements.{All-nil, All-cons}
use Rattle.mf_geom.specs.Coordinates.{least_coordinate}
use Rattle.mf_rows_edges.specs.declared.edge.Edge.{Edge}
use Rattle.mf_rows_edges.specs.Edges.{weight_in, IsEdge, AreEdgesFrom, AreEdges}
use Rattle.mf_rows_edges.specs.Merging.{IsChange}
use Rattle.mf_rows_edges.proofs.EdgesLemmas.{weight_in-before, weight_in-left, weight_in-right}

pub edges_from-at : (low : ℤ) (es : List Edge) (at : ℕ) (d : Edge) → AreEdgesFrom low es → at < length es
    → IsEdge (get_or es at d) × (low ≤ℤ (get_or es at d).x)
edges_from-at low [] at d from lt = absurd (omega (arith, lt))
edges_from-at low (e ∷ es) zero d from lt = (from.0, from.1)
edges_from-at low (e ∷ es) (suc at) d from lt =
    let rest = edges_from-at (e.x +ℤ pos 1) es at d from.2 (omega arith) in
    (rest.0, omega (arith, ints, from.1, rest.1))

-- the weight at column x that the edges before those that are left give it
abbrev pub passed_in : List Edge → List Edge → ℤ → ℤ
passed_in es left x = weight_in es x -ℤ weight_in left x

-- w is the sum of those edges, and the ones that are left are at or to the right of column low
pub record ArePassed (es left : List Edge) (w : ℤ) : Type 0 where
  pub low : ℤ
  pub sorted : AreEdgesFrom low left
  pub sum : (x : ℤ) → low ≤ℤ (x +ℤ pos 1) → passed_in es left x ≡ w

abbrev pub none_passed : (es : List Edge) → AreEdgesFrom least_coordinate es → ArePassed es es (pos 0)
none_passed es sorted = record { low = least_coordinate; sorted = sorted; sum = λ x after. omega (arith, ints) }

-- the weight of an edge is the difference between the weights at its column and before it
pub record IsStep (es : List Edge) (e : Edge) : Type 0 where
  pub edge : IsEdge e
  pub weight : weight_in es e.x ≡ weight_in es (e.x -ℤ pos 1) +ℤ e.weight

-- where edges of a list are passed by index, the one at an index is next
abbrev pub no_edge : Edge
no_edge = record { x = pos 0; weight = pos 0 }

pub next_edge : (es : List Edge) (at : ℕ) {w : ℤ} → ArePassed es (drop at es) w → at < length es → ArePassed es (get_or es at no_edge ∷ drop (at + 1) es) w
next_edge es at {w = w} passed inside = subst (λ left. ArePassed es left w) (drop_more es at no_edge inside) passed

module _ {es left : List Edge} {e : Edge} {w : ℤ} (passed : ArePassed es (e ∷ left) w) where
  start : passed.low ≤ℤ e.x
  start = passed.sorted.1

  -- the row has the weights of the edges before it to the left of its column
  pub all_before : (x : ℤ) → x <ℤ e.x → weight_in es x ≡ passed_in es (e ∷ left) x
  all_before x lt = omega (arith, ints, weight_in-before e.x (e ∷ left) x (passed.sorted.0, omega (arith, ints), passed.sorted.2) lt)

  pub passed_before : (x : ℤ) → x <ℤ e.x → passed_in es left x ≡ passed_in es (e ∷ left) x
  passed_before x lt = omega (arith, ints, weight_in-right e left x lt)

  pub passed_after : (x : ℤ) → e.x ≤ℤ x → passed_in es left x ≡ w +ℤ e.weight
  passed_after x le = omega (arith, ints, passed.sum x (omega (arith, ints, start)), weight_in-left e left x le)

  abbrev pub one_passed : ArePassed es left (w +ℤ e.weight)
  one_passed = record { low = e.x +ℤ pos 1; sorted = passed.sorted.2; sum = λ x after. passed_after x (omega (arith, ints)) }

  before : weight_in es (e.x -ℤ pos 1) ≡ w
  before = all_before (e.x -ℤ pos 1) (omega (arith, ints)) ∙ passed.sum (e.x -ℤ pos 1) (omega (arith, ints, start))

  pub here : weight_in es e.x ≡ w +ℤ e.weight
  here = omega (arith, ints, passed_after e.x (omega (arith, ints)), weight_in-before (e.x +ℤ pos 1) left e.x passed.sorted.2 (omega (arith, ints)))

  step : IsStep es e
  step = record { edge = passed.sorted.0; weight = omega (arith, ints, before, here) }

  -- what all weights of the row have, the weights before and after the edge have
  pub both_weights : (P : ℤ → Type 0) → ((x : ℤ) → P (weight_in es x)) → P w × P (w +ℤ e.weight)
  both_weights P all = (subst P before (all (e.x -ℤ pos 1)), subst P here (all e.x))

steps_left : (es left : List Edge) (w : ℤ) → ArePassed es left w → All (IsStep es) left
steps_left es [] w passed = All-nil (IsStep es)
steps_left es (e ∷ left) w passed = All-cons (IsStep es) e left (step passed) (steps_left es left (w +ℤ e.weight) (one_passed passed))

pub all_steps : (es : List Edge) → AreEdgesFrom least_coordinate es → All (IsStep es) es
all_steps es sorted = steps_left es es (pos 0) (none_passed es sorted)

-- so it is a change where the weights are lawful
pub step_is_change : {es : List Edge} {e : Edge} → AreEdges es → IsStep es e → IsChange e.weight
step_is_change edges step = grind (arith, ints)
