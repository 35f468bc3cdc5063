-- The weights of edges.
use Rattle.std.proofs.Common.{◌≡◌, ℕ, zero, suc, ℤ, pos, ◌+ℤ◌, ◌≤ℤ◌, ◌<ℤ◌, List, [], ◌∷◌, ◌++◌, take, drop, refl, sym, ap, ◌∙◌, arith}
use Rattle.std.specs.List.{All}
use Rattle.std.proofs.lemmas.Bool.{cond-true, cond-false}
use Rattle.std.proofs.lemmas.Int.{ints, by_lt_z}
use Rattle.std.proofs.lemmas.List.{take-append-drop}
use Rattle.mf_geom.specs.Coordinates.{least_coordinate, greatest_coordinate, last_in_field}
use Rattle.mf_rows_edges.specs.declared.edge.Edge.{Edge}
use Rattle.mf_rows_edges.specs.Edges.{weight_in, AreEdgesFrom, AreEdges}
use Rattle.mf_rows_edges.specs.Merging.{BeginFrom}

pub weight_in-append : (es fs : List Edge) (x : ℤ) → weight_in (es ++ fs) x ≡ weight_in es x +ℤ weight_in fs x
unfolding weight_in
weight_in-append [] fs x = omega (arith, ints)
weight_in-append (e ∷ es) fs x = omega (arith, ints, weight_in-append es fs x)

-- an edge to the right of the column adds nothing, any other adds its weight
pub weight_in-left : (e : Edge) (es : List Edge) (x : ℤ) → e.x ≤ℤ x → weight_in (e ∷ es) x ≡ e.weight +ℤ weight_in es x
unfolding weight_in
weight_in-left e es x left = grind (arith, ints, cond-true)

pub weight_in-right : (e : Edge) (es : List Edge) (x : ℤ) → x <ℤ e.x → weight_in (e ∷ es) x ≡ weight_in es x
unfolding weight_in
weight_in-right e es x right = grind (arith, ints, cond-false)

-- to the left of the first edge the weight is 0
pub weight_in-before : (low : ℤ) (es : List Edge) (x : ℤ) → AreEdgesFrom low es → x <ℤ low → weight_in es x ≡ pos 0
unfolding weight_in
weight_in-before low [] x edges before = refl
weight_in-before low (e ∷ es) x edges before =
    let start : low ≤ℤ e.x = edges.1 in
    weight_in-right e es x (omega (arith, ints)) ∙ weight_in-before (e.x +ℤ pos 1) es x edges.2 (omega (arith, ints))

-- to the right of the field the weight is that of column 4095
pub weight_in-after : (low : ℤ) (es : List Edge) (x : ℤ) → AreEdgesFrom low es → greatest_coordinate ≤ℤ x → weight_in es x ≡ weight_in es greatest_coordinate
unfolding weight_in
weight_in-after low [] x edges after = refl
weight_in-after low (e ∷ es) x edges after = grind (arith, ints, weight_in-left, sym, weight_in-after (e.x +ℤ pos 1) es x edges.2 after)

pub edges_from-lower : (low high : ℤ) (es : List Edge) → low ≤ℤ high → AreEdgesFrom high es → AreEdgesFrom low es
edges_from-lower low high [] le edges = tt
edges_from-lower low high (e ∷ es) le edges = let start : high ≤ℤ e.x = edges.1 in (edges.0, omega (arith, ints), edges.2)

-- edges may follow others that end before a column
pub edges_from-append : (low middle : ℤ) (es fs : List Edge) → low ≤ℤ middle → AreEdgesFrom low es
    → All (λ e. e.x <ℤ middle) es → AreEdgesFrom middle fs → AreEdgesFrom low (es ++ fs)
edges_from-append low middle [] fs le front before back = edges_from-lower low middle fs le back
edges_from-append low middle (e ∷ es) fs le front before back =
    let lower = before 0 e (omega arith) in
    (front.0, front.1, edges_from-append (e.x +ℤ pos 1) middle es fs (omega (arith, ints)) front.2 (λ k d lt. before (suc k) d (omega arith)) back)

-- the first edges and the others
pub edges_from-take : (low : ℤ) (n : ℕ) (es : List Edge) → AreEdgesFrom low es → AreEdgesFrom low (take n es)
edges_from-take low zero es edges = tt
edges_from-take low (suc n) [] edges = tt
edges_from-take low (suc n) (e ∷ es) edges = (edges.0, edges.1, edges_from-take (e.x +ℤ pos 1) n es edges.2)

pub edges_from-drop : (low x : ℤ) (n : ℕ) (es : List Edge) → AreEdgesFrom low es → BeginFrom x (drop n es) → AreEdgesFrom x (drop n es)
edges_from-drop low x zero [] edges from = tt
edges_from-drop low x zero (e ∷ es) edges from = (edges.0, from, edges.2)
edges_from-drop low x (suc n) [] edges from = tt
edges_from-drop low x (suc n) (e ∷ es) edges from = edges_from-drop (e.x +ℤ pos 1) x n es edges.2 from

pub weight_in-parts : (n : ℕ) (es : List Edge) (x : ℤ) → weight_in es x ≡ weight_in (take n es) x +ℤ weight_in (drop n es) x
weight_in-parts n es x = ap (λ es. weight_in es x) (sym (take-append-drop n es)) ∙ weight_in-append (take n es) (drop n es) x

-- outside the columns of the field a row has weight 0
pub weight_in-outside : (es : List Edge) (x : ℤ) → AreEdges es → (least_coordinate ≤ℤ x → x ≤ℤ last_in_field → ⊥) → weight_in es x ≡ pos 0
weight_in-outside es x edges outside = grind (arith, ints, by_lt_z, weight_in-before, weight_in-after)
