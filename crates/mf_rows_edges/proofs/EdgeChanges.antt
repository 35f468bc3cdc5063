-- The edges of a row after each of them is negated, reflected or stretched.
use Rattle.std.proofs.Common.{◌≡◌, ℕ, suc, ◌<◌, ◌≤◌, ℤ, pos, neg_ℤ, ◌+ℤ◌, ◌-ℤ◌, ◌≤ℤ◌, ◌<ℤ◌, unsigned_abs, List, [], ◌∷◌, length, get_or, map, reverse, refl, sym, ap, subst, ◌∙◌, arith}
use Rattle.std.specs.List.{All}
use Rattle.std.proofs.lemmas.Int.{ints, by_lt_z}
use Rattle.std.proofs.lemmas.List.{reverse-append}
use Rattle.std.proofs.lemmas.List.Sorted.{All-permutation, IsPermutation-reverse}
use Rattle.std.proofs.lemmas.List.Elements.{All-map}
use Rattle.mf_geom.specs.Coordinates.{least_coordinate, greatest_coordinate, IsCoordinate}
use Rattle.mf_rows_edges.specs.declared.edge.Edge.{Edge}
use Rattle.mf_rows_edges.specs.declared.stretch.Stretch.{Stretch}
use Rattle.mf_rows_edges.specs.Edges.{weight_in, IsEdge, AreEdgesFrom, AreEdges}
use Rattle.mf_rows_edges.specs.Axes.{opposite, target_of, source_of, IsStretch}
use Rattle.mf_rows_edges.specs.Reaches.{StaysInReach}
use Rattle.mf_rows_edges.specs.Sums.{HaveWeights}
use Rattle.mf_rows_edges.proofs.EdgesAt.{edges_from-at}
use Rattle.mf_rows_edges.proofs.EdgesLemmas.{weight_in-left, weight_in-right, weight_in-before, weight_in-append, edges_from-append}
use Rattle.mf_rows_edges.proofs.Sources.{target_of-lt, source_of-reached, source_of-from}

-- the edges of a row become those of another, whose weights are an image of its weights
pub record RowBecomes (image : (ℤ → ℤ) → ℤ → ℤ) (reach : ℤ) (es new : List Edge) : Type 0 where
  pub edges : AreEdges new
  pub reached : StaysInReach reach new
  pub weights : HaveWeights (image (weight_in es)) new

-- a row with negated weights
abbrev pub negate_row : (ℤ → ℤ) → ℤ → ℤ
negate_row f x = neg_ℤ (f x)

-- a row whose columns move: column x comes from column `source x`
abbrev pub move_row : (ℤ → ℤ) → (ℤ → ℤ) → ℤ → ℤ
move_row source f x = f (source x)

row_moved : (source : ℤ → ℤ) (reach : ℤ) (es new : List Edge) → AreEdges es → StaysInReach reach es → AreEdgesFrom least_coordinate new
    → ((x : ℤ) → weight_in new x ≡ weight_in es (source x)) → weight_in new greatest_coordinate ≡ pos 0 → RowBecomes (move_row source) reach es new
row_moved source reach es new edges reached sorted weights closed = grind (arith, ints, subst, sym)

-- what the images of edges add at column x, with what the edges add at column a, is what the edges add at column b
weight_in-images : (g : Edge → Edge) (x a b : ℤ) (es : List Edge) → All (λ e. weight_in (g e ∷ []) x +ℤ weight_in (e ∷ []) a ≡ weight_in (e ∷ []) b) es
    → weight_in (map g es) x +ℤ weight_in es a ≡ weight_in es b
unfolding weight_in
weight_in-images g x a b [] all = refl
weight_in-images g x a b (e ∷ es) all =
    omega (arith, ints, all 0 e (omega arith), weight_in-images g x a b es (λ k d lt. all (suc k) d (omega arith)))

-- images of edges in a rising order of columns
edges_from-map : (g : Edge → Edge) (low new : ℤ) (es : List Edge) → ((e f : Edge) → e.x <ℤ f.x → (g e).x <ℤ (g f).x) → AreEdgesFrom low es
    → All (λ e. IsEdge (g e)) es → ((e : Edge) → low ≤ℤ e.x → IsEdge (g e) → new ≤ℤ (g e).x) → AreEdgesFrom new (map g es)
edges_from-map g low new [] rises sorted edges from = tt
edges_from-map g low new (e ∷ es) rises sorted edges from =
    let first = edges 0 e (omega arith) in (
      first,
      from e sorted.1 first,
      edges_from-map g (e.x +ℤ pos 1) ((g e).x +ℤ pos 1) es rises sorted.2 (λ k d lt. edges (suc k) d (omega arith))
          (λ f after _. let lt = rises e f (omega (arith, ints)) in omega (arith, ints)),
    )

-- ---- weights that are negated

abbrev pub negative_edge : Edge → Edge
negative_edge e = record { x = e.x; weight = neg_ℤ e.weight }

weight_in-negative : (es : List Edge) (x : ℤ) → weight_in (map negative_edge es) x ≡ neg_ℤ (weight_in es x)
unfolding weight_in
weight_in-negative [] x = refl
weight_in-negative (e ∷ es) x =
    let rest = weight_in-negative es x in
    by_lt_z x e.x
    (λ lt. omega (arith, ints, rest, weight_in-right e es x lt, weight_in-right (negative_edge e) (map negative_edge es) x lt))
    (λ le. omega (arith, ints, rest, weight_in-left e es x le, weight_in-left (negative_edge e) (map negative_edge es) x le))

pub row_negative : (reach : ℤ) (es : List Edge) → AreEdges es → StaysInReach reach es → RowBecomes negate_row reach es (map negative_edge es)
row_negative reach es edges reached =
    let sorted = edges_from-map negative_edge least_coordinate least_coordinate es (λ e f lt. lt) edges.sorted
    (λ k d lt. let edge = (edges_from-at least_coordinate es k d edges.sorted lt).0 in grind (arith, ints)) (λ e le _. le) in
    record {
      edges = grind (arith, ints, weight_in-negative);
      reached = grind (arith, ints, weight_in-negative);
      weights = record { weights = weight_in-negative es };
    }

-- ---- columns that are reflected

-- an edge at the opposite point: what it added to the weights to its right, it takes from those to its left
abbrev pub opposite_edge : Edge → Edge
opposite_edge e = record { x = neg_ℤ e.x; weight = neg_ℤ e.weight }

weight_in-reverse : (es : List Edge) (x : ℤ) → weight_in (reverse es) x ≡ weight_in es x
unfolding weight_in
weight_in-reverse [] x = refl
weight_in-reverse (e ∷ es) x =
    ap (λ es. weight_in es x) (reverse-append (e ∷ []) es) ∙ weight_in-append (reverse es) (e ∷ []) x ∙ omega (arith, ints, weight_in-reverse es x)

opposites_sorted : (low : ℤ) (es : List Edge) → AreEdgesFrom low es → AreEdgesFrom least_coordinate (reverse (map opposite_edge es))
opposites_sorted low [] edges = tt
opposites_sorted low (e ∷ es) edges =
    let edge : IsEdge (opposite_edge e) = grind (arith, ints) in
    rw (reverse-append (opposite_edge e ∷ []) (map opposite_edge es)) (
    edges_from-append least_coordinate (neg_ℤ e.x) (reverse (map opposite_edge es)) (opposite_edge e ∷ []) edge.column.least
    (opposites_sorted (e.x +ℤ pos 1) es edges.2)
    (All-permutation (λ d. d.x <ℤ neg_ℤ e.x) _ _ (IsPermutation-reverse (map opposite_edge es))
    (All-map (λ d. d.x <ℤ neg_ℤ e.x) opposite_edge es (λ k d lt. omega (arith, ints, (edges_from-at (e.x +ℤ pos 1) es k d edges.2 lt).1))))
    (edge, omega (arith, ints), tt))

-- what the image of an edge adds at a column, together with the edge's weight, is what the edge adds at the opposite
-- column
weight_in-opposite_edge : (e : Edge) (x : ℤ) → e.x ≤ℤ greatest_coordinate
    → weight_in (opposite_edge e ∷ []) x +ℤ weight_in (e ∷ []) greatest_coordinate ≡ weight_in (e ∷ []) (opposite x)
unfolding weight_in
weight_in-opposite_edge e x le = grind (arith, ints, by_lt_z, weight_in-right, weight_in-left)

-- the edges of a row have a sum of 0, so a column of the images has the weight of the opposite column of the row
pub row_opposite : (reach : ℤ) (es : List Edge) → AreEdges es → StaysInReach reach es
    → RowBecomes (move_row opposite) reach es (reverse (map opposite_edge es))
unfolding weight_in
row_opposite reach es edges reached =
    let weights : (x : ℤ) → weight_in (reverse (map opposite_edge es)) x ≡ weight_in es (opposite x) =
    λ x.
    let all = weight_in-images opposite_edge x greatest_coordinate (opposite x) es
    (λ k d lt. weight_in-opposite_edge (get_or es k d) x (edges_from-at least_coordinate es k d edges.sorted lt).0.column.greatest) in
    let same = weight_in-reverse (map opposite_edge es) x in
    omega (arith, ints, edges.closed) in
    row_moved opposite reach es (reverse (map opposite_edge es)) edges reached (opposites_sorted least_coordinate es edges.sorted) weights
    (weights greatest_coordinate ∙ weight_in-before least_coordinate es (opposite greatest_coordinate) edges.sorted (omega (arith, ints)))

-- ---- columns that are stretched

abbrev pub target_edge : Stretch → Edge → Edge
target_edge s e = record { x = target_of s e.x; weight = e.weight }

-- all edges of a row go to columns in range
abbrev pub EdgesStayInside : Stretch → List Edge → Type 0
EdgesStayInside s es = All (λ e. IsCoordinate (target_of s e.x)) es

module _ (s : Stretch) (stretch : IsStretch s) where
  weight_in-stretched : (es : List Edge) (x : ℤ) → weight_in (map (target_edge s) es) x ≡ weight_in es (source_of s x)
  unfolding weight_in
  weight_in-stretched [] x = refl
  weight_in-stretched (e ∷ es) x =
      grind (arith, ints, by_lt_z, source_of-reached, weight_in-right, sym, weight_in-left, source_of-from, weight_in-stretched es x)

  pub row_stretched : (reach : ℤ) (es : List Edge) → AreEdges es → StaysInReach reach es → EdgesStayInside s es
      → RowBecomes (move_row (source_of s)) reach es (map (target_edge s) es)
  unfolding weight_in
  row_stretched reach es edges reached inside =
      let edge : (k : ℕ) (d : Edge) → k < length es → IsEdge (get_or es k d) = λ k d lt. (edges_from-at least_coordinate es k d edges.sorted lt).0 in
      row_moved (source_of s) reach es (map (target_edge s) es) edges reached
      (edges_from-map (target_edge s) least_coordinate least_coordinate es (λ e f lt. target_of-lt s e.x f.x stretch lt) edges.sorted
      (λ k d lt. record { column = inside k d lt; nonzero = (edge k d lt).nonzero }) (λ e low in_range. in_range.column.least))
      (weight_in-stretched es)
      (omega (
        arith,
        ints,
        edges.closed,
        weight_in-before least_coordinate es (least_coordinate -ℤ pos 1) edges.sorted (omega (arith, ints)),
        weight_in-images (target_edge s) greatest_coordinate (least_coordinate -ℤ pos 1) greatest_coordinate es (λ k d lt.
            let right = weight_in-left (target_edge s (get_or es k d)) [] greatest_coordinate (inside k d lt).greatest in
            let none = weight_in-right (get_or es k d) [] (least_coordinate -ℤ pos 1) (omega (arith, ints, (edge k d lt).column.least)) in
            let all = weight_in-left (get_or es k d) [] greatest_coordinate (edge k d lt).column.greatest in
            omega (arith, ints)),
      ))

-- ---- the numbers that the code computes

pub size-at_most : (z : ℤ) → least_coordinate ≤ℤ z → z ≤ℤ greatest_coordinate → unsigned_abs z ≤ unsigned_abs greatest_coordinate
size-at_most z least greatest = omega (arith, ints)
