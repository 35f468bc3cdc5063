-- What is left of rows as their edges are passed.
use Rattle.std.proofs.Common.{◌≡◌, ℕ, zero, suc, ◌<◌, ◌+◌, ◌-◌, ℤ, pos, ◌+ℤ◌, ◌-ℤ◌, ◌≤ℤ◌, ◌<ℤ◌, Some, List, [], ◌∷◌, ◌++◌, slice_get, map, take, drop, get_or, set, length, refl, sym, ap, ◌∙◌, subst, arith}
use Rattle.std.specs.Int.{int_min}
use Rattle.std.specs.List.{All}
use Rattle.std.proofs.lemmas.Int.{ints, by_lt_z, fold-int_min_bounds}
use Rattle.std.proofs.lemmas.List.{get_or-map, length-map, take_more_set}
use Rattle.std.proofs.lemmas.List.Elements.{All-get_or}
use Rattle.std.proofs.lemmas.List.Folds.{fold-map}
use Rattle.std.proofs.lemmas.List.Sums.{fold_more, fold_push}
use Rattle.mf_geom.specs.Coordinates.{least_coordinate, greatest_coordinate}
use Rattle.mf_rows_edges.specs.declared.edge.Edge.{Edge}
use Rattle.mf_rows_edges.specs.Edges.{AreEdgesFrom, IsEdge, weight_in}
use Rattle.mf_rows_edges.proofs.EdgesLemmas.{edges_from-lower, weight_in-left, weight_in-right, weight_in-before}
use Rattle.mf_rows_strips.specs.declared.part_edges.PartEdges.{PartEdges}
use Rattle.mf_rows_strips.specs.PartEdges.{AreEnds, IsNextEdge, IsPassedTo, column_of, first_column_of, weight_in_all}

-- ---- the edges of one part

pub others_sorted : (es : List Edge) (e : Edge) (others : List Edge) → es ≡ e ∷ others → AreEdgesFrom least_coordinate es → AreEdgesFrom least_coordinate others
others_sorted es e others all sorted =
    let first = rw all at sorted in
    edges_from-lower least_coordinate (e.x +ℤ pos 1) others (omega (arith, ints, first.1)) first.2

-- to the left of the first edge, the weight is 0
pub before_first : (es : List Edge) (z : ℤ) → AreEdgesFrom least_coordinate es → z <ℤ column_of es → weight_in es z ≡ pos 0
unfolding weight_in
before_first [] z sorted lt = refl
before_first (e ∷ es) z sorted lt = weight_in-before e.x (e ∷ es) z (sorted.0, omega (arith, ints), sorted.2) lt

pub next_edge : (es : List Edge) (e : Edge) (others : List Edge) → es ≡ e ∷ others → AreEdgesFrom least_coordinate es → IsNextEdge (weight_in es) (weight_in others) e
next_edge es e others all sorted =
    let first = rw all at sorted in
    let passed : (z : ℤ) → z ≤ℤ e.x → weight_in others z ≡ pos 0 = λ z le. weight_in-before (e.x +ℤ pos 1) others z first.2 (omega (arith, ints)) in
    let here : weight_in (e ∷ others) e.x ≡ e.weight = omega (arith, ints, weight_in-left e others e.x (omega (arith, ints)), passed e.x (omega (arith, ints))) in
    rw all (record {
      within = first.0.column.greatest;
      nonzero = λ _. first.0.nonzero;
      weight = sym here;
      edge = record {
        left = λ z lt. before_first (e ∷ others) z first lt;
        right = λ z le. omega (arith, ints, here, weight_in-left e others z le);
        passed = passed;
      };
    })

pub next_further : (es : List Edge) (e : Edge) (others : List Edge) → es ≡ e ∷ others → AreEdgesFrom least_coordinate es → e.x <ℤ greatest_coordinate
    → e.x <ℤ column_of others
next_further es e [] all sorted lt = lt
next_further es e (f ∷ fs) all sorted lt = let first = rw all at sorted in omega (arith, ints, first.2.1)

pub no_edge : (es : List Edge) (e : Edge) → es ≡ [] → e.x ≡ greatest_coordinate → e.weight ≡ pos 0 → IsNextEdge (weight_in es) (weight_in es) e
unfolding weight_in
no_edge es e none end blank = rw none (record {
  within = omega (arith, ints);
  nonzero = λ lt. absurd (omega (arith, ints));
  weight = blank;
  edge = record { left = λ z _. refl; right = λ z _. refl; passed = λ z _. refl };
})

-- where there is no edge at a column or to the left of it
pub none_passed : (es : List Edge) (x : ℤ) → AreEdgesFrom least_coordinate es → x <ℤ column_of es → IsPassedTo x (weight_in es) (weight_in es)
none_passed es x sorted lt =
    let none : (z : ℤ) → z ≤ℤ x → weight_in es z ≡ pos 0 = λ z le. before_first es z sorted (omega (arith, ints)) in
    record { left = λ z lt. none z (omega (arith, ints)); right = λ z le. omega (arith, ints, none x (omega (arith, ints))); passed = none }

-- the edge of weight w at column x is the last one: from there on the row has the weight that it has at the end of the field
record IsLast (es : List Edge) (e : Edge) : Type 0 where
  edge : IsEdge e
  right : column_of es ≤ℤ e.x
  before : weight_in es (e.x -ℤ pos 1) ≡ weight_in es greatest_coordinate -ℤ e.weight
  after : (z : ℤ) → e.x ≤ℤ z → weight_in es z ≡ weight_in es greatest_coordinate

last_edge : (low : ℤ) (es : List Edge) (n : ℕ) (e : Edge) → AreEdgesFrom low es → length es ≡ suc n → Some e ≡ slice_get es n → IsLast es e
unfolding weight_in
last_edge low [] n e sorted long is = absurd (omega arith)
last_edge low (d ∷ []) zero e sorted long is =
    let same : d ≡ e = cc in
    let greatest = weight_in-left d [] greatest_coordinate sorted.0.column.greatest in
    subst (IsLast (d ∷ [])) same (record {
      edge = sorted.0;
      right = omega (arith, ints);
      before = omega (arith, ints, weight_in-right d [] (d.x -ℤ pos 1) (omega (arith, ints)), greatest);
      after = λ z le. omega (arith, ints, weight_in-left d [] z le, greatest);
    })
last_edge low (d ∷ []) (suc n) e sorted long is = absurd (omega arith)
last_edge low (d ∷ f ∷ es) zero e sorted long is = absurd (omega arith)
last_edge low (d ∷ f ∷ es) (suc n) e sorted long is =
    let rest = last_edge (d.x +ℤ pos 1) (f ∷ es) n e sorted.2 (omega arith) is in
    let further : d.x <ℤ e.x = omega (arith, ints, sorted.2.1, rest.right) in
    let greatest = weight_in-left d (f ∷ es) greatest_coordinate sorted.0.column.greatest in
    record {
      edge = rest.edge;
      right = omega (arith, ints, further);
      before = omega (arith, ints, weight_in-left d (f ∷ es) (e.x -ℤ pos 1) (omega (arith, ints, further)), greatest, rest.before);
      after = λ z le. omega (arith, ints, weight_in-left d (f ∷ es) z (omega (arith, ints, further)), greatest, rest.after z le);
    }

pub ends_of : (es : List Edge) (first last : Edge) → AreEdgesFrom least_coordinate es → weight_in es greatest_coordinate ≡ pos 0 → Some first ≡ slice_get es 0
    → Some last ≡ slice_get es (length es - 1) → AreEnds (weight_in es) first last
ends_of [] first last sorted closed is is_last = absurd cc
ends_of (e ∷ es) first last sorted closed is is_last =
    let same : e ≡ first = cc in
    let all : length (e ∷ es) - 1 ≡ length es = omega arith in
    let end = last_edge least_coordinate (e ∷ es) (length es) last sorted (omega arith) (rw all at is_last) in
    let edges = next_edge (e ∷ es) e es refl sorted in
    subst (λ first. AreEnds (weight_in (e ∷ es)) first last) same (record {
      first = sorted.0;
      last = end.edge;
      left = edges.edge.left;
      begins = sym edges.weight;
      ends = omega (arith, ints, end.before, closed);
      right = λ z le. end.after z le ∙ closed;
    })

-- ---- the edges of all parts

pub weight_in_all-more : (ps : List PartEdges) (i : ℕ) (d : PartEdges) → i < length ps → (z : ℤ)
    → weight_in_all (take (i + 1) ps) z ≡ weight_in_all (take i ps) z +ℤ weight_in (get_or ps i d).edges.now z
weight_in_all-more ps i d lt z = fold_more (λ w p. w +ℤ weight_in p.edges.now z) (pos 0) ps i d lt

pub weight_in_all-set : (ps : List PartEdges) (i : ℕ) (p : PartEdges) → i < length ps → (z : ℤ)
    → weight_in_all (take (i + 1) (set ps i p)) z ≡ weight_in_all (take i ps) z +ℤ weight_in p.edges.now z
weight_in_all-set ps i p lt z = ap (λ ps. weight_in_all ps z) (take_more_set ps i p lt) ∙ fold_push (λ w p. w +ℤ weight_in p.edges.now z) (pos 0) (take i ps) p

pub first_column_of-set : (ps : List PartEdges) (i : ℕ) (p : PartEdges) → i < length ps
    → first_column_of (take (i + 1) (set ps i p)) ≡ int_min (first_column_of (take i ps)) (column_of p.edges.now)
first_column_of-set ps i p lt = ap first_column_of (take_more_set ps i p lt) ∙ fold_push (λ x p. int_min x (column_of p.edges.now)) greatest_coordinate (take i ps) p

-- it is not to the right of the end of the field
columns_from : (ps : List PartEdges) → (first_column_of ps ≤ℤ greatest_coordinate) × All (λ x. first_column_of ps ≤ℤ x) (map (λ p. column_of p.edges.now) ps)
columns_from ps =
    fold-int_min_bounds greatest_coordinate (map (λ p. column_of p.edges.now) ps) (first_column_of ps) (sym (fold-map int_min (λ p. column_of p.edges.now) greatest_coordinate ps))

pub first_column_of-within : (ps : List PartEdges) → first_column_of ps ≤ℤ greatest_coordinate
first_column_of-within ps = (columns_from ps).0

pub first_column_of-least : (ps : List PartEdges) (i : ℕ) (d : PartEdges) → i < length ps → first_column_of ps ≤ℤ column_of (get_or ps i d).edges.now
first_column_of-least ps i d lt =
    subst (λ x. first_column_of ps ≤ℤ x) (get_or-map (λ p. column_of p.edges.now) ps i d (column_of d.edges.now) lt)
    (All-get_or (λ x. first_column_of ps ≤ℤ x) (map (λ p. column_of p.edges.now) ps) i (column_of d.edges.now)
    (omega (arith, length-map ps (λ (p : PartEdges). column_of p.edges.now))) (columns_from ps).1)

-- weights that are equal are passed alike
pub same_passed : {x : ℤ} {f g h k : ℤ → ℤ} → ((z : ℤ) → f z ≡ g z) → ((z : ℤ) → h z ≡ k z) → IsPassedTo x g k → IsPassedTo x f h
same_passed {x} {f} {g} {h} {k} before after passed = subst (λ f. IsPassedTo x f h) (λ i z. sym (before z) i) (subst (λ h. IsPassedTo x g h) (λ i z. sym (after z) i) passed)

-- the edges of a part more
pub both_passed : {x : ℤ} {f g h k : ℤ → ℤ} → IsPassedTo x f h → IsPassedTo x g k → IsPassedTo x (λ z. f z +ℤ g z) (λ z. h z +ℤ k z)
both_passed first second = record {
  left = λ z lt. omega (arith, ints, first.left z lt, second.left z lt);
  right = λ z le. omega (arith, ints, first.right z le, second.right z le);
  passed = λ z le. omega (arith, ints, first.passed z le, second.passed z le);
}

-- edges at a column that cancel
pub cancelled : (x : ℤ) (g h : ℤ → ℤ) → IsPassedTo x g h → g x ≡ pos 0 → (z : ℤ) → h z ≡ g z
cancelled x g h edge none z = by_lt_z z x (λ lt. edge.passed z (omega (arith, ints)) ∙ sym (edge.left z lt)) (λ le. omega (arith, ints, edge.right z le))

-- a single part
pub next_of_single : (ps : List PartEdges) (p new : PartEdges) (e : Edge) → length ps ≡ 1 → IsNextEdge (weight_in (get_or ps 0 p).edges.now) (weight_in new.edges.now) e
    → IsNextEdge (weight_in_all ps) (weight_in_all (set ps 0 new)) e
next_of_single [] p new e one next = absurd (omega arith)
next_of_single (q ∷ []) p new e one next = record {
  within = next.within;
  nonzero = next.nonzero;
  weight = omega (arith, ints, next.weight);
  edge = same_passed (λ z. omega (arith, ints)) (λ z. omega (arith, ints)) next.edge;
}
next_of_single (q ∷ q' ∷ ps) p new e one next = absurd (omega arith)

-- the edges of the first n parts, where those were written
pub first_written : (n : ℕ) (ps new : List PartEdges) → length new ≡ length (take n ps) → take n (new ++ drop n ps) ≡ new
first_written zero ps [] long = refl
first_written zero ps (p ∷ new) long = absurd (omega arith)
first_written (suc n) [] [] long = refl
first_written (suc n) [] (p ∷ new) long = absurd (omega arith)
first_written (suc n) (q ∷ ps) [] long = absurd (omega arith)
first_written (suc n) (q ∷ ps) (p ∷ new) long = ap (λ ps. p ∷ ps) (first_written n ps new (omega arith))
