-- Strips whose rows are changed alike.
use Rattle.std.proofs.Common.{◌≡◌, ℕ, ℤ, pos, ◌-ℤ◌, ◌≤ℤ◌, ◌<ℤ◌, List, [], ◌∷◌, map, take, drop, refl, sym, ap, subst, ◌∙◌, arith}
use Rattle.std.specs.List.{All}
use Rattle.std.proofs.lemmas.Int.{ints, by_lt_z}
use Rattle.std.proofs.lemmas.List.{take-map, drop-map, length-map}
use Rattle.std.proofs.lemmas.List.Elements.{All-nil, All-cons, All-head, All-tail}
use Rattle.mf_geom.specs.Coordinates.{least_coordinate, greatest_coordinate, IsCoordinate}
use Rattle.mf_rows_edges.specs.declared.edge.Edge.{Edge}
use Rattle.mf_rows_edges.specs.Edges.{AreEdges, weight_in}
use Rattle.mf_rows_edges.specs.Reaches.{StaysInReach}
use Rattle.mf_rows_edges.proofs.EdgeChanges.{RowBecomes}
use Rattle.mf_rows_strips.specs.declared.part.Part.{Part}
use Rattle.mf_rows_strips.specs.declared.strips.Head.{Head}
use Rattle.mf_rows_strips.specs.Heads.{strips_at, AreHeads}
use Rattle.mf_rows_strips.specs.Strips.{EdgeStrip, AreStrips, AreStripsFrom, HaveStripWeights, row_in, weight_in_strips}
pub use Rattle.mf_rows_strips.proofs.StripsLemmas.{starts_from}
use Rattle.mf_rows_strips.proofs.StripsLemmas.{none_reached, no_edges, row_in-below, row_in-from, row_lawful, row_reached}

-- these edges and heads are those of a part of the reach of part p, with the weights f
pub record AreLists (p : Part) (f : ℤ → ℤ → ℤ) (es : List Edge) (hs : List Head) : Type 0 where
  pub placed : AreHeads es hs
  pub lawful : AreStrips p.reach (strips_at es hs)
  pub weights : HaveStripWeights f (strips_at es hs)

-- a strip with a changed row
abbrev pub with_row : (List Edge → List Edge) → EdgeStrip → EdgeStrip
with_row g s = record { top = s.top; edges = g s.edges }

abbrev pub with_rows : (List Edge → List Edge) → List EdgeStrip → List EdgeStrip
with_rows g ss = map (with_row g) ss

-- two maps that are equal at each of these
pub map_same : {X Y : Type 0} (f g : X → Y) (xs : List X) → All (λ x. f x ≡ g x) xs → map f xs ≡ map g xs
map_same f g [] same = refl
map_same f g (x ∷ xs) same = λ i. All-head (λ x. f x ≡ g x) x xs same i ∷ map_same f g xs (All-tail (λ x. f x ≡ g x) x xs same) i

-- where all edges that stand in a list are changed, so are all rows
pub row_at-map : (g : Edge → Edge) (es : List Edge) (start count : ℕ) → take count (drop start (map g es)) ≡ map g (take count (drop start es))
row_at-map g es start count = ap (take count) (drop-map g start es) ∙ take-map g count (drop start es)

pub strips_at-map : (g : Edge → Edge) (es : List Edge) (hs : List Head) → strips_at (map g es) hs ≡ with_rows (map g) (strips_at es hs)
strips_at-map g es [] = refl
strips_at-map g es (h ∷ hs) = λ i. record { top = h.top; edges = row_at-map g es h.start h.count i } ∷ strips_at-map g es hs i

pub heads-map : (g : Edge → Edge) (es : List Edge) (hs : List Head) → AreHeads es hs → AreHeads (map g es) hs
heads-map g es hs heads = λ k d lt. record { there = omega (arith, (heads k d lt).there, length-map es g) }

pub row_in-with_rows : (g : List Edge → List Edge) (above : List Edge) (ss : List EdgeStrip) (y : ℤ)
    → row_in (g above) (with_rows g ss) y ≡ g (row_in above ss y)
unfolding row_in
row_in-with_rows g above [] y = refl
row_in-with_rows g above (s ∷ ss) y = grind (arith, ints, by_lt_z, row_in-below, row_in-from, row_in-with_rows g s.edges ss y)

-- the heights of strips are coordinates
tops_in_range : (es : List Edge) (top reach : ℤ) (hs : List Head) → AreStripsFrom top reach (strips_at es hs) → top ≤ℤ greatest_coordinate
    → All (λ h. IsCoordinate h.top) hs
tops_in_range es top reach [] strips high = All-nil (λ h. IsCoordinate h.top)
tops_in_range es top reach (h ∷ hs) strips high =
    let le : h.top ≤ℤ top = strips.1 in
    All-cons (λ h. IsCoordinate h.top) h hs (record { least = strips.0.bottom; greatest = omega (arith, ints) })
    (tops_in_range es (h.top -ℤ pos 1) reach hs strips.2 (omega (arith, ints)))

pub tops_of_part : (p : Part) (hs : List Head) → hs ≡ p.heads.items → All (λ h. IsCoordinate h.top) hs
tops_of_part p hs same = rw same (tops_in_range p.edges.items greatest_coordinate p.reach p.heads.items p.lawful.strips (omega (arith, ints)))

pub rows_lawful : (reach : ℤ) (ss : List EdgeStrip) → AreStrips reach ss → (y : ℤ) → AreEdges (row_in [] ss y) × StaysInReach reach (row_in [] ss y)
rows_lawful reach ss strips y = (
  row_lawful greatest_coordinate reach [] ss y no_edges strips.strips,
  row_reached greatest_coordinate reach [] ss y (none_reached reach strips.least strips.most) strips.strips,
)

-- the rows of strips become those of others, whose weights are an image of theirs
pub record StripsBecome (image : (ℤ → ℤ) → ℤ → ℤ) (reach : ℤ) (ss new : List EdgeStrip) : Type 0 where
  pub strips : AreStrips reach new
  pub weights : HaveStripWeights (λ x y. image (λ z. weight_in_strips ss z y) x) new

module _ (g : List Edge → List Edge) (image : (ℤ → ℤ) → ℤ → ℤ) (reach : ℤ) where
  abbrev Becomes : List Edge → Type 0
  Becomes es = RowBecomes image reach es (g es)

  strips_from : (above : List Edge) (top : ℤ) (ss : List EdgeStrip) → AreStripsFrom top reach ss → ((y : ℤ) → y <ℤ top → Becomes (row_in above ss y))
      → AreStripsFrom top reach (with_rows g ss)
  strips_from above top [] strips rows = tt
  strips_from above top (s ∷ ss) strips rows =
      let le : s.top ≤ℤ top = strips.1 in
      let y = s.top -ℤ pos 1 in
      let own = row_in-below above s ss y (omega (arith, ints)) ∙ row_in-from s.edges ss y (starts_from y reach ss y strips.2 (omega (arith, ints))) in
      let row = subst Becomes own (rows y (omega (arith, ints))) in (
        record { bottom = strips.0.bottom; edges = row.edges; reached = row.reached },
        strips.1,
        strips_from s.edges y ss strips.2 (λ z lt. subst Becomes (row_in-below above s ss z (omega (arith, ints))) (rows z (omega (arith, ints)))),
      )

  module _ (ss : List EdgeStrip) (strips : AreStrips reach ss) where
    pub strips_become : g [] ≡ [] → ((y : ℤ) → Becomes (row_in [] ss y)) → StripsBecome image reach ss (with_rows g ss)
    unfolding weight_in_strips
    strips_become blank rows =
        let row : (y : ℤ) → row_in [] (with_rows g ss) y ≡ g (row_in [] ss y) =
        λ y. ap (λ es. row_in es (with_rows g ss) y) (sym blank) ∙ row_in-with_rows g [] ss y in
        record {
          strips = record {
            strips = strips_from [] greatest_coordinate ss strips.strips (λ y lt. rows y);
            closed = row (least_coordinate -ℤ pos 1) ∙ ap g strips.closed ∙ blank;
            least = strips.least;
            most = strips.most;
          };
          weights = record { weights = λ x y. ap (λ es. weight_in es x) (row y) ∙ (rows y).weights.weights x };
        }

    -- where each row of the reach becomes another
    pub each_row : g [] ≡ [] → ((es : List Edge) → AreEdges es → StaysInReach reach es → Becomes es) → StripsBecome image reach ss (with_rows g ss)
    each_row blank row = strips_become blank (λ y. row (row_in [] ss y) (rows_lawful reach ss strips y).0 (rows_lawful reach ss strips y).1)
