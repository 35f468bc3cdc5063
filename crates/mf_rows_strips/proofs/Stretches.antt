-- Parts whose columns and rows are stretched, where all pixels of nonzero weight stay in the field.
use Rattle.std.proofs.Common.{◌≡◌, ◌≤◌, ◌*◌, mul-le-mul, ℤ, ◌*ℤ◌, FitsSigned, unsigned_abs, w32, ap, ◌∙◌, arith, ◌≢◌}
use Rattle.std.proofs.Common.{pos, ◌+ℤ◌, ◌-ℤ◌, ◌≤ℤ◌, ◌<ℤ◌, List, [], ◌∷◌, refl, sym, map, get_or}
use Rattle.std.specs.Int.{int_wrapping_add, int_wrapping_mul}
use Rattle.std.proofs.lemmas.Int.{ints, unsigned_abs-mul, fits_signed_from_abs, wrapping_mul_is, wrapping_add_is, int_wrap_fits, by_lt_z}
use Rattle.mf_geom.specs.Coordinates.{greatest_coordinate, IsCoordinate, least_coordinate}
use Rattle.mf_rows_edges.specs.declared.stretch.Stretch.{Stretch}
use Rattle.mf_rows_edges.specs.Axes.{IsStretch, target_of, StaysInside, source_of}
use Rattle.mf_rows_edges.proofs.EdgeChanges.{size-at_most, EdgesStayInside, RowBecomes, move_row, row_stretched, target_edge}
use Rattle.std.specs.List.{filter_map}
use Rattle.std.proofs.lemmas.Bool.{cond-true, cond-false}
use Rattle.std.proofs.lemmas.List.Elements.{All-cons, All-head, All-tail}
use Rattle.mf_rows_edges.specs.declared.edge.Edge.{Edge}
use Rattle.mf_rows_edges.proofs.Sources.{target_of-lt, source_of-reached, source_of-from}
use Rattle.mf_rows_strips.specs.declared.strips.Head.{Head}
use Rattle.mf_rows_strips.specs.Heads.{strip_at, strips_at, IsHead, AreHeads}
use Rattle.mf_rows_strips.specs.Moves.{stretched_head, StripsStayInside, moved_columns, moved_rows, stretched_edge}
use Rattle.mf_rows_strips.specs.Strips.{AreStripsFrom, row_in, weight_in_strips}
use Rattle.mf_rows_strips.proofs.StripMaps.{starts_from, AreLists, StripsBecome, heads-map, map_same, rows_lawful, strips_at-map, strips_become}
use Rattle.mf_rows_strips.proofs.StripsLemmas.{blank_row, no_edges, row_in-below, row_in-from}
use Rattle.mf_rows_edges.specs.Edges.{weight_in, AreEdges, AreEdgesFrom}
use Rattle.mf_rows_edges.specs.Reaches.{StaysInReach}
use Rattle.mf_rows_edges.proofs.EdgesAt.{all_steps}
use Rattle.mf_rows_strips.specs.declared.part.Part.{Part}
use Rattle.mf_rows_strips.specs.Parts.{strips_in, weight_in_part}

-- where the stretched point is in range, 32 bits hold all numbers on the way to it
wrapped_is : (s : Stretch) (p : ℤ) → IsCoordinate p → IsStretch s → IsCoordinate (target_of s p)
    → int_wrapping_add w32 (int_wrapping_mul w32 p s.factor) s.offset ≡ target_of s p
wrapped_is s p point stretch inside =
    let small : unsigned_abs (p *ℤ s.factor) ≤ unsigned_abs greatest_coordinate * unsigned_abs greatest_coordinate =
    grind (arith, ints, unsigned_abs-mul, mul-le-mul, size-at_most) in
    let fits : FitsSigned w32 (p *ℤ s.factor) = fits_signed_from_abs w32 (p *ℤ s.factor) (omega (arith, small)) in
    let product : int_wrapping_mul w32 p s.factor ≡ p *ℤ s.factor =
    wrapping_mul_is w32 p s.factor (omega (arith, ints)) (omega (arith, ints)) ∙ int_wrap_fits w32 (p *ℤ s.factor) fits in
    ap (λ q. int_wrapping_add w32 q s.offset) product
    ∙ wrapping_add_is w32 (p *ℤ s.factor) s.offset fits (omega (arith, ints, small))
    ∙ int_wrap_fits w32 (target_of s p) (omega (arith, ints))

-- ---- rows

by_zero : {P : Type 0} (w : ℤ) → (w ≡ pos 0 → P) → (w ≢ pos 0 → P) → P
by_zero w zero nonzero =
    by_lt_z w (pos 0) (λ lt. nonzero (λ none. omega (arith, ints)))
    (λ ge. by_lt_z (pos 0) w (λ gt. nonzero (λ none. omega (arith, ints))) (λ le. zero (omega (arith, ints))))

-- a row no weight of which can be other than 0 has no edges
blank : (es : List Edge) → AreEdges es → ((x : ℤ) → weight_in es x ≢ pos 0 → ⊥) → es ≡ []
blank es edges none = blank_row least_coordinate es edges.sorted (λ x. by_zero (weight_in es x) (λ zero. zero) (λ nonzero. absurd (none x nonzero)))

by_range : {P : Type 0} (x : ℤ) → (IsCoordinate x → P) → ((IsCoordinate x → ⊥) → P) → P
by_range x inside outside =
    by_lt_z x least_coordinate (λ lower. outside (λ here. omega (arith, ints, here.least)))
    (λ least. by_lt_z greatest_coordinate x (λ higher. outside (λ here. omega (arith, ints, here.greatest)))
    (λ greatest. inside (record { least = least; greatest = greatest })))

-- heads whose rows come from those of others
record AreStretched (s : Stretch) (es above : List Edge) (high reach : ℤ) (hs new : List Head) : Type 0 where
  placed : AreHeads es new
  strips : AreStripsFrom high reach (strips_at es new)
  rows : (y : ℤ) → row_in above (strips_at es new) y ≡ row_in above (strips_at es hs) (source_of s y)

module _ (s : Stretch) (stretch : IsStretch s) (es : List Edge) (reach : ℤ) where
  source_of-before : (p q : ℤ) → q <ℤ target_of s p → source_of s q <ℤ p
  source_of-before p q lt =
      by_lt_z (source_of s q) p (λ before. before) (λ ge. let reached = source_of-reached s p q stretch ge in absurd (omega (arith, ints)))

  -- A strip that would begin outside the field is left out, since it and the row above it are blank: the pixels that are not 0 stay in
  -- the field.
  stretched : (above : List Edge) (top high : ℤ) (hs : List Head) → AreEdges above → AreHeads es hs → AreStripsFrom top reach (strips_at es hs)
      → ((x y : ℤ) → y ≤ℤ top → weight_in (row_in above (strips_at es hs) y) x ≢ pos 0 → StaysInside s y)
      → ((p : ℤ) → p ≤ℤ top → IsCoordinate (target_of s p) → target_of s p ≤ℤ high) → AreStretched s es above high reach hs (filter_map (stretched_head s) hs)
  unfolding row_in
  stretched above top high [] edges heads strips stay right = record { placed = heads; strips = tt; rows = λ y. refl }
  stretched above top high (h ∷ hs) edges heads strips stay right =
      let t = strip_at es h in
      let ts = strips_at es hs in
      let new : Head = record { top = target_of s h.top; count = h.count; start = h.start } in
      let le : t.top ≤ℤ top = strips.1 in
      let low = t.top -ℤ pos 1 in
      let others = All-tail (IsHead es) h hs heads in
      let under : (x y : ℤ) → y ≤ℤ low → weight_in (row_in t.edges ts y) x ≢ pos 0 → StaysInside s y =
      λ x y lower some. stay x y (omega (arith, ints)) (rw (row_in-below above t ts y (omega (arith, ints))) some) in
      let row_at : row_in t.edges ts low ≡ t.edges = row_in-from t.edges ts low (starts_from low reach ts low strips.2 (omega (arith, ints))) in
      by_range new.top
      (λ here.
      let kept : filter_map (stretched_head s) (h ∷ hs) ≡ new ∷ filter_map (stretched_head s) hs = grind (arith, ints, cond-true) in
      let next = stretched t.edges low (new.top -ℤ pos 1) hs strips.0.edges others strips.2 under
      (λ p lower _. let before = target_of-lt s p t.top stretch (omega (arith, ints)) in omega (arith, ints)) in
      let news = strips_at es (filter_map (stretched_head s) hs) in
      rw kept (record {
        placed = All-cons (IsHead es) new (filter_map (stretched_head s) hs) (record { there = (All-head (IsHead es) h hs heads).there }) next.placed;
        strips = (record { bottom = here.least; edges = strips.0.edges; reached = strips.0.reached }, right t.top le here, next.strips);
        rows = λ y. by_lt_z y new.top
            (λ lt. row_in-below above (strip_at es new) news y lt ∙ next.rows y ∙ sym (row_in-below above t ts (source_of s y) (source_of-before t.top y lt)))
            (λ ge. row_in-from above (strip_at es new ∷ news) y ge ∙ sym (row_in-from above (t ∷ ts) (source_of s y) (source_of-from s t.top y stretch ge)));
      }))
      (λ outside.
      let left_out : filter_map (stretched_head s) (h ∷ hs) ≡ filter_map (stretched_head s) hs = grind (arith, ints, cond-false) in
      let at : row_in above (t ∷ ts) t.top ≡ above = row_in-from above (t ∷ ts) t.top (omega (arith, ints)) in
      let end : low +ℤ pos 1 ≡ t.top = omega (arith, ints) in
      let same : above ≡ t.edges =
      blank above edges (λ x some. outside (stay x t.top le (rw at some)).start)
      ∙ sym (blank t.edges strips.0.edges (λ x some. outside (rw end at (under x low (omega (arith, ints)) (rw row_at some)).end))) in
      let next = stretched t.edges low high hs strips.0.edges others strips.2 under (λ p lower. right p (omega (arith, ints))) in
      rw left_out (record {
        placed = next.placed;
        strips = next.strips;
        rows = λ y. ap (λ row. row_in row (strips_at es (filter_map (stretched_head s) hs)) y) same ∙ next.rows y ∙ by_lt_z (source_of s y) t.top
            (λ lt. sym (row_in-below above t ts (source_of s y) lt))
            (λ ge.
            row_in-from t.edges ts (source_of s y) (starts_from low reach ts (source_of s y) strips.2 (omega (arith, ints)))
            ∙ sym same ∙ sym (row_in-from above (t ∷ ts) (source_of s y) ge));
      }))

-- ---- edges

-- the pixel at an edge or the one to its left is not 0, and the edge goes to an end of that pixel's stretched part
edges_stay : (s : Stretch) (es : List Edge) → AreEdgesFrom least_coordinate es
    → ((x : ℤ) → weight_in es x ≢ pos 0 → StaysInside s x) → EdgesStayInside s es
edges_stay s es edges inside = λ k d lt.
    let e = get_or es k d in
    let step = all_steps es edges k d lt in
    by_zero (weight_in es e.x)
    (λ zero.
    let left = inside (e.x -ℤ pos 1) (λ none. step.edge.nonzero (omega (arith, ints, step.weight))) in
    let same : (e.x -ℤ pos 1) +ℤ pos 1 ≡ e.x = omega (arith, ints) in
    rw same at left.end)
    (λ nonzero. (inside e.x nonzero).start)

row_wide : (s : Stretch) (reach : ℤ) (es : List Edge) → IsStretch s → AreEdges es → StaysInReach reach es → EdgesStayInside s es
    → RowBecomes (move_row (source_of s)) reach es (map (stretched_edge s) es)
row_wide s reach es stretch edges reached inside =
    rw (map_same (stretched_edge s) (target_edge s) es (λ k d lt.
    let column = wrapped_is s (get_or es k d).x (all_steps es edges.sorted k d lt).edge.column stretch (inside k d lt) in
    λ i. record { x = column i; weight = (get_or es k d).weight }))
    (row_stretched s stretch reach es edges reached inside)

-- ---- strips

pub lists_stretched : (p : Part) (columns rows : Stretch) → IsStretch columns → IsStretch rows → StripsStayInside columns rows (strips_in p)
    → AreLists p (moved_rows (source_of rows) (moved_columns (source_of columns) (weight_in_part p)))
    (map (stretched_edge columns) p.edges.items) (filter_map (stretched_head rows) p.heads.items)
unfolding weight_in_strips
lists_stretched p columns rows across up inside =
    let g = map (stretched_edge columns) in
    let es = g p.edges.items in
    let hs = p.heads.items in
    let ss = strips_in p in
    let wide : StripsBecome (move_row (source_of columns)) p.reach ss (strips_at es hs) =
    rw (strips_at-map (stretched_edge columns) p.edges.items hs) (strips_become g (move_row (source_of columns)) p.reach ss p.lawful refl (λ y.
    let row = rows_lawful p.reach ss p.lawful y in
    row_wide columns p.reach (row_in [] ss y) across row.0 row.1 (edges_stay columns (row_in [] ss y) row.0.sorted (λ x. inside.across x y)))) in
    let stay : (x y : ℤ) → weight_in (row_in [] (strips_at es hs) y) x ≢ pos 0 → StaysInside rows y =
    λ x y some. inside.up (source_of columns x) y (λ zero. some (wide.weights.weights x y ∙ zero)) in
    let new = stretched rows up es p.reach [] greatest_coordinate greatest_coordinate hs no_edges
    (heads-map (stretched_edge columns) p.edges.items hs p.placed) wide.strips.strips (λ x y _. stay x y) (λ q le here. here.greatest) in
    let low = least_coordinate -ℤ pos 1 in
    let source = source_of rows low in
    record {
      placed = new.placed;
      lawful = record {
        strips = new.strips;
        closed = new.rows low ∙ blank (row_in [] (strips_at es hs) source) (rows_lawful p.reach (strips_at es hs) wide.strips source).0 (λ x some.
            let reached = source_of-reached rows source low up (omega (arith, ints)) in
            omega (arith, ints, (stay x source some).start.least));
        least = p.lawful.least;
        most = p.lawful.most;
      };
      weights = record { weights = λ x y. ap (λ es. weight_in es x) (new.rows y) ∙ wide.weights.weights x (source_of rows y) };
    }
