-- Parts that are reflected.
use Rattle.std.proofs.Common.{◌≡◌, ℕ, ◌+◌, ◌-◌, ◌≤◌, ℤ, List, [], ◌∷◌, length, take, drop, map, reverse}
use Rattle.std.proofs.Common.{get_or, refl, sym, ap, ◌∙◌, arith, ◌<◌, pos, neg_ℤ, ◌-ℤ◌, ◌≤ℤ◌, ◌<ℤ◌, ◌++◌, append_assoc}
use Rattle.std.proofs.lemmas.Int.{ints, by_lt_z}
use Rattle.std.proofs.lemmas.List.{ext_get_or, get_or-drop, get_or-reverse, get_or-take, length-drop, length-map, length-reverse, length-take-le, map_push, drop_more, reverse-append}
use Rattle.std.proofs.lemmas.List.Elements.{All-head, All-map, All-tail, All-nil, All-push}
use Rattle.mf_rows_edges.specs.declared.edge.Edge.{Edge}
use Rattle.mf_rows_edges.specs.Axes.{opposite}
use Rattle.mf_rows_edges.specs.Edges.{AreEdges, weight_in}
use Rattle.mf_rows_edges.specs.Reaches.{StaysInReach}
use Rattle.mf_rows_edges.proofs.EdgeChanges.{RowBecomes, move_row, opposite_edge, row_opposite}
use Rattle.mf_rows_edges.proofs.EdgesAt.{all_steps, no_edge, step_is_change}
use Rattle.mf_rows_strips.specs.declared.part.Part.{Part}
use Rattle.mf_rows_strips.specs.declared.strips.Head.{Head}
use Rattle.mf_rows_strips.specs.Heads.{strips_at, IsHead, AreHeads, strip_at}
use Rattle.mf_rows_strips.specs.Moves.{moved_columns, reflected_edge, reversed_head, moved_rows}
use Rattle.mf_rows_strips.specs.Parts.{strips_in, weight_in_part}
use Rattle.mf_rows_strips.proofs.Negations.{wrapped_negation}
use Rattle.mf_rows_strips.proofs.StripMaps.{AreLists, each_row, map_same, row_at-map, with_rows, starts_from}
use Rattle.mf_geom.specs.Coordinates.{least_coordinate, greatest_coordinate}
use Rattle.mf_rows_strips.specs.Strips.{AreAbove, AreStripsFrom, row_in, weight_in_strips}
use Rattle.mf_rows_strips.proofs.StripsLemmas.{row_in-below, row_in-from, row_in-pushed, row_in-kept, strips_push, no_edges, none_reached}

-- ---- heads

-- what stands in a list stands, reversed, in the reversed list
row_reversed : (es : List Edge) (n start count : ℕ) → n ≡ length es → start + count ≤ n
    → take count (drop (n - start - count) (reverse es)) ≡ reverse (take count (drop start es))
row_reversed es n start count all there =
    let old = length-take-le count (drop start es) (omega (arith, length-drop start es)) in
    let new = length-take-le count (drop (n - start - count) (reverse es)) (omega (arith, length-reverse es, length-drop (n - start - count) (reverse es))) in
    ext_get_or no_edge (take count (drop (n - start - count) (reverse es))) (reverse (take count (drop start es)))
    (omega (arith, old, new, length-reverse (take count (drop start es)))) (λ i lt. grind (arith, get_or-take, get_or-drop, get_or-reverse))

-- the edges of all strips, reflected
abbrev pub reflected_edges : List Edge → List Edge
reflected_edges es = reverse (map reflected_edge es)

strips_at-reversed : (es : List Edge) (hs : List Head) → AreHeads es hs
    → strips_at (reflected_edges es) (map (reversed_head (length es)) hs) ≡ with_rows reflected_edges (strips_at es hs)
strips_at-reversed es [] heads = refl
strips_at-reversed es (h ∷ hs) heads =
    let row : take h.count (drop (length es - h.start - h.count) (reflected_edges es)) ≡ reflected_edges (take h.count (drop h.start es)) =
    row_reversed (map reflected_edge es) (length es) h.start h.count (sym (length-map es reflected_edge)) (All-head (IsHead es) h hs heads).there
    ∙ ap reverse (row_at-map reflected_edge es h.start h.count) in
    λ i. record { top = h.top; edges = row i } ∷ strips_at-reversed es hs (All-tail (IsHead es) h hs heads) i

heads-reversed : (es : List Edge) (hs : List Head) → AreHeads es hs → AreHeads (reflected_edges es) (map (reversed_head (length es)) hs)
heads-reversed es hs heads =
    All-map (IsHead (reflected_edges es)) (reversed_head (length es)) hs
    (λ k d lt. record { there = omega (arith, (heads k d lt).there, length-reverse (map reflected_edge es), length-map es reflected_edge) })

-- ---- rows

row_reflected : (reach : ℤ) (es : List Edge) → AreEdges es → StaysInReach reach es → RowBecomes (move_row opposite) reach es (reflected_edges es)
row_reflected reach es edges reached =
    rw (map_same reflected_edge opposite_edge es (λ k d lt.
    let step = all_steps es edges.sorted k d lt in
    let column = step.edge.column in
    let x = wrapped_negation (get_or es k d).x (record { least = omega (arith, ints, column); greatest = omega (arith, ints, column) }) in
    let weight = wrapped_negation (get_or es k d).weight (step_is_change edges step) in
    λ i. record { x = x i; weight = weight i }))
    (row_opposite reach es edges reached)

pub lists_mirrored : (p : Part) → AreLists p (moved_columns opposite (weight_in_part p)) (reflected_edges p.edges.items) (map (reversed_head (length p.edges.items)) p.heads.items)
lists_mirrored p =
    let same = strips_at-reversed p.edges.items p.heads.items p.placed in
    let new = each_row reflected_edges (move_row opposite) p.reach (strips_in p) p.lawful refl (row_reflected p.reach) in
    record { placed = heads-reversed p.edges.items p.heads.items p.placed; lawful = rw same new.strips; weights = rw same new.weights }

-- ---- strips

-- the heads of strips from the bottom up, each with the row above it, which stands at `start`
abbrev pub opposite_heads : ℕ → ℕ → List Head → List Head
opposite_heads start count [] = []
opposite_heads start count (h ∷ hs) = opposite_heads h.start h.count hs ++ record { top = neg_ℤ h.top; count = count; start = start } ∷ []

record AreOpposite (es above : List Edge) (top reach : ℤ) (hs new : List Head) : Type 0 where
  placed : AreHeads es new
  strips : AreStripsFrom greatest_coordinate reach (strips_at es new)
  higher : (low : ℤ) → low <ℤ neg_ℤ top → AreAbove low (strips_at es new)
  rows : (last : List Edge) → row_in above (strips_at es hs) (least_coordinate -ℤ pos 1) ≡ last → (y : ℤ)
      → row_in last (strips_at es new) y ≡ row_in above (strips_at es hs) (opposite y)

opposites : (es : List Edge) (start count : ℕ) (top reach : ℤ) (hs : List Head) → start + count ≤ length es → AreHeads es hs → AreStripsFrom top reach (strips_at es hs)
    → top ≤ℤ greatest_coordinate → AreEdges (take count (drop start es)) → StaysInReach reach (take count (drop start es))
    → AreOpposite es (take count (drop start es)) top reach hs (opposite_heads start count hs)
unfolding row_in
opposites es start count top reach [] there heads strips high edges reached =
    record { placed = heads; strips = tt; higher = λ low lt. All-nil (λ s. low <ℤ s.top); rows = λ last end y. sym end }
opposites es start count top reach (h ∷ hs) there heads strips high edges reached =
    let above = take count (drop start es) in
    let s = strip_at es h in
    let ss = strips_at es hs in
    let t : Head = record { top = neg_ℤ h.top; count = count; start = start } in
    let ts = strips_at es (opposite_heads h.start h.count hs) in
    let le : s.top ≤ℤ top = strips.1 in
    let strip = strips.0 in
    let next = opposites es h.start h.count (s.top -ℤ pos 1) reach hs (All-head (IsHead es) h hs heads).there (All-tail (IsHead es) h hs heads) strips.2 (omega (arith, ints))
    strip.edges strip.reached in
    let lower = next.higher t.top (omega (arith, ints)) in
    let pushed : strips_at es (opposite_heads start count (h ∷ hs)) ≡ ts ++ strip_at es t ∷ [] = map_push (strip_at es) (opposite_heads h.start h.count hs) t in
    record {
      placed = All-push (IsHead es) (opposite_heads h.start h.count hs) t next.placed (record { there = there });
      strips = rw pushed (strips_push greatest_coordinate reach ts (strip_at es t) next.strips lower (omega (arith, ints, strip.bottom))
          (record { bottom = omega (arith, ints); edges = edges; reached = reached }));
      higher = λ low lt. rw pushed (All-push (λ s. low <ℤ s.top) ts (strip_at es t) (next.higher low (omega (arith, ints))) (omega (arith, ints)));
      rows = λ last end y. rw pushed (by_lt_z y t.top
          (λ lt. row_in-pushed last ts (strip_at es t) y lower lt ∙ sym (row_in-from above (s ∷ ss) (opposite y) (omega (arith, ints))))
          (λ ge.
          row_in-kept last ts (strip_at es t) y ge
          ∙ next.rows last (sym (row_in-below above s ss (least_coordinate -ℤ pos 1) (omega (arith, ints, strip.bottom))) ∙ end) y
          ∙ sym (row_in-below above s ss (opposite y) (omega (arith, ints)))));
    }

-- the next head goes before those that were written, once these are reversed
pub opposite_more : (whole hs done : List Head) (start count i : ℕ) (d : Head) → i < length hs
    → opposite_heads start count (drop i hs) ++ reverse done ≡ whole
    → opposite_heads (get_or hs i d).start (get_or hs i d).count (drop (i + 1) hs)
    ++ reverse (done ++ record { top = neg_ℤ (get_or hs i d).top; count = count; start = start } ∷ []) ≡ whole
opposite_more whole hs done start count i d inside so_far =
    let h = get_or hs i d in
    let t : Head = record { top = neg_ℤ h.top; count = count; start = start } in
    ap (λ ts. opposite_heads h.start h.count (drop (i + 1) hs) ++ ts) (reverse-append done (t ∷ []))
    ∙ sym (append_assoc (opposite_heads h.start h.count (drop (i + 1) hs)) (t ∷ []) (reverse done))
    ∙ ap (λ rest. opposite_heads start count rest ++ reverse done) (sym (drop_more hs i d inside)) ∙ so_far

pub lists_opposite : (p : Part) → AreLists p (moved_rows opposite (weight_in_part p)) p.edges.items (opposite_heads 0 0 p.heads.items)
unfolding weight_in_strips
lists_opposite p =
    let ss = strips_in p in
    let strips = p.lawful in
    let all = opposites p.edges.items 0 0 greatest_coordinate p.reach p.heads.items (omega arith) p.placed strips.strips (omega (arith, ints)) no_edges
    (none_reached p.reach strips.least strips.most) in
    let first = starts_from greatest_coordinate p.reach ss greatest_coordinate strips.strips (omega (arith, ints)) in
    let rows = all.rows [] strips.closed in
    record {
      placed = all.placed;
      lawful = record {
        strips = all.strips;
        closed = rows (least_coordinate -ℤ pos 1) ∙ row_in-from [] ss greatest_coordinate first;
        least = strips.least;
        most = strips.most;
      };
      weights = record { weights = λ x y. ap (λ es. weight_in es x) (rows y) };
    }
