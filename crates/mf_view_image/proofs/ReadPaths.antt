-- An SVG image, read back.
use Rattle.std.proofs.Common.{◌≡◌, length, ℕ, zero, suc, true, ℤ, pos, ◌+ℤ◌, ◌≤ℤ◌, List, [], ◌∷◌, ◌++◌, codes, refl, sym, ap, ◌∙◌, subst, append_assoc, arith}
use Rattle.std.specs.List.{All, flat_map}
use Rattle.std.specs.Ordering.{int_eq}
use Rattle.std.proofs.lemmas.Bool.{cond_both}
use Rattle.std.proofs.lemmas.Bool.Decides.{Decides-int_eq}
use Rattle.std.proofs.lemmas.Int.{ints, fold-int_min_bounds, fold-int_max_bounds}
use Rattle.std.proofs.lemmas.List.{append-nil}
use Rattle.std.proofs.lemmas.List.Elements.{All-head, All-tail}
use Rattle.mf_rows.specs.declared.run.Run.{Run}
use Rattle.mf_rows.specs.Dots.{Dot, IsPicture, weight_at}
use Rattle.mf_rows.specs.Order.{IsRun}
use Rattle.mf_rows.specs.Runs.{dots_of, runs_of}
use Rattle.mf_rows.proofs.RunsLemmas.{dots_of-runs_of}
use Rattle.mf_rows.proofs.PassedRuns.{runs_are_lawful}
use Rattle.mf_rows.specs.Boxes.{extent}
use Rattle.mf_view_image.specs.declared.svg_image.ViewBox.{ViewBox}
use Rattle.mf_view_image.specs.Reading.{rest_after, dots_in, read_svg}
use Rattle.mf_view_image.specs.Svg.{IsImageNumber, HasImageNumbers, axes, cover, greatest_weight_of, image, least_weight_of, opening}
use Rattle.mf_view_image.specs.Svg.{path_of_weight, paths, paths_from, rectangle, rectangle_of, svg_text, weights_of}
use Rattle.mf_view_image.proofs.ImageBoxes.{box_is_of_field, view_box_numbers}
use Rattle.mf_view_image.proofs.ReadTexts.{axes_read, cover_read, end_after, number_passed, number_read, opening_read, rectangle_read}
use Rattle.mf_view_image.proofs.ReadWeights.{dots_with, dots_with-append, dots_with-other, dots_with-same, dots_by_weight, weight_at-dots_by_weight, weight_of_runs}

-- ---- the rectangles of a path

rectangle_of_read : (w : ℤ) (r : Run) (rest : List ℕ) → IsRun r → dots_in true w (rectangle_of w r ++ rest) ≡ dots_with w (dots_of r) ++ dots_in true w rest
unfolding dots_of
rectangle_of_read w r rest run = grind (arith, ints, cond_both, dots_with, Decides-int_eq, dots_with-same, rectangle_read, dots_with-other)

rectangles_read : (w : ℤ) (rs : List Run) (rest : List ℕ) → All IsRun rs
    → dots_in true w (flat_map (rectangle_of w) rs ++ rest) ≡ dots_with w (flat_map dots_of rs) ++ dots_in true w rest
unfolding dots_with
rectangles_read w [] rest runs = refl
rectangles_read w (r ∷ rs) rest runs =
    grind (arith, ints, append_assoc, rectangle_of_read, All-head, dots_with, All-tail, dots_with-append, rectangles_read w rs rest (All-tail IsRun r rs runs))

-- an image may have the weight of a run
some_weight : (w : ℤ) (rs : List Run) (b : ℕ) (bs : List ℕ) → All IsRun rs → flat_map (rectangle_of w) rs ≡ b ∷ bs → IsImageNumber w
some_weight w [] b bs runs some = absurd (omega (arith, ap length some))
some_weight w (r ∷ rs) b bs runs some =
    cond_both (int_eq r.weight w) (rectangle r) [] (λ text. text ++ flat_map (rectangle_of w) rs ≡ b ∷ bs → IsImageNumber w)
    (λ yes _.
    let same : r.weight ≡ w = (Decides-int_eq r.weight w).0 yes in
    let lawful = (All-head IsRun r rs runs).lawful in
    omega (arith, ints, lawful))
    (λ _ others. some_weight w rs b bs (All-tail IsRun r rs runs) others) some

-- ---- a path

-- the path of a weight draws its rectangles, whatever path came before it
path_read : (w v : ℤ) (text : List ℕ) (dots : List Dot) (rest : List ℕ) (later : List Dot)
    → ((b : ℕ) (bs : List ℕ) → text ≡ b ∷ bs → IsImageNumber w)
    → ((more : List ℕ) → dots_in true w (text ++ more) ≡ dots ++ dots_in true w more)
    → ((u : ℤ) → dots_in true u rest ≡ later)
    → dots_in true v (path_of_weight w text ++ rest) ≡ dots ++ later
unfolding dots_in rest_after
path_read w v [] dots rest later small drawn others =
    let none : dots ≡ [] = sym (append-nil dots) ∙ sym (drawn []) in
    others v ∙ ap (λ ds. ds ++ later) (sym none)
path_read w v (b ∷ bs) dots rest later small drawn others = grind (arith, ints, end_after, cond_both, number_passed, append_assoc, number_read)

-- the paths of n weights from w on draw the dots of these weights
paths_read : (rs : List Run) (w : ℤ) (n : ℕ) (v : ℤ) (rest : List ℕ) → All IsRun rs → ((u : ℤ) → dots_in true u rest ≡ [])
    → dots_in true v (paths_from rs w n ++ rest) ≡ dots_by_weight (flat_map dots_of rs) w n
unfolding paths_from dots_by_weight
paths_read rs w zero v rest runs none = none v
paths_read rs w (suc n) v rest runs none =
    let text = flat_map (rectangle_of w) rs in
    let others = paths_from rs (w +ℤ pos 1) n in
    ap (dots_in true v) (append_assoc (path_of_weight w text) others rest)
    ∙ path_read w v text (dots_with w (flat_map dots_of rs)) (others ++ rest) (dots_by_weight (flat_map dots_of rs) (w +ℤ pos 1) n)
    (λ b bs some. some_weight w rs b bs runs some) (λ more. rectangles_read w rs more runs)
    (λ u. paths_read rs (w +ℤ pos 1) n u rest runs none)

-- ---- the image

-- nothing after the paths draws
tail_read : (s : ViewBox) (u : ℤ) → HasImageNumbers s → dots_in true u (codes "</g>\n" ++ (cover s (codes "url(#grid)") ++ (axes s ++ codes "</svg>\n"))) ≡ []
unfolding dots_in rest_after
tail_read s u small = cover_read u s (codes "url(#grid)") (axes s ++ codes "</svg>\n") small (λ rest. refl) ∙ axes_read u s (codes "</svg>\n") small

image_read : (s : ViewBox) (rs : List Run) → HasImageNumbers s → All IsRun rs
    → read_svg (image s rs) ≡ dots_by_weight (flat_map dots_of rs) (least_weight_of rs) (extent (least_weight_of rs) (greatest_weight_of rs))
unfolding image paths dots_in rest_after
image_read s rs small runs =
    let tail = codes "</g>\n" ++ (cover s (codes "url(#grid)") ++ (axes s ++ codes "</svg>\n")) in
    let ink = paths rs ++ tail in
    let group = codes "<g shape-rendering=\"crispEdges\">\n" ++ ink in
    let text : image s rs ≡ opening s ++ (cover s (codes "#fff") ++ group) = simp append_assoc in
    let begun : dots_in true (pos 0) group ≡ dots_in true (pos 0) ink = refl in
    ap (dots_in true (pos 0)) text ∙ opening_read (pos 0) s (cover s (codes "#fff") ++ group) small
    ∙ cover_read (pos 0) s (codes "#fff") group small (λ rest. refl) ∙ begun
    ∙ paths_read rs (least_weight_of rs) (extent (least_weight_of rs) (greatest_weight_of rs)) (pos 0) tail runs (λ u. tail_read s u small)

pub svg_read : (ds : List Dot) (x y : ℤ) → IsPicture ds → weight_at (read_svg (svg_text ds)) x y ≡ weight_at ds x y
unfolding svg_text
svg_read ds x y picture =
    let rs = runs_of ds in
    let runs = runs_are_lawful ds rs picture refl in
    let same : flat_map dots_of rs ≡ ds = dots_of-runs_of ds in
    let low = least_weight_of rs in
    let high = greatest_weight_of rs in
    let (low_none, low_all) = fold-int_min_bounds (pos 0) (weights_of rs) low refl in
    let (high_none, high_all) = fold-int_max_bounds (pos 0) (weights_of rs) high refl in
    let least : low ≤ℤ weight_at ds x y = subst (λ es. low ≤ℤ weight_at es x y) same (weight_of_runs (λ w. low ≤ℤ w) rs x y low_none low_all) in
    let greatest : weight_at ds x y ≤ℤ high = subst (λ es. weight_at es x y ≤ℤ high) same (weight_of_runs (λ w. w ≤ℤ high) rs x y high_none high_all) in
    grind (arith, ints, image_read, view_box_numbers, box_is_of_field, weight_at-dots_by_weight)
