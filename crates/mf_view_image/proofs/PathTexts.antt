-- The weights of runs, and the texts of their paths.
use Rattle.std.proofs.Common.{◌≡◌, ◌<◌, codes, length, ℕ, ℤ, pos, ◌+ℤ◌, ◌≤ℤ◌, List, [], ◌∷◌, ◌++◌, refl, sym, ap, ◌∙◌, arith}
use Rattle.std.specs.Int.{int_max, int_min}
use Rattle.std.specs.List.{All, flat_map, fold}
use Rattle.std.proofs.lemmas.Int.{ints, int_max_is, int_min_is}
use Rattle.std.proofs.lemmas.List.Elements.{All-rest}
use Rattle.mf_rows.specs.declared.run.Run.{Run}
use Rattle.mf_rows.specs.Dots.{Dot}
use Rattle.mf_rows.specs.Order.{IsRun}
use Rattle.mf_rows.specs.Runs.{runs_of}
use Rattle.mf_rows.specs.Boxes.{extent}
use Rattle.mf_text_show.proofs.Pieces.{piece_more, pieces_all}
use Rattle.mf_text_show.proofs.ShownRows.{extent-next, extent-none}
use Rattle.mf_text_show.proofs.WrittenRuns.{first_is_lawful}
use Rattle.std.specs.Fmt.{signed_decimal}
use Rattle.mf_rows_edges.specs.LawfulWeights.{least_weight, greatest_weight}
use Rattle.mf_view_image.specs.Svg.{color, greatest_weight_of, least_weight_of, path_of_weight, paths, paths_from, rectangle_of, weights_of}

-- ---- the span of weights

-- the least and the greatest weight of the first runs; with those of the others, rs, they are the least and the greatest of all
pub record AreSpanned (ds : List Dot) (rs : List Run) (least greatest : ℤ) : Type 0 where
  pub runs : All IsRun rs
  pub below : fold int_min least (weights_of rs) ≡ least_weight_of (runs_of ds)
  pub above : fold int_max greatest (weights_of rs) ≡ greatest_weight_of (runs_of ds)
  pub low : least_weight ≤ℤ least
  pub down : least ≤ℤ pos 0
  pub up : pos 0 ≤ℤ greatest
  pub high : greatest ≤ℤ greatest_weight

pub one_more_spanned : {ds : List Dot} {rs : List Run} {r : Run} {others : List Run} {least greatest low high : ℤ} → rs ≡ r ∷ others
    → low ≡ int_min least r.weight → high ≡ int_max greatest r.weight → AreSpanned ds rs least greatest → AreSpanned ds others low high
one_more_spanned {rs} {r} {others} {least} {greatest} first lesser greater so_far =
    let run = first_is_lawful rs r others first so_far.runs in
    record {
      runs = All-rest IsRun r others rs first so_far.runs;
      below = ap (λ w. fold int_min w (weights_of others)) lesser ∙ ap (λ all. fold int_min least (weights_of all)) (sym first) ∙ so_far.below;
      above = ap (λ w. fold int_max w (weights_of others)) greater ∙ ap (λ all. fold int_max greatest (weights_of all)) (sym first) ∙ so_far.above;
      low = omega (arith, ints, lesser, int_min_is least r.weight, run.lawful.least, so_far.low);
      down = omega (arith, ints, lesser, int_min_is least r.weight, so_far.down);
      up = omega (arith, ints, greater, int_max_is greatest r.weight, so_far.up);
      high = omega (arith, ints, greater, int_max_is greatest r.weight, run.lawful.greatest, so_far.high);
    }

pub all_spanned : {ds : List Dot} {rs : List Run} {least greatest : ℤ} → rs ≡ [] → AreSpanned ds rs least greatest
    → (least ≡ least_weight_of (runs_of ds)) × (greatest ≡ greatest_weight_of (runs_of ds))
all_spanned none so_far = grind (arith, ints)

-- ---- the paths

-- with the paths of the weights from w on, the text so far is whole
pub record ArePathsBefore (rs : List Run) (w greatest : ℤ) (text whole : List ℕ) : Type 0 where
  pub order : w ≤ℤ (greatest +ℤ pos 1)
  pub whole_is : text ++ paths_from rs w (extent w greatest) ≡ whole

pub one_more_path : {rs : List Run} {w greatest : ℤ} {text new whole : List ℕ} → w ≤ℤ greatest
    → new ≡ text ++ path_of_weight w (flat_map (rectangle_of w) rs) → ArePathsBefore rs w greatest text whole
    → ArePathsBefore rs (w +ℤ pos 1) greatest new whole
unfolding paths_from
one_more_path {rs} {w} {greatest} {text} {new} {whole} within pushed so_far = record {
  order = omega (arith, ints);
  whole_is = piece_more text (path_of_weight w (flat_map (rectangle_of w) rs)) _ _ new whole pushed (ap (paths_from rs w) (extent-next w greatest within))
      so_far.whole_is;
}

-- no path is left
pub all_paths : {rs : List Run} {w greatest : ℤ} {text whole : List ℕ} → w ≡ greatest +ℤ pos 1 → ArePathsBefore rs w greatest text whole → text ≡ whole
unfolding paths_from
all_paths {rs} {w} {greatest} {text} {whole} over so_far =
    pieces_all text _ whole (ap (paths_from rs w) (extent-none w greatest over)) so_far.whole_is

pub paths_are : (rs : List Run) (least greatest : ℤ) → least ≡ least_weight_of rs → greatest ≡ greatest_weight_of rs
    → paths_from rs least (extent least greatest) ≡ paths rs
unfolding paths
paths_are rs least greatest low high = rw (low, high) refl

-- ---- a path

pub path_of_some : (w : ℤ) (bs : List ℕ) → 0 < length bs
    → path_of_weight w bs ≡ codes "<path id=\"weight" ++ signed_decimal w ++ codes "\" fill=\"" ++ color w ++ codes "\" d=\"\n" ++ bs ++ codes "\"/>\n"
path_of_some w [] some = absurd (omega (arith, some))
path_of_some w (b ∷ bs) some = refl
