-- The runs that a walk over the weights of a picture still has ahead.
use Rattle.std.specs.Prelude.{◌≡◌, ℤ, ◌≤ℤ◌, ◌<ℤ◌, ◌+ℤ◌, pos, List, flat_map}
use Rattle.mf_rows.specs.declared.run.Run.{Run}
use Rattle.mf_rows.specs.Dots.{Dot, place, weight_at}
use Rattle.mf_rows.specs.Runs.{dots_of, with_next}
use Rattle.mf_text_show.specs.declared.grid.weights.Weights.{Weights}

-- the runs that a walk has ahead, and their dots
abbrev pub runs_ahead : Weights → List Run
runs_ahead w = with_next w.run w.runs

abbrev pub dots_ahead : Weights → List Dot
dots_ahead w = flat_map dots_of (runs_ahead w)

-- two lists of dots give the same weights to all pixels from a place on
pub record AreSameFrom (low : ℤ) (ds es : List Dot) : Type 0 where
  pub same : (x y : ℤ) → low ≤ℤ place x y → weight_at es x y ≡ weight_at ds x y

-- a run does not end before the pixel (x, y) in reading order: it has the pixel, or begins after it
pub record IsNotBefore (x y : ℤ) (r : Run) : Type 0 where
  pub end : place x y <ℤ place (r.x +ℤ pos r.len) r.y
