-- The lines of a picture's runs, written one after another.
use Rattle.std.proofs.Common.{◌≡◌, ℕ, List, [], ◌∷◌, ◌++◌, refl, sym, ap}
use Rattle.std.specs.List.{All, flat_map}
use Rattle.std.proofs.lemmas.List.Elements.{All-head, All-rest, All-same}
use Rattle.mf_rows.specs.declared.run.Run.{Run}
use Rattle.mf_rows.specs.Dots.{Dot, IsPicture}
use Rattle.mf_rows.specs.Order.{IsRun}
use Rattle.mf_rows.specs.Runs.{runs_of}
use Rattle.mf_rows.proofs.PassedRuns.{runs_are_lawful}
use Rattle.mf_text_show.proofs.Pieces.{piece_more, pieces_all}

-- with the texts of the last runs, rs, the text so far is whole
pub record AreWritten (line : Run → List ℕ) (whole : List ℕ) (rs : List Run) (text : List ℕ) : Type 0 where
  pub runs : All IsRun rs
  pub lines : text ++ flat_map line rs ≡ whole

pub none_written : (line : Run → List ℕ) {ds : List Dot} {rs : List Run} {old : List ℕ} → IsPicture ds → rs ≡ runs_of ds
    → AreWritten line (old ++ flat_map line (runs_of ds)) rs old
none_written line {ds} {rs} picture all = record { runs = runs_are_lawful ds rs picture all; lines = rw all refl }

pub first_is_lawful : (rs : List Run) (r : Run) (others : List Run) → rs ≡ r ∷ others → All IsRun rs → IsRun r
first_is_lawful rs r others first runs = All-head IsRun r others (All-same IsRun (r ∷ others) rs (sym first) runs)

pub one_more_written : (line : Run → List ℕ) {whole : List ℕ} {rs : List Run} {r : Run} {others : List Run} {text new : List ℕ} → rs ≡ r ∷ others
    → new ≡ text ++ line r → AreWritten line whole rs text → AreWritten line whole others new
one_more_written line {whole} {rs} {r} {others} {text} {new} first written so_far = record {
  runs = All-rest IsRun r others rs first so_far.runs;
  lines = piece_more text (line r) _ _ new whole written (ap (flat_map line) first) so_far.lines;
}

pub all_written : {line : Run → List ℕ} {whole : List ℕ} {rs : List Run} {text : List ℕ} → rs ≡ [] → AreWritten line whole rs text → text ≡ whole
all_written {line} {whole} {text = text} none so_far = pieces_all text _ whole (ap (flat_map line) none) so_far.lines
