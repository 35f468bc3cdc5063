use Rattle.std.proofs.Common.{◌≡◌, ℕ, true, nat_eq, List, length, [], ◌∷◌, ap, sym, ◌∙◌, refl, length-append, arith}
use Rattle.std.specs.List.{flat_map}
use Rattle.std.proofs.lemmas.Bool.{false≢true}
use Rattle.std.proofs.lemmas.List.{nil_from_length}
use Rattle.mf_rows.specs.declared.run.Run.{Run}
use Rattle.mf_rows.specs.Dots.{Dot}
use Rattle.mf_rows.specs.Runs.{runs_of}
use Rattle.mf_text_show.proofs.WrittenRuns.{all_written, first_is_lawful, none_written, one_more_written}
use Rattle.mf_text_show.specs.RunText.{run_line, run_text}
use Rattle.mf_text_show.proofs.run_text.show_runs.Goals as goal
use Rattle.mf_text_show.proofs.run_text.show_runs.Goals.{then-is_empty+in_ok-extend_from_slice, else-is_empty}
use Rattle.std.proofs.lemmas.Int.{ints}

-- a text of length 0 is empty
none_from_test : (text : List ℕ) → true ≡ nat_eq (length text) 0 → text ≡ []
none_from_test text test = nil_from_length text (grind (arith, test))

-- a line is not empty, so the text is empty only where there is no run
some_written : (rs : List Run) → flat_map run_line rs ≡ [] → rs ≡ []
some_written [] empty = refl
some_written (r ∷ rs) empty = absurd (omega (arith, simp length-append at (ap length empty)))

run_text-some : (rs : List Run) (ds : List Dot) → runs_of ds ≡ rs → (rs ≡ [] → ⊥) → run_text ds ≡ flat_map run_line (runs_of ds)
run_text-some [] ds same some = absurd (some refl)
run_text-some (r ∷ rs) ds same some = rw same refl

lines_text : (ds : List Dot) (text : List ℕ) → text ≡ flat_map run_line (runs_of ds) → (text ≡ [] → ⊥) → text ≡ run_text ds
lines_text ds text lines some = lines ∙ sym (run_text-some (runs_of ds) ds refl (λ blank. some (lines ∙ ap (λ all. flat_map run_line all) blank)))

pub loop-run-init : goal.loop-run-init
loop-run-init c =
    rw c.in_ok-text.ensures.items (none_written run_line {old = []} c.runs-run-items.ensures.lawful
    (rw c.into_iter-run-iterator.ensures.into_iter_gives c.runs-run-items.ensures.runs))

pub push_line-requires : goal.push_line-requires
push_line-requires c = first_is_lawful _ _ _ c.in-Some.ensures.steps c.loop-run.invariant.runs

pub loop-run-preserved : goal.loop-run-preserved
loop-run-preserved c = one_more_written run_line c.in-Some.ensures.steps c.in_ok-push_line.ensures c.loop-run.invariant

pub returns : goal.returns
returns c =
    let lines = all_written c.in-None.ensures.steps.0 c.loop-run.invariant in
    let count = c.loop-run.text.ok.0 in
    elim c.if-is_empty.branch [
      | then-is_empty+in_ok-extend_from_slice w ↦
          (let empty : c.loop-run.text.items ≡ [] = none_from_test c.loop-run.text.items (rw count at w.if-is_empty.ensures) in
          ap (λ v. v.items) w.text-is ∙ w.in_ok-extend_from_slice.ensures.items ∙ rw empty (grind (arith, ints, some_written)))
      | else-is_empty w ↦
          ap (λ v. v.items) w.text-is ∙ lines_text _ _ lines (λ empty. false≢true (w.if-is_empty.ensures ∙ rw (count, empty) refl))
    ]
