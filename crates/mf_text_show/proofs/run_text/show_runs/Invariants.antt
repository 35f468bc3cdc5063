use Rattle.std.proofs.Common.{flat_map}
use Rattle.mf_rows.specs.Runs.{runs_of}
use Rattle.mf_text_show.specs.RunText.{run_line}
use Rattle.mf_text_show.proofs.WrittenRuns.{AreWritten}
use Rattle.mf_text_show.proofs.run_text.show_runs.Given as goal

abbrev pub invariant-loop-run : goal.invariant-loop-run
invariant-loop-run l = AreWritten run_line (flat_map run_line (runs_of l.picture)) l.run-iterator l.text.items
