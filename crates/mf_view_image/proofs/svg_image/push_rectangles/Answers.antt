use Rattle.std.proofs.Common.{w32}
use Rattle.std.proofs.lemmas.Int.{to_z-of_z}
use Rattle.mf_text_show.proofs.WrittenRuns.{all_written, first_is_lawful, none_written, one_more_written}
use Rattle.mf_view_image.proofs.svg_image.push_rectangles.Goals as goal

pub loop-run-init : goal.loop-run-init
loop-run-init c = none_written _ c.runs-run-items.ensures.lawful (rw c.into_iter-run-iterator.ensures.into_iter_gives c.runs-run-items.ensures.runs)

pub push_if_weight-requires : goal.push_if_weight-requires
push_if_weight-requires c = first_is_lawful _ _ _ c.in-Some.ensures.steps c.loop-run.invariant.runs

pub loop-run-preserved : goal.loop-run-preserved
loop-run-preserved c = one_more_written _ c.in-Some.ensures.steps c.in_ok-push_if_weight.ensures c.loop-run.invariant

pub returns : goal.returns
returns c = rw (to_z-of_z w32 c.args.weight c.ranges.weight) at (all_written c.in-None.ensures.steps.0 c.loop-run.invariant)
