use Rattle.std.proofs.Common.{w64, append_assoc}
use Rattle.std.proofs.lemmas.Int.{to_z-of_z}
use Rattle.std.proofs.lemmas.Result.{IfOk-equal}
use Rattle.mf_view_frame.proofs.frame.push_heading.Goals as goal

pub returns : goal.returns
returns c =
    let total = to_z-of_z w64 c.args.total c.ranges.total in
    IfOk-equal c.push-5.result _ _ _ c.push-5.ensures
    (rw (c.in_ok-push-4.ensures, c.in_ok-push-3.ensures, c.in_ok-push-2.ensures, c.in_ok-push.ensures, c.in_ok-push_line_start.ensures)
    (rw (c.as_bytes.ensures.value, c.as_bytes-2.ensures.value, c.format.ensures.text, c.format-2.ensures.text, total) (simp append_assoc)))
