use Rattle.std.proofs.Common.{◌≡◌, w64, to_z, of_z, ap, ◌∙◌, append_assoc, arith}
use Rattle.std.proofs.lemmas.Int.{ints}
use Rattle.mf_desk.proofs.ended_run.viewer_line.Goals as goal

pub returns : goal.returns
returns c =
    let total = c.args.glance.total in
    let same : to_z w64 (of_z w64 total) ≡ total = omega (arith, ints) in
    simp append_assoc (ap (λ v. v.items) c.into_bytes.ensures.value ∙ rw same at c.in_ok-line.ensures.ok)
