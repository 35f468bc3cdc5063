use Rattle.std.proofs.Common.{◌≡◌, pos, ◌+ℤ◌, ◌-ℤ◌, ◌-◌, to_z, of_z, w32, arith}
use Rattle.std.proofs.lemmas.Int.{ints}
use Rattle.std.proofs.lemmas.List.{append_assoc}
use Rattle.std.proofs.lemmas.Result.{IfOk-equal}
use Rattle.mf_text_show.proofs.run_text.push_line.Goals as goal

pub returns : goal.returns
returns c =
    let r = c.args.run.now in
    let last : to_z w32 (of_z w32 (to_z w32 (of_z w32 r.x) +ℤ to_z w32 (r.len - 1))) ≡ (r.x +ℤ pos r.len) -ℤ pos 1 = omega (arith, ints) in
    let first : to_z w32 (of_z w32 r.x) ≡ r.x = omega (arith, ints) in
    let row : to_z w32 (of_z w32 r.y) ≡ r.y = omega (arith, ints) in
    let weight : to_z w32 (of_z w32 r.weight) ≡ r.weight = omega (arith, ints) in
    IfOk-equal c.push_number-4.result _ _ _ c.push_number-4.ensures
    (rw (c.in_ok-push_number-3.ensures, c.in_ok-push_number-2.ensures, c.in_ok-push_number.ensures, last, first, row, weight) (simp append_assoc))
