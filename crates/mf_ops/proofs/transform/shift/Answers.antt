use Rattle.std.proofs.Common.{◌≡◌, true, refl, ap, ℤ, ◌-ℤ◌, FitsSigned, w32, to_z, of_z, ◌∙◌, arith}
use Rattle.std.proofs.lemmas.Bool.{both_ways}
use Rattle.std.proofs.lemmas.Int.{ints, to_z-of_z}
use Rattle.mf_rows_edges.specs.declared.stretch.Stretch.{Stretch}
use Rattle.mf_rows.specs.Dots.{weight_at}
use Rattle.mf_rows_edges.specs.Axes.{source_of}
use Rattle.mf_rows_edges.proofs.Sources.{source_of-is}
use Rattle.mf_ops.specs.Moves.{shift_by}
use Rattle.mf_ops.specs.declared.op.Op.TheVariants.{Shift}
use Rattle.mf_ops.proofs.Faults.{HasWeights-same, IsForWeights, made-from_weights, op_fault-leaves, not_out}
use Rattle.mf_ops.proofs.Leaving.{some_leaves, stays_in_field-shift}
use Rattle.mf_ops.proofs.transform.shift.Goals.{After-pixels_stay_inside}
use Rattle.mf_ops.proofs.transform.shift.Goals as goal

source_of-shift : (d q : ℤ) → source_of (shift_by d) q ≡ q -ℤ d
source_of-shift d q =
    source_of-is (shift_by d) (q -ℤ d) q (record { least = omega (arith, ints); greatest = omega (arith, ints) }) (omega (arith, ints)) (omega (arith, ints))

offset-read_back : (s : Stretch) (d : ℤ) → FitsSigned w32 d → s ≡ shift_by (to_z w32 (of_z w32 d)) → s ≡ shift_by d
offset-read_back s d fits is = is ∙ ap shift_by (to_z-of_z w32 d fits)

columns : (c : After-pixels_stay_inside) → c.stretch-columns.result ≡ shift_by c.args.right
columns c = offset-read_back _ c.args.right c.ranges.right c.stretch-columns.ensures

rows : (c : After-pixels_stay_inside) → c.stretch-rows.result ≡ shift_by c.args.up
rows c = offset-read_back _ c.args.up c.ranges.up c.stretch-rows.ensures

stays : (c : After-pixels_stay_inside) → c.pixels_stay_inside.result ≡ true → IsForWeights c.args.picture.now (Shift c.args.right c.args.up)
stays c inside = stays_in_field-shift _ _ _ (rw (columns c, rows c) at (c.pixels_stay_inside.ensures.0 inside))

pub returns-then-not-pixels_stay_inside-clause-refused : goal.returns-then-not-pixels_stay_inside-clause-refused
returns-then-not-pixels_stay_inside-clause-refused c =
    let after = (goal.at.returns-then-not-pixels_stay_inside-clause-refused c).After-pixels_stay_inside in
    let test = rw (columns after, rows after) at c.pixels_stay_inside.ensures.1 in
    λ other. op_fault-leaves _ (Shift c.args.right c.args.up) (record { none = refl })
    (some_leaves _ _ _ (λ inside. both_ways _ c.if-not-pixels_stay_inside.true (test inside)))

pub returns : goal.returns
returns c =
    let ds = c.args.picture.now in
    let op = Shift c.args.right c.args.up in
    let after = (goal.at.returns c).After-pixels_stay_inside in
    let inside = stays after c.if-not-pixels_stay_inside.false in
    let has =
    HasWeights-same _ _ _ (λ x y t. weight_at ds (source_of-shift c.args.right x t) (source_of-shift c.args.up y t))
    (rw (columns after, rows after) at c.in_ok-stretch.ensures.weights) in
    let made = made-from_weights ds op _ inside c.in_ok-stretch.ensures.lawful has in
    record { step = made.0; accepted = made.1; refused = tt; out_of_field = λ out. absurd (not_out ds op inside out) }

pub returns-in_err-stretch-clause-out_of_field : goal.returns-in_err-stretch-clause-out_of_field
returns-in_err-stretch-clause-out_of_field c out =
    absurd (not_out _ _ (stays (goal.at.returns-in_err-stretch-clause-out_of_field c).After-pixels_stay_inside c.if-not-pixels_stay_inside.false) out)
