use Rattle.std.proofs.Common.{◌≡◌, to_z, of_z, w32, arith}
use Rattle.std.proofs.lemmas.Int.{ints}
use Rattle.mf_rows_strips.proofs.Negations.{lists_negated}
use Rattle.mf_rows_strips.proofs.negation.negated.Goals as goal

pub of-requires-clause-lawful : goal.of-requires-clause-lawful
of-requires-clause-lawful c =
    let same : to_z w32 (of_z w32 c.reach.result) ≡ c.args.part.now.reach = omega (arith, ints) in
    let lawful = (lists_negated c.args.part.now).lawful in
    rw same (grind (arith, ints))
