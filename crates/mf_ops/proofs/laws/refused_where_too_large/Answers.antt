use Rattle.mf_ops.proofs.Faults.{op_fault-too_large, lawful-accepted, too_large-refused}
use Rattle.mf_ops.proofs.laws.refused_where_too_large.Goals as goal

pub returns : goal.returns
returns c = record {
  refused = λ ds op turns stays. op_fault-too_large ds op (record { turns = turns; stays = stays });
  accepted = lawful-accepted;
  only = λ ds op refused.
      let is = too_large-refused ds op refused in
      (is.inside.turns, is.inside.stays, is.too_large);
}
