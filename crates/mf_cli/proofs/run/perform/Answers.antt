use Rattle.std.proofs.Common.{rules, inr, refl}
use Rattle.mf_base.proofs.Faults.{IfErr-raised}
use Rattle.mf_cli.proofs.run.perform.Goals as goal

pub returns-in_default-clause-done : goal.returns-in_default-clause-done
returns-in_default-clause-done g c =
    let outcome = c.in-Ok.outcome in
    (outcome.gf, record { all_read = c.in-Ok.ensures.end; outcome = outcome; gf_is = refl; performed = c.in-Ok.ensures.performance }, search rules)

pub returns-in_err-write_font-in-Some-gf-clause-fault : goal.returns-in_err-write_font-in-Some-gf-clause-fault
returns-in_err-write_font-in-Some-gf-clause-fault g c =
    let (count, fault_is, few) = c.in_err-write_font-in-Some-gf.ensures in
    IfErr-raised c.from_residual.result _ c.from_residual.ensures.1
    (inr (record {
      asked = search rules;
      count = count;
      fault_is = fault_is;
      gf = _;
      few = few;
      output = record { all_read = c.in-Ok.ensures.end; outcome = c.in-Ok.outcome; gf_is = search rules; performed = c.in-Ok.ensures.performance };
    }))

pub returns-in_ok-write_font-in-Some-gf-clause-done : goal.returns-in_ok-write_font-in-Some-gf-clause-done
returns-in_ok-write_font-in-Some-gf-clause-done g c =
    let outcome = c.in-Ok.outcome in (
      outcome.gf,
      record { all_read = c.in-Ok.ensures.end; outcome = outcome; gf_is = refl; performed = c.in-Ok.ensures.performance },
      λ asked. search rules,
    )
