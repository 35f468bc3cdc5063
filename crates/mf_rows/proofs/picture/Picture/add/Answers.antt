use Rattle.std.proofs.Common.{refl}
use Rattle.mf_base.proofs.Faults.{IfErr-raised}
use Rattle.mf_rows.proofs.picture.Picture.add.Goals as goal

pub returns-in_err-self-inside-clause-too_large : goal.returns-in_err-self-inside-clause-too_large
returns-in_err-self-inside-clause-too_large c = IfErr-raised _ _ c.from_residual.ensures.1 (λ other. absurd (other refl))

pub returns-in_err-part-clause-too_large : goal.returns-in_err-part-clause-too_large
returns-in_err-part-clause-too_large c = IfErr-raised _ _ c.from_residual-in_err-part.ensures.1 (λ other. absurd (other refl))
