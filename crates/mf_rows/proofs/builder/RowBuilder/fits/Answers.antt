use Rattle.std.proofs.Common.{sym, ◌∙◌}
use Rattle.std.proofs.lemmas.Bool.{false≢true}
use Rattle.mf_rows.proofs.builder.RowBuilder.fits.Goals as goal

pub returns-else-is_lawful-clause-answer : goal.returns-else-is_lawful-clause-answer
returns-else-is_lawful-clause-answer c =
    (λ yes. absurd (false≢true (sym c.if-is_lawful.false ∙ yes)), λ fits. c.is_lawful.ensures.1 fits.run)
