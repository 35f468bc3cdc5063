use Rattle.mf_base.proofs.Messages.{message-counted}
use Rattle.mf_base.proofs.output.write_text.Goals as goal

pub returns-clause-front : goal.returns-clause-front
returns-clause-front g c =
    rw (← c.as_bytes.ensures.value) (message-counted _ _ c.write_counted.result _ c.write_counted.ensures.all c.write_counted.ensures.front)
