use Rattle.mf_live.proofs.Looking.{one_history}
use Rattle.mf_live.proofs.notice.Notice.meets.Goals as goal

pub returns-clause-this : goal.returns-clause-this
returns-clause-this c few = one_history c.args.self.now c.args.other.now _ (rw c.copy-both.ensures at c.learn.ensures.2) c.learn.ensures.3 few

pub returns-clause-that : goal.returns-clause-that
returns-clause-that c few = one_history c.args.other.now c.args.self.now _ c.learn.ensures.3 (rw c.copy-both.ensures at c.learn.ensures.2) few
