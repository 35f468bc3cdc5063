use Rattle.std.proofs.Common.{arith, sym}
use Rattle.mf_live.proofs.WholePrefixes.{longer-of_whole, whole-trans, whole-longer, longer-long, longer-shorter, whole-same}
use Rattle.mf_live.proofs.viewer.Viewer.learn.Goals as goal
use Rattle.std.proofs.lemmas.Bool.{cases_lt}

pub returns-then-self-notice-clause-learnt : goal.returns-then-self-notice-clause-learnt
returns-then-self-notice-clause-learnt c =
    sym (grind (arith, cases_lt, longer-shorter, longer-long, whole-same, c.meets.ensures.this (omega arith)))

pub returns-then-self-notice-clause-keeps : goal.returns-then-self-notice-clause-keeps
returns-then-self-notice-clause-keeps c = λ L extends.
    let learns = whole-trans _ _ L (c.meets.ensures.this (omega arith)) extends.learnt in
    (record { looked = extends.looked; learnt = learns; seen = whole-longer _ _ L extends.looked learns }, extends.learnt)

pub returns-else-self-notice-clause-learnt : goal.returns-else-self-notice-clause-learnt
returns-else-self-notice-clause-learnt c = sym (longer-of_whole _ _ (c.meets.ensures.that (omega arith)))

pub returns-else-self-notice-clause-keeps : goal.returns-else-self-notice-clause-keeps
returns-else-self-notice-clause-keeps c = λ L extends. (extends, whole-trans _ _ L (c.meets.ensures.that (omega arith)) extends.learnt)
