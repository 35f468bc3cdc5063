use Rattle.std.proofs.Common.{[], refl, inl, arith}
use Rattle.mf_desk.proofs.Performances.{Performs-over, TellsOfRun-unfinished}
use Rattle.mf_desk.proofs.ended_run.EndedRun.conclude.Goals as goal

pub returns-in-Ok-clause-performance : goal.returns-in-Ok-clause-performance
returns-in-Ok-clause-performance g c = λ looks s seen ends.
    Performs-over c.args.settings.now _ s c.args.self ends looks _
    (λ characters keeps. (
      λ long. let refused = (c.finish_if_any.ensures.too_long [] characters keeps).0 long in absurd (cc),
      c.in-Ok.ensures.value [] characters keeps,
    )) refl seen

pub returns-in-Err-FileTooLong-clause-fault : goal.returns-in-Err-FileTooLong-clause-fault
returns-in-Err-FileTooLong-clause-fault g c = λ s all_read ends.
    TellsOfRun-unfinished c.args.settings.now _ s c.args.self ends _ all_read
    (λ _ characters keeps. (c.finish_if_any.ensures.too_long [] characters keeps).1 (grind arith)) (inl refl)
