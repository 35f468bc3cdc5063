use Rattle.std.proofs.Common.{refl}
use Rattle.mf_desk.proofs.AfterBytes.{IsAfter-unbroken}
use Rattle.mf_desk.proofs.progress.Progress.keep.Goals as goal

pub returns-clause-after : goal.returns-clause-after
returns-clause-after c = λ holds. record {
  goes_on = λ held read after. IsAfter-unbroken held holds read c.args.self.now after c.args.bytes.now _ c.requires refl c.in_ok-extend.ensures.added;
}
