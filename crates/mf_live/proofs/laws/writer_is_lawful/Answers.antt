use Rattle.std.proofs.Common.{arith}
use Rattle.mf_live.proofs.Histories.{lawful}
use Rattle.mf_live.proofs.laws.writer_is_lawful.Goals as goal
use Rattle.std.proofs.lemmas.Int.{ints}

pub returns : goal.returns
returns c =
    let writer = c.args.writer.now in
    grind (arith, ints, lawful writer.holder)
