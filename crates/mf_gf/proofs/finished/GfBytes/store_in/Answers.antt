use Rattle.std.proofs.Common.{length, subst, sym, take_all, arith}
use Rattle.std.specs.Io.KnownBytes.{Appends}
use Rattle.mf_gf.proofs.finished.GfBytes.store_in.Goals as goal

pub returns-in-Err-clause-front : goal.returns-in-Err-clause-front
returns-in-Err-clause-front g c =
    let all = take_all (length c.args.self.now) c.args.self.now (omega arith) in
    (length c.args.self.now, subst (Appends _ _) (sym all) c.in_ok-write_to.ensures.all)
