use Rattle.std.proofs.Common.{ap, arith}
use Rattle.mf_live.specs.declared.version.Version.{Version}
use Rattle.mf_live.proofs.Ending.{published_list-few}
use Rattle.mf_live.proofs.writer.Writer.pending.Goals as goal

pub overflow_sub-result : goal.overflow_sub-result
overflow_sub-result c = omega (arith, ap (λ (x : Version). x.notice.revision) c.published.ensures, published_list-few c.args.self.now.holder)
