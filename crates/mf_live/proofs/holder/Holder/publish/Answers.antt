use Rattle.std.proofs.Common.{◌≡◌, ◌∙◌, length, ap, arith}
use Rattle.mf_live.specs.declared.version.Version.{Version}
use Rattle.mf_live.specs.Holders.{accepted_list, published_list, version}
use Rattle.mf_live.proofs.Histories.{lawful}
use Rattle.mf_live.proofs.WholePrefixes.{whole-same}
use Rattle.mf_live.proofs.holder.Holder.publish.Goals as goal

pub returns-then-self-published-clause-published : goal.returns-then-self-published-clause-published
returns-then-self-published-clause-published g c =
    let h = c.args.self.now in
    let same : h.entries ≡ (version h).notice.entries = c.if-self-published.true ∙ ap (λ (x : Version). x.notice.entries) c.published.ensures in
    whole-same (published_list h) (accepted_list h) (lawful h).whole (omega (arith, h.counted, same, (version h).notice.counted, ap length h.shown_is))
