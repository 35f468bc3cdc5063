use Rattle.mf_live.proofs.Seats.{publishes}
use Rattle.mf_live.proofs.holder.publishing.show.Goals as goal

pub replace_with-requires : goal.replace_with-requires
replace_with-requires g c = publishes _ _ c.args.swap.now.desk.shown.value c.args.version c.requires.book c.requires.prefix
