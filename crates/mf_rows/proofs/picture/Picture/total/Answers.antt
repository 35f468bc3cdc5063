use Rattle.std.proofs.Common.{◌≡◌, [], rules, ap, sym}
use Rattle.mf_rows.specs.Dots.{total_of}
use Rattle.mf_rows.proofs.PicturePiles.{blank_pile}
use Rattle.mf_rows.proofs.picture.Picture.total.Goals as goal

pub returns-then-is_empty-clause-value : goal.returns-then-is_empty-clause-value
unfolding total_of
returns-then-is_empty-clause-value c = let blank : c.args.self.now ≡ [] = search (rules, blank_pile) in ap total_of (sym blank)
