use Rattle.std.proofs.Common.{sym}
use Rattle.mf_text.proofs.ReadInts.{short_int}
use Rattle.mf_text.proofs.int.Int.new.Goals as goal

pub returns-then-magnitude-lt1000000000 : goal.returns-then-magnitude-lt1000000000
returns-then-magnitude-lt1000000000 c = sym (short_int _ _ _)
