use Rattle.std.proofs.Common.{[], sym, ap, ◌∙◌, append-nil}
use Rattle.mf_gf.specs.Painting.{head_of}
use Rattle.mf_gf.specs.Spelling.{spell}
use Rattle.mf_gf.proofs.CharactersRead.{head-spell}
use Rattle.mf_gf.proofs.laws.head_read_back.Goals as goal

pub returns : goal.returns
returns c code p ds fits p_fits set = ap head_of (sym (append-nil (spell code p ds))) ∙ head-spell code p ds [] fits p_fits set
