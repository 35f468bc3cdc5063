use Rattle.std.proofs.Common.{rules}
use Rattle.mf_rows.proofs.BlankPictures.{first_is_none}
use Rattle.mf_rows.proofs.PicturePiles.{blank_pile}
use Rattle.mf_rows.proofs.picture.Picture.is_blank.Goals as goal

pub returns-then-is_empty-clause-answer : goal.returns-then-is_empty-clause-answer
returns-then-is_empty-clause-answer c = search (rules, blank_pile)

pub returns-clause-answer : goal.returns-clause-answer
returns-clause-answer c = first_is_none c.next.result c.is_none.result _ _ _ c.next.ensures.steps c.is_none.ensures c.runs.ensures.runs
