use Rattle.mf_gf.proofs.Shipped.{box_of_all-more, bytes_so_far-more, file-begins, shipments-more}
use Rattle.mf_gf.proofs.laws.one_character_more.Goals as goal

pub returns-clause-begins : goal.returns-clause-begins
returns-clause-begins c = file-begins

pub returns-clause-bytes : goal.returns-clause-bytes
returns-clause-bytes c = bytes_so_far-more

pub returns-clause-place : goal.returns-clause-place
returns-clause-place c = shipments-more

pub returns-clause-bounds : goal.returns-clause-bounds
returns-clause-bounds c b cs d = box_of_all-more b cs d
