use Rattle.mf_live.proofs.Seats.{admits, forks, merges}
use Rattle.mf_live.proofs.desk.opening.seat_one.Goals as goal

pub reader-requires : goal.reader-requires
reader-requires c = admits

pub tell-note-requires : goal.tell-note-requires
tell-note-requires c = forks _ _

pub learn-requires-clause-rule : goal.learn-requires-clause-rule
learn-requires-clause-rule c = merges
