use Rattle.std.proofs.Common.{◌≡◌, ◌+◌, ◌*◌, ◌≤◌, ◌++◌, List, ℕ, length}
use Rattle.mf_desk.specs.Performer.{longest_text}
use Rattle.mf_desk.specs.Progress.{GoesOn}
use Rattle.mf_desk_session.specs.Sessions.{identity, limits}
use Rattle.mf_desk.proofs.progress.Progress.take.Given as goal

abbrev pub invariant-lines : goal.invariant-lines
invariant-lines g l =
    (done : List ℕ)
    × (l.bytes ≡ done ++ l.rest)
    × (l.self.performer.written ≤ l.initial.self.performer.written + length done * longest_text)
    × GoesOn l.initial.self done (g.W.Write.contents l.initial.writer) (g.W.Write.contents l.writer) l.self
    × (limits l.self.performer.session ≡ limits l.initial.self.performer.session)
    × (identity l.self.performer.session ≡ identity l.initial.self.performer.session)

abbrev pub decreases-lines : goal.decreases-lines
decreases-lines g l = length l.rest
