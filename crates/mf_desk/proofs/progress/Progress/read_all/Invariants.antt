use Rattle.std.proofs.Common.{◌≡◌, ◌*◌, ◌≤◌, List, ℕ}
use Rattle.std.specs.Io.KnownBytes.{Consumes}
use Rattle.mf_desk.specs.Performer.{longest_read, longest_text}
use Rattle.mf_desk.specs.Progress.{IsAfter}
use Rattle.mf_desk_session.specs.Sessions.{identity, limits}
use Rattle.mf_desk.proofs.progress.Progress.read_all.Given as goal

abbrev pub invariant-reads : goal.invariant-reads
invariant-reads g l =
    (l.self.performer.written ≤ l.counter * (longest_read * longest_text))
    × ((read : List ℕ) × Consumes (g.R.Read.remaining l.initial.reader) (g.R.Read.remaining l.reader) read
    × IsAfter (g.W.Write.contents l.initial.writer) read l.self (g.W.Write.contents l.writer))
    × (limits l.self.performer.session ≡ limits l.initial.self.performer.session)
    × (identity l.self.performer.session ≡ identity l.initial.self.performer.session)
