use Rattle.mf_live.specs.Events.{writer_event}
use Rattle.mf_live.proofs.history.History.write.Given as goal

-- what the writer does, and that the new pen writes next
abbrev pub ghosts-add_line : goal.ghosts-add_line
ghosts-add_line a = record { line = record { event = writer_event a._act; next = a._next.now.nib.key } }
