use Rattle.mf_view.proofs.observer.note.Goals as goal

pub returns-in-Shipped : goal.returns-in-Shipped
returns-in-Shipped g c = rw c.in-Shipped.is c.note_shipped.ensures
