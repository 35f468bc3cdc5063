use Rattle.std.proofs.Common.{◌≡◌, ◌∙◌, sym, ap, subst}
use Rattle.mf_live.specs.declared.event.Line.{Line}
use Rattle.mf_live.specs.Books.{greatest_limit}
use Rattle.mf_live.specs.Events.{event_of, events_of}
use Rattle.mf_live.specs.World.{May, new_world, world_after}
use Rattle.mf_live.proofs.Writing.{add_moves}
use Rattle.mf_live.proofs.history.writing.add_line.Goals as goal

pub compare_exchange-requires : goal.compare_exchange-requires
compare_exchange-requires g c =
    let word = c.requires.word in
    let pen = c.requires.pen in
    let book : c.args.known.now.seen.book ≡ c.args.word.now.book = sym (ap (λ w. w.book) word) in (
      ap (λ w. w.tracked) word,
      book,
      pen.book ∙ book,
      c.plain-offer.ensures.0,
      rw (ap (λ w. w.key) word, c.plain-offer.ensures.3) (add_moves c.args.known.now.seen.log c.args.pen.now.nib pen.right pen.next g.N.Writing.line (subst (λ (l : Line). May greatest_limit (world_after new_world (events_of c.args.known.now.seen.log)) (event_of l.event)) (sym c.requires.line) c.requires.may)),
    )
