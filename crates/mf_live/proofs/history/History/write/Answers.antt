use Rattle.std.proofs.Common.{◌∙◌, sym, ap, subst, List, [], ◌∷◌}
use Rattle.mf_live.specs.declared.event.Line.{Line}
use Rattle.mf_live.specs.Books.{greatest_limit, first_pen, word_of, pen_after}
use Rattle.mf_live.specs.Events.{events_of, writer_event}
use Rattle.mf_live.specs.World.{Happen, new_world}
use Rattle.mf_live.proofs.Histories.{events_of-append, Happen-line}
use Rattle.mf_live.proofs.Writing.{pen_after-push}
use Rattle.mf_live.proofs.history.History.write.Goals as goal

pub invariant_of-self : goal.invariant_of-self
invariant_of-self c =
    let h = c.args.self.now in
    let made = c.make_pen-next.ensures.pen in
    let added = c.add_line.ensures in
    let line : Line = record { event = writer_event c.args.act; next = c.make_pen-next.result.1.nib.key } in
    record {
      word_is = h.word_is ∙ ap word_of (sym added.book);
      pen_is = record {
        book = made.0 ∙ sym added.book;
        right = made.1;
        next = sym (ap (pen_after first_pen) added.log ∙ pen_after-push first_pen h.known.seen.log line);
      };
      lawful = subst (λ (ls : List Line). Happen greatest_limit new_world (events_of ls)) (sym added.log) (Happen-line h.known.seen.log line h.lawful c.requires);
    }

pub returns-clause-events : goal.returns-clause-events
returns-clause-events c = ap events_of c.add_line.ensures.log ∙ events_of-append c.args.self.now.known.seen.log (_ ∷ [])
