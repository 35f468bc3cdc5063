use Rattle.std.proofs.Common.{◌≡◌, ◌∙◌, sym, ap}
use Rattle.mf_live.specs.declared.history.Knowledge.{Knowledge}
use Rattle.mf_live.proofs.Writing.{confirm_moves}
use Rattle.mf_live.proofs.history.History.confirm.Goals as goal

pub compare_exchange-requires : goal.compare_exchange-requires
compare_exchange-requires c =
    let h = c.args.self.now in
    let book : c.learn.new.self.book ≡ h.word.book = c.learn.ensures.0 ∙ ap (λ (k : Knowledge). k.seen.book) c.copy-both.ensures ∙ sym (ap (λ w. w.book) h.word_is) in (
      ap (λ w. w.tracked) h.word_is,
      book,
      h.pen_is.book ∙ sym (ap (λ w. w.book) h.word_is),
      c.plain-offer.ensures.0,
      rw (ap (λ w. w.key) h.word_is, c.plain-offer.ensures.3) (confirm_moves c.learn.new.self.log h.pen.nib h.pen_is.right),
    )
