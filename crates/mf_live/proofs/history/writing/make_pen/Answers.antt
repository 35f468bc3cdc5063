use Rattle.std.proofs.Common.{◌≡◌, ◌∙◌, sym, ap}
use Rattle.mf_live.specs.declared.history.Knowledge.{Knowledge}
use Rattle.mf_live.proofs.Writing.{make_moves}
use Rattle.mf_live.proofs.history.writing.make_pen.Goals as goal

pub compare_exchange-found-requires : goal.compare_exchange-found-requires
compare_exchange-found-requires c =
    let word = c.requires.word in
    let book : c.copy-at.result.seen.book ≡ c.args.word.now.book = ap (λ (k : Knowledge). k.seen.book) c.copy-at.ensures ∙ sym (ap (λ w. w.book) word) in (
      ap (λ w. w.tracked) word,
      book,
      c.no_pen-pen.ensures.0 ∙ book,
      c.plain-offer.ensures.0,
      rw (ap (λ w. w.key) word, c.no_pen-pen.ensures.1, c.plain-offer.ensures.3) (make_moves c.copy-at.result.seen.log),
    )
