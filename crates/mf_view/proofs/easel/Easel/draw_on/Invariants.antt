use Rattle.std.proofs.Common.{◌≡◌}
use Rattle.mf_base.specs.Messages.{receipt_of}
use Rattle.mf_view.specs.Drawings.{DrawsMore}
use Rattle.mf_view.specs.Easels.{HasSameManner, identity}
use Rattle.mf_view.proofs.easel.Easel.draw_on.Given as goal

-- it draws in the same manner, and only adds to what was drawn
abbrev pub invariant-loop : goal.invariant-loop
invariant-loop g l =
    (goal.iterator-loop g).can_next l.iterator' × (goal.iterator-loop g).is_finite l.iterator'
    × (identity l.self ≡ identity l.initial.self)
    × HasSameManner l.initial.self l.self
    × DrawsMore l.initial.self l.self (receipt_of g.W.Write.contents l.initial.screen l.screen)
