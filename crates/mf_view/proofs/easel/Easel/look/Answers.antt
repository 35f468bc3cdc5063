use Rattle.std.proofs.Common.{refl}
use Rattle.mf_view.proofs.Drawn.{HasDrawn_looked}
use Rattle.mf_view.proofs.easel.Easel.look.Goals as goal

pub returns-clause-drawn : goal.returns-clause-drawn
returns-clause-drawn g c = λ first was.
    let extends = c.in_ok-sheet.ensures.taken.look.extends in
    c.in_ok-revision.ensures.drawn first (HasDrawn_looked c.args.self.now _ _ extends.looked refl refl was)
