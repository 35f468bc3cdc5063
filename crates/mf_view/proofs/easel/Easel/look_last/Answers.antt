use Rattle.std.proofs.Common.{◌∙◌, ap, refl, subst, sym}
use Rattle.mf_live.specs.Prefixes.{IsWholePrefix}
use Rattle.mf_live.specs.Viewers.{looked_at_list}
use Rattle.mf_view.proofs.Drawn.{HasDrawn_looked, ShowsLast_drawn}
use Rattle.mf_view.proofs.easel.Easel.look_last.Goals as goal

pub returns : goal.returns
returns g c = record {
  shown = λ first was.
      let taken = c.in_ok-sheet.ensures in
      let show = c.in_ok-show.ensures in
      let seen = subst (IsWholePrefix _) (sym taken.looked.looked) taken.extends.looked in
      ShowsLast_drawn c.args.self.now c.show.new.self _ _ (ap looked_at_list show.viewer ∙ taken.looked.looked) show.manner show.last
      (show.drawn first (HasDrawn_looked c.args.self.now _ _ seen refl refl was));
}
