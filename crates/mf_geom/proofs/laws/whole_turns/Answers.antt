-- The quarter turns are four times the crossings, which the winding number counts.
use Rattle.std.proofs.Common.{sym, ◌∙◌, ap, pos, ◌*ℤ◌}
use Rattle.mf_geom.proofs.Crossings.{quarters-crossings, winding-crossings}
use Rattle.mf_geom.proofs.laws.whole_turns.Goals as goal

pub returns : goal.returns
returns c ps x y cycle =
    quarters-crossings ps x y cycle ∙ ap (λ n. pos 4 *ℤ n) (sym (winding-crossings ps x y cycle))
