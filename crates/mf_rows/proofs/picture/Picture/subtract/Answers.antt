use Rattle.std.specs.Arc.{arc_value}
use Rattle.std.proofs.lemmas.Result.{on_ok_weaker}
use Rattle.mf_rows.proofs.PicturePiles.{difference_is, has_weights}
use Rattle.mf_rows.proofs.picture.Picture.subtract.Goals as goal

pub returns-clause-weights : goal.returns-clause-weights
returns-clause-weights c =
    let is = difference_is c.self.inside.pile (arc_value c.in_ok-part.part) c.in_ok-negated.negated c.args.other.now c.in_ok-part.ensures
    (rw c.deref.ensures at c.in_ok-negated.ensures.weights) in
    rw (← c.self.view_is) (on_ok_weaker c.add.result (λ has. has_weights c.add.new.self (rw c.in_ok-new.ensures.ok at has) (λ x y _ i. is i x y)) c.add.ensures.weights)

pub returns-clause-too_large : goal.returns-clause-too_large
returns-clause-too_large c =
    let is = difference_is c.self.inside.pile (arc_value c.in_ok-part.part) c.in_ok-negated.negated c.args.other.now c.in_ok-part.ensures
    (rw c.deref.ensures at c.in_ok-negated.ensures.weights) in
    rw (c.in_ok-new.ensures.ok, is, c.self.view_is) at c.add.ensures.too_large
