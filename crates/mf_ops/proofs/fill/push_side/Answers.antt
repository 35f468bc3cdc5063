use Rattle.std.proofs.Common.{◌≡◌, pos, neg_ℤ, ◌-ℤ◌, ◌∷◌, [], ◌++◌, ◌∙◌, sym, ap, append_assoc, arith, to_z, of_z, to_z-of_z, w32}
use Rattle.std.proofs.lemmas.Int.{ints}
use Rattle.mf_geom.specs.Path.{Segment}
use Rattle.mf_rows_strips.specs.declared.corner.Corner.{Corner}
use Rattle.mf_ops.proofs.Sides.{HasSide-vertical, HasSide-horizontal}
use Rattle.mf_ops.proofs.fill.push_side.Goals as goal

pub returns-in_ok-push-2 : goal.returns-in_ok-push-2
returns-in_ok-push-2 c =
    let from = c.args.from in
    let to = c.args.to in
    let segment : Segment = record { from = from; to = to } in
    let old = c.args.corners.now.items in
    let from_x : to_z w32 (of_z w32 from.x) ≡ from.x = omega (arith, ints) in
    let from_y : to_z w32 (of_z w32 from.y) ≡ from.y = omega (arith, ints) in
    let to_x : to_z w32 (of_z w32 to.x) ≡ to.x = omega (arith, ints) in
    let to_y : to_z w32 (of_z w32 to.y) ≡ to.y = omega (arith, ints) in
    let weight_is = to_z-of_z c.ranges.weight in
    let negated : to_z w32 (of_z w32 (pos 0 -ℤ c.args.weight)) ≡ neg_ℤ c.args.weight = omega (arith, ints) in
    let vertical : to.x ≡ from.x = sym to_x ∙ ap (to_z w32) (sym c.if-from-to.true) ∙ from_x in
    let first : Corner = record { x = from.x; y = from.y; weight = c.args.weight } in
    let second : Corner = record { x = to.x; y = to.y; weight = neg_ℤ c.args.weight } in
    let begun : c.push.new.self.items ≡ old ++ first ∷ [] = rw (from_x, from_y, weight_is) at c.in_ok-push.ensures.items in
    let ended : c.push-then-from-to.new.self.items ≡ c.push.new.self.items ++ second ∷ [] =
    rw (weight_is, to_x, to_y, negated) at c.in_ok-push-2.ensures.items in
    let both = ended ∙ (λ t. begun t ++ second ∷ []) ∙ append_assoc old (first ∷ []) (second ∷ []) in
    rw both (HasSide-vertical c.args.weight segment old c.requires.weight c.requires.from c.requires.to vertical)

pub returns-else-from-to : goal.returns-else-from-to
returns-else-from-to c = grind (arith, ints, sym, HasSide-horizontal)
