use Rattle.std.proofs.Common.{◌≡◌, FitsSigned, to_z, of_z, to_z-of_z, w32, rules, arith}
use Rattle.std.proofs.lemmas.Int.{ints}
use Rattle.mf_rows_strips.proofs.CornersLemmas.{joined_here, joined_after}
use Rattle.mf_rows_strips.proofs.corner.push_joined.Goals as goal

pub returns-then-x-corner : goal.returns-then-x-corner
returns-then-x-corner c =
    let d = c.args.last.now in
    let k = c.args.corner.now in
    let d_fits : FitsSigned w32 d.weight = search rules in
    let k_fits : FitsSigned w32 k.weight = search rules in
    let sum_fits : FitsSigned w32 c.in-Some.weight = search rules in
    let x_is : to_z w32 (of_z w32 d.x) ≡ d.x = omega (arith, ints) in
    let sum = rw (to_z-of_z d_fits, to_z-of_z k_fits) at c.in-Some.ensures.1 in
    rw (x_is, to_z-of_z sum_fits) (joined_here _ d k _ c.requires.edges (omega (arith, ints)) sum)

pub returns : goal.returns
returns c =
    let d = c.args.last.now in
    let k = c.args.corner.now in
    let k_fits : FitsSigned w32 k.weight = search rules in
    let x_is : to_z w32 (of_z w32 k.x) ≡ k.x = omega (arith, ints) in
    rw (c.in_ok-push_unless_zero.ensures.pushed, x_is, to_z-of_z k_fits) (joined_after _ d k c.requires.edges (omega (arith, ints)) c.requires.column)
