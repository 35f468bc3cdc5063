use Rattle.std.proofs.Common.{◌≡◌, to_z-of_z, ap, of_z, w32, arith}
use Rattle.std.proofs.lemmas.Int.{ints}
use Rattle.std.proofs.lemmas.List.{nil_from_length}
use Rattle.mf_rows_strips.specs.Corners.{BeginAtHeight}
use Rattle.mf_rows_strips.proofs.CornersLemmas.{height_none, height_more, height_all}
use Rattle.mf_rows_strips.proofs.corner.split_height.Goals.{in-Some+then-first-top, in_default}
use Rattle.mf_rows_strips.proofs.corner.split_height.Goals as goal

pub loop-first-init : goal.loop-first-init
loop-first-init c = rw (to_z-of_z c.ranges.top, c.clear.ensures.items) (height_none c.args.top c.args.corners.now c.requires.first c.requires.sorted)

pub push_joined-requires : goal.push_joined-requires
push_joined-requires c =
    let so_far = rw (to_z-of_z c.ranges.top, c.in-Some.ensures.cases.0) at c.loop-first.invariant in
    let here : c.in-Some.first.now.y ≡ c.args.top = omega (arith, ints, so_far.sorted.0) in
    record { edges = so_far.edges; order = so_far.sorted.1.column here; column = so_far.sorted.0.column }

pub loop-first-preserved : goal.loop-first-preserved
loop-first-preserved c =
    let so_far = rw (to_z-of_z c.ranges.top, c.in-Some.ensures.cases.0) at c.loop-first.invariant in
    let here : c.in-Some.first.now.y ≡ c.args.top = omega (arith, ints, so_far.sorted.0) in
    rw (to_z-of_z c.ranges.top) (height_more so_far here c.in_ok-last.ensures)

pub returns : goal.returns
returns c =
    let so_far = rw (to_z-of_z c.ranges.top) at c.loop-first.invariant in
    let lower = elim c.match-split_first.branch as (λ _. BeginAtHeight c.args.top c.loop-first.left.now → ⊥) [
      | in-Some+then-first-top w ↦ rw w.in-Some.ensures.cases.0 (λ here. w.if-first-top.true (ap (of_z w32) here))
      | in_default w ↦ rw (nil_from_length c.loop-first.left.now w.in_default.ensures.cases) (λ none. none)
    ] in
    rw c.in_ok-push_unless_zero.ensures.pushed (height_all so_far lower)
