use Rattle.std.proofs.Common.{sym, ◌∙◌}
use Rattle.std.proofs.lemmas.Bool.{both_ways}
use Rattle.mf_ops.proofs.Leaving.{PixelsStayInside-from_sides, sides_from_StayInside, read_back, IsLeastBox-read_back, sides_read_back}
use Rattle.mf_ops.proofs.transform.pixels_stay_inside.Goals as goal
use Rattle.mf_ops.proofs.transform.pixels_stay_inside.Goals.{then-lies_inside, else-lies_inside, then-lies_inside-2, else-lies_inside-2}

pub lies_inside-requires : goal.lies_inside-requires
lies_inside-requires c = (sides_read_back _ _ c.bounds.ensures.lawful c.in-Some.ensures.least).left

pub lies_inside-requires-then-lies_inside : goal.lies_inside-requires-then-lies_inside
lies_inside-requires-then-lies_inside c = (sides_read_back _ _ c.bounds.ensures.lawful c.in-Some.ensures.least).right

pub lies_inside-requires-then-lies_inside-2 : goal.lies_inside-requires-then-lies_inside-2
lies_inside-requires-then-lies_inside-2 c = (sides_read_back _ _ c.bounds.ensures.lawful c.in-Some.ensures.least).bottom

pub lies_inside-requires-then-lies_inside-3 : goal.lies_inside-requires-then-lies_inside-3
lies_inside-requires-then-lies_inside-3 c = (sides_read_back _ _ c.bounds.ensures.lawful c.in-Some.ensures.least).top

pub returns-then-lies_inside-3 : goal.returns-then-lies_inside-3
returns-then-lies_inside-3 c =
    let columns = c.args.columns.now in
    let rows = c.args.rows.now in
    let ds = c.args.picture.now in
    let b = read_back c.in-Some.bounds in
    let box = IsLeastBox-read_back ds c.in-Some.bounds c.bounds.ensures.lawful c.in-Some.ensures.least in (
      λ top. PixelsStayInside-from_sides columns rows ds b box
          (elim c.if-lies_inside-2.branch [
            | then-lies_inside-2 w ↦ (elim c.if-lies_inside.branch [
              | then-lies_inside v ↦ record {
                left = c.lies_inside.ensures.0 v.if-lies_inside.true;
                right = v.lies_inside-then-lies_inside.ensures.0 (sym v.value-is ∙ w.if-lies_inside-2.true);
                bottom = w.lies_inside-then-lies_inside-2.ensures.0 (sym w.value-is ∙ c.if-lies_inside-3.true);
                top = c.lies_inside-then-lies_inside-3.ensures.0 top;
              }
              | else-lies_inside v ↦ absurd (both_ways _ v.if-lies_inside.false (sym v.value-is ∙ w.if-lies_inside-2.true))
            ])
            | else-lies_inside-2 w ↦ absurd (both_ways _ w.if-lies_inside-2.false (sym w.value-is ∙ c.if-lies_inside-3.true))
          ]),
      λ inside. c.lies_inside-then-lies_inside-3.ensures.1 (sides_from_StayInside columns rows ds b box inside).top,
    )

pub returns-else-lies_inside-3 : goal.returns-else-lies_inside-3
returns-else-lies_inside-3 c =
    let ds = c.args.picture.now in
    let box = IsLeastBox-read_back ds c.in-Some.bounds c.bounds.ensures.lawful c.in-Some.ensures.least in (
      λ passes. absurd (both_ways _ c.if-lies_inside-3.false passes),
      λ inside.
          let sides = sides_from_StayInside c.args.columns.now c.args.rows.now ds (read_back c.in-Some.bounds) box inside in
          elim c.if-lies_inside-2.branch [
            | then-lies_inside-2 w ↦ w.value-is ∙ w.lies_inside-then-lies_inside-2.ensures.1 sides.bottom
            | else-lies_inside-2 w ↦ w.value-is ∙ (elim c.if-lies_inside.branch [
              | then-lies_inside v ↦ v.value-is ∙ v.lies_inside-then-lies_inside.ensures.1 sides.right
              | else-lies_inside v ↦ v.value-is ∙ c.lies_inside.ensures.1 sides.left
            ])
          ],
    )
