use Rattle.std.proofs.Common.{◌≡◌, ap, ◌∙◌, arith}
use Rattle.std.proofs.lemmas.Int.{ints}
use Rattle.mf_rows_strips.specs.RowEdges.{weights_of}
use Rattle.mf_rows.proofs.BlackRuns.{same_black}
use Rattle.mf_rows.proofs.PassedPixels.{bottom_fits}
use Rattle.mf_rows.proofs.walk.Walk.pass_equal_rows.Goals as goal

pub invariant_of-self : goal.invariant_of-self
invariant_of-self c =
    let s = c.args.self.now in
    let rows = s.reading.rows in
    rw (bottom_fits s) (record {
      reading = record {
        left = s.reading.left;
        right = s.reading.right;
        top = omega (arith, ints, rows.order, s.reading.top);
        before = s.reading.before;
        after = λ z le. rows.same z s.bottom (omega (arith, ints)) rows.order ∙ s.reading.after z le;
        rows = record {
          low = rows.low;
          order = omega (arith, ints);
          same = λ x v low high. let row : v ≡ s.bottom = omega (arith, ints) in ap (weights_of s.edges x) row;
        };
      };
    })

pub returns-clause-rows : goal.returns-clause-rows
returns-clause-rows c = let s = c.args.self.now in rw (bottom_fits s) (same_black _ _ _ s.reading.rows)
