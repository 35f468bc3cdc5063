use Rattle.std.proofs.lemmas.List.Elements.{All-rest}
use Rattle.mf_rows_strips.specs.Heads.{IsHead}
use Rattle.mf_rows_strips.proofs.strips.Strips.split_first.Goals as goal

pub invariant_of-others : goal.invariant_of-others
invariant_of-others c =
    record {
      placed = All-rest (IsHead c.args.self.edges.now) c.in_ok-head.head.now c.in_ok-head.heads.now c.args.self.heads.now
          c.in_ok-head.ensures.cases.0 c.args.self.placed;
    }
