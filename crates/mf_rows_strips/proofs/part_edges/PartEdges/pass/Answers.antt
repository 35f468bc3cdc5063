use Rattle.std.proofs.Common.{refl}
use Rattle.std.proofs.lemmas.List.{nil_from_length}
use Rattle.mf_rows_strips.proofs.PartEdgesLemmas.{next_edge, next_further, no_edge, others_sorted}
use Rattle.mf_rows_strips.proofs.part_edges.PartEdges.pass.Goals as goal

pub invariant_of-self : goal.invariant_of-self
invariant_of-self c = record { sorted = others_sorted _ _ _ c.in-Some.ensures.cases.0 c.args.self.now.sorted }

pub returns-in-Some-clause-passed : goal.returns-in-Some-clause-passed
returns-in-Some-clause-passed c = next_edge _ _ _ c.in-Some.ensures.cases.0 c.args.self.now.sorted

pub returns-in-Some-clause-further : goal.returns-in-Some-clause-further
returns-in-Some-clause-further c = next_further _ _ _ c.in-Some.ensures.cases.0 c.args.self.now.sorted

pub returns-in-None-clause-passed : goal.returns-in-None-clause-passed
returns-in-None-clause-passed c = no_edge _ _ (nil_from_length _ c.in-None.ensures.cases) refl refl
