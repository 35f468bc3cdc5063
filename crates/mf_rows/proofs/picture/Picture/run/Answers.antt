use Rattle.std.proofs.Common.{List, sym, ◌∙◌}
use Rattle.std.proofs.lemmas.Iterator.Adapters.{option_map_id}
use Rattle.std.proofs.lemmas.Iterator.Consumers.{nth_from_yields_List, YieldsList-from_first}
use Rattle.mf_rows.specs.declared.run.Run.{Run}
use Rattle.mf_rows.specs.Runs.{runs_of}
use Rattle.mf_rows.proofs.picture.Picture.run.Goals as goal

pub returns-clause-value : goal.returns-clause-value
returns-clause-value c =
    let all = YieldsList-from_first (λ (run : Run). run) (λ (runs : List Run). runs) (runs_of c.args.self.now) c.runs.ensures.runs in
    sym (option_map_id c.nth.result) ∙ nth_from_yields_List c.nth.result c.nth.new.self c.args.k c.nth.ensures.ran all
