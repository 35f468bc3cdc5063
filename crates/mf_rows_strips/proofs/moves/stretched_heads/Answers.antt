use Rattle.std.proofs.Common.{rules, tests}
use Rattle.std.proofs.lemmas.Iterator.{YieldsList-from_slice}
use Rattle.std.proofs.lemmas.Iterator.Adapters.{items_from_extend}
use Rattle.std.proofs.lemmas.Iterator.Consumers.{YieldsList-from_filter_map}
use Rattle.mf_rows_strips.specs.Moves.{stretched_head}
use Rattle.mf_rows_strips.proofs.moves.stretched_heads.Goals as goal

pub returns : goal.returns
returns c =
    let added = items_from_extend c.extend.result c.extend.ensures.ran (YieldsList-from_filter_map _ (stretched_head c.args.rows.now)
    (YieldsList-from_slice c.args.heads.now cc) c.filter_map.ensures.closure (λ x r q k. search (rules, tests))) in
    search rules
