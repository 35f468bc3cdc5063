use Rattle.std.proofs.Common.{◌∙◌}
use Rattle.mf_gf.proofs.Endings.{holds_ending}
use Rattle.mf_gf.proofs.spelling.Spelling.put_end.Goals as goal

pub returns-clause-held : goal.returns-clause-held
returns-clause-held c =
    let room = c.put.ensures.room ∙ c.put_byte-2.ensures.room ∙ c.put_unsigned.ensures.room ∙ c.put_byte.ensures.room in
    holds_ending _ c.length.result c.put_byte.ensures.held c.put_unsigned.ensures.held c.put_byte-2.ensures.held
    c.put.ensures.held room c.length.ensures
