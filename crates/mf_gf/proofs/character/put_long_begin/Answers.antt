use Rattle.std.proofs.Common.{rules, pos, ap}
use Rattle.mf_gf.specs.Numbers.{word}
use Rattle.mf_gf.proofs.Writing.{write_both, write_same, write_word}
use Rattle.mf_gf.proofs.character.put_long_begin.Goals as goal

pub returns-clause-held : goal.returns-clause-held
returns-clause-held c =
    let bounds = c.args.bounds.now in
    let code = write_both c.put_byte.ensures.held (write_same (ap (λ n. word (pos n)) c.from.ensures) c.put_unsigned.ensures.held) in
    let place = write_both code c.put_pointer.ensures.held in
    let left = write_both place (write_word bounds.min_m (search rules) c.put_word.ensures.held) in
    let right = write_both left (write_word bounds.max_m (search rules) c.put_word-2.ensures.held) in
    let bottom = write_both right (write_word bounds.min_n (search rules) c.put_word-3.ensures.held) in
    write_both bottom (write_word bounds.max_n (search rules) c.put_word-4.ensures.held)
