use Rattle.std.proofs.Common.{rules}
use Rattle.mf_gf.proofs.Writing.{write_both, write_word}
use Rattle.mf_gf.proofs.file.tail.put_post.Goals as goal

pub returns-clause-held : goal.returns-clause-held
returns-clause-held c =
    let words = c.args.words.now in
    let bounds = c.args.bounds.now in
    let place = write_both c.put_byte.ensures.held c.put_unsigned.ensures.held in
    let ds = write_both place (write_word words.ds (search rules) c.put_word.ensures.held) in
    let cs = write_both ds c.put_unsigned-2.ensures.held in
    let hppp = write_both cs (write_word words.hppp (search rules) c.put_word-2.ensures.held) in
    let vppp = write_both hppp (write_word words.vppp (search rules) c.put_word-3.ensures.held) in
    let left = write_both vppp (write_word bounds.min_m (search rules) c.put_word-4.ensures.held) in
    let right = write_both left (write_word bounds.max_m (search rules) c.put_word-5.ensures.held) in
    let bottom = write_both right (write_word bounds.min_n (search rules) c.put_word-6.ensures.held) in
    write_both bottom (write_word bounds.max_n (search rules) c.put_word-7.ensures.held)
