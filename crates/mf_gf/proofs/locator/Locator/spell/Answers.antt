use Rattle.std.proofs.Common.{ap, rules}
use Rattle.mf_gf.specs.Files.{locator_head, short_dx}
use Rattle.mf_gf.proofs.Writing.{Writes, write_both, write_same, write_word}
use Rattle.mf_gf.proofs.locator.Locator.spell.Goals as goal
use Rattle.mf_gf.proofs.locator.Locator.spell.Goals.{in-Some, in-None}

pub returns-clause-held : goal.returns-clause-held
returns-clause-held c =
    let l = c.args.self.now in
    let head : Writes c.args.out.now c.match-whole_pixels.out (locator_head l.code l.dx (short_dx l.dx)) = elim c.match-whole_pixels.branch [
      | in-Some w ↦ rw w.out-is (write_same (ap (locator_head l.code l.dx) w.in-Some.ensures) w.put.ensures.held)
      | in-None w ↦
          (let long = write_both
          (write_both w.put-in-None.ensures.held (write_word l.dx (search rules) w.put_word.ensures.held)) w.put_word-in-None.ensures.held in
          rw w.out-is (write_same (ap (locator_head l.code l.dx) w.in-None.ensures) long))
    ] in
    write_both (write_both head (write_word l.width (search rules) c.put_word-2.ensures.held)) c.put_unsigned.ensures.held
