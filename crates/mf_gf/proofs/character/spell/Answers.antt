use Rattle.std.proofs.Common.{◌≡◌, to_z, of_z, w32, refl, arith}
use Rattle.std.proofs.lemmas.Int.{ints}
use Rattle.mf_gf.specs.Boxes.{IsBoxInRange}
use Rattle.mf_gf.specs.Spelling.{spell}
use Rattle.mf_gf.proofs.BlackDots.{pixels_text_black}
use Rattle.mf_gf.proofs.BoxesInRange.{black_box_in_range}
use Rattle.mf_gf.proofs.Writing.{write_both, write_same}
use Rattle.mf_gf.proofs.character.spell.Goals as goal
use Rattle.mf_gf.proofs.character.spell.Goals.{Start}

in_range : (c : Start) → IsBoxInRange c.args.bounds.now
in_range c = rw c.requires.bounds (black_box_in_range _ c.requires.lawful)

pub put_begin-requires : goal.put_begin-requires
put_begin-requires c = in_range (goal.at.put_begin-requires c).Start

pub spell_rows-requires-clause-left : goal.spell_rows-requires-clause-left
spell_rows-requires-clause-left c =
    let box = in_range (goal.at.spell_rows-requires-clause-left c).Start in
    let left : to_z w32 (of_z w32 c.args.bounds.now.min_m) ≡ c.args.bounds.now.min_m = omega (arith, ints, box.columns.0) in
    rw left (box.columns.0)

pub returns-clause-held : goal.returns-clause-held
unfolding spell
returns-clause-held c =
    let box = in_range (goal.at.returns-clause-held c).Start in
    let left : to_z w32 (of_z w32 c.args.bounds.now.min_m) ≡ c.args.bounds.now.min_m = omega (arith, ints, box.columns.0) in
    let rows = rw left at c.spell_rows.ensures.held in
    let all = write_both (write_both c.put_begin.ensures.held rows) c.put_byte.ensures.held in
    write_same (rw (c.requires.bounds, pixels_text_black _ _ c.requires.lawful) refl) all
