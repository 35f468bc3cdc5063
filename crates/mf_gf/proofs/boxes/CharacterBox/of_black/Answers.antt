use Rattle.std.proofs.Common.{sym, arith}
use Rattle.mf_gf.proofs.BlackBoxes.{black_box, box_fits}
use Rattle.mf_gf.proofs.boxes.CharacterBox.of_black.Goals as goal

pub overflow_add-result : goal.overflow_add-result
overflow_add-result c = let fits = box_fits _ _ c.in-Some.ensures.lawful c.in-Some.ensures.bounds in rw fits.right fits.fits

pub returns-clause-value : goal.returns-clause-value
returns-clause-value c = grind (arith, box_fits, sym, black_box)
