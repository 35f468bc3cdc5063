use Rattle.std.proofs.Common.{◌≡◌, ◌≤◌, ℕ, [], ◌∷◌, ◌++◌, arith}
use Rattle.std.proofs.lemmas.Bool.{cond-true, le-leb}
use Rattle.mf_gf.specs.Format as gf
use Rattle.mf_gf.specs.Spelling.{paint}
use Rattle.mf_gf.proofs.Writing.{write_same}
use Rattle.mf_gf.proofs.rows.put_stretch.Goals as goal

-- two short stretches have a byte each
both_short : (white black : ℕ) → white ≤ gf.most_painted → black ≤ gf.most_painted → white ∷ black ∷ [] ≡ paint white ++ paint black
unfolding paint
both_short white black first second = grind (arith, cond-true, le-leb)

pub returns-then-black-le-MOST_PAINTED-clause-held : goal.returns-then-black-le-MOST_PAINTED-clause-held
returns-then-black-le-MOST_PAINTED-clause-held c =
    write_same (both_short _ _ (omega (arith, c.if-white-le-MOST_PAINTED.true)) (omega (arith, c.if-black-le-MOST_PAINTED.true))) c.put_pair.ensures.held
