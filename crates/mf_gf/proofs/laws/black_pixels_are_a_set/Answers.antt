use Rattle.std.proofs.Common.{◌≡◌, pos, List, [], ◌∷◌, arith}
use Rattle.std.specs.List.{All}
use Rattle.std.proofs.lemmas.Bool.{cond_both}
use Rattle.std.proofs.lemmas.Int.{ints}
use Rattle.std.proofs.lemmas.List.Elements.{All-cons, All-nil}
use Rattle.mf_rows.specs.Dots.{Dot}
use Rattle.mf_gf.specs.Pixels.{black}
use Rattle.mf_gf.proofs.BlackDots.{black_picture}
use Rattle.mf_gf.proofs.laws.black_pixels_are_a_set.Goals as goal

ones-black : (ds : List Dot) → All (λ d. d.weight ≡ pos 1) (black ds)
unfolding black
ones-black [] = All-nil (λ d. d.weight ≡ pos 1)
ones-black (d ∷ ds) = grind (arith, ints, cond_both, All-cons, ones-black ds)

pub returns-clause-set : goal.returns-clause-set
returns-clause-set c = λ ds picture. record { picture = black_picture ds picture; ones = ones-black ds }
