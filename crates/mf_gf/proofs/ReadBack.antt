-- The bytes of painting commands, read back.
use Rattle.std.proofs.Common.{◌≡◌, ℕ, zero, suc, ◌≤◌, List, [], ◌∷◌, ◌++◌, length, Option, None, Some, option_map, refl, ap, length-append, arith}
use Rattle.std.proofs.lemmas.Int.{ints}
use Rattle.std.proofs.lemmas.Bool.{cond-true, cond_both}
use Rattle.byteorder.specs.Numbers.{big_number-reads_back}
use Rattle.mf_rows.specs.Dots.{Dot}
use Rattle.mf_gf.specs.Format as gf
use Rattle.mf_gf.specs.Numbers.{greatest_halfword}
use Rattle.mf_gf.specs.Painting.{Machine, Stroke, Paint, machine_after, pixels_of_stroke, pixels_of_strokes, read_stroke, strokes_within}
use Rattle.mf_gf.specs.Spelling.{paint}

-- these bytes are read as this command, whatever comes after them
pub record IsCommand (bytes : List ℕ) (stroke : Stroke) : Type 0 where
  pub some : 1 ≤ length bytes
  pub read : (rest : List ℕ) → read_stroke (bytes ++ rest) ≡ Some (record { stroke = Some stroke; rest = rest })

pub writes_paint : (n : ℕ) → n ≤ greatest_halfword → IsCommand (paint n) (Paint n)
unfolding paint read_stroke
writes_paint n fits = grind (arith, ints, cond_both, cond-true, big_number-reads_back)

-- a machine that reads these bytes, up to the end of a character, makes these pixels black
abbrev pub Draws : Machine → List ℕ → List Dot → Type 0
Draws machine bytes ds = (n : ℕ) → length bytes ≤ n → option_map (pixels_of_strokes machine) (strokes_within n bytes) ≡ Some ds

pub draws_eoc : (machine : Machine) → Draws machine (gf.eoc ∷ []) []
unfolding pixels_of_strokes strokes_within read_stroke
draws_eoc machine zero fits = absurd (omega (arith, fits))
draws_eoc machine (suc n) fits = refl

first_drawn : (machine : Machine) (stroke : Stroke) (ds : List Dot) (strokes : Option (List Stroke))
    → option_map (pixels_of_strokes (machine_after machine stroke)) strokes ≡ Some ds
    → option_map (pixels_of_strokes machine) (option_map (λ others. stroke ∷ others) strokes) ≡ Some (pixels_of_stroke machine stroke ++ ds)
unfolding pixels_of_strokes
first_drawn machine stroke ds None drawn = absurd (cc)
first_drawn machine stroke ds (Some others) drawn = ap (option_map (λ es. pixels_of_stroke machine stroke ++ es)) drawn

pub draws_first : (machine : Machine) (bytes : List ℕ) (stroke : Stroke) (rest : List ℕ) (ds : List Dot) → IsCommand bytes stroke
    → Draws (machine_after machine stroke) rest ds → Draws machine (bytes ++ rest) (pixels_of_stroke machine stroke ++ ds)
unfolding strokes_within
draws_first machine bytes stroke rest ds command others zero fits = absurd (omega (arith, fits, command.some, length-append bytes rest))
draws_first machine bytes stroke rest ds command others (suc n) fits =
    rw (command.read rest, option_map)
    (first_drawn machine stroke ds (strokes_within n rest) (others n (omega (arith, fits, command.some, length-append bytes rest))))
