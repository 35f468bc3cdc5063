-- The black pixels of a picture.
use Rattle.std.proofs.Common.{◌≡◌, if◌then◌else◌, ℤ, pos, ◌+ℤ◌, List, [], ◌∷◌, None, refl, arith}
use Rattle.std.specs.Prelude.{int_lt}
use Rattle.std.proofs.lemmas.Bool.{and_parts, cases_Bool, cond_both}
use Rattle.std.proofs.lemmas.Bool.Decides.{Decides-int_eq}
use Rattle.std.proofs.lemmas.Int.{ints}
use Rattle.mf_geom.specs.Coordinates.{field_size, last_in_field}
use Rattle.mf_rows.specs.BlackRows.{black_weights}
use Rattle.mf_rows.specs.Dots.{Dot, IsPicture, AreDotsFrom, place, start_of_field, weight_at}
use Rattle.mf_rows.proofs.DotsLemmas.{dots_from-lower, weight_at-before}
use Rattle.mf_gf.specs.Pixels.{black}
use Rattle.mf_gf.specs.Spelling.{pixels_text, row_lengths, rows_text}

black-from : (low : ℤ) (ds : List Dot) → AreDotsFrom low ds → AreDotsFrom low (black ds)
unfolding black
black-from low [] dots = tt
black-from low (d ∷ ds) dots = grind (arith, ints, cond_both, dots_from-lower, black-from (place d.x d.y +ℤ pos 1) ds dots.2)

pub black_picture : (ds : List Dot) → IsPicture ds → IsPicture (black ds)
black_picture ds picture = record { dots = black-from start_of_field ds picture.dots }

-- the weight is 1 where it was positive, else 0
pub black_at : (low : ℤ) (ds : List Dot) (x y : ℤ) → AreDotsFrom low ds
    → weight_at (black ds) x y ≡ (if int_lt (pos 0) (weight_at ds x y) then pos 1 else pos 0)
unfolding black weight_at
black_at low [] x y dots = refl
black_at low (d ∷ ds) x y dots =
    grind (arith, ints, cases_Bool, and_parts, Decides-int_eq, weight_at-before, black-from, black_at (place d.x d.y +ℤ pos 1) ds x y dots.2)

-- the bytes of black pixels are those of the rows of a picture that has weight 1 at them
pub pixels_text_black : (left : ℤ) (ds : List Dot) → IsPicture ds
    → pixels_text left (black ds) ≡ rows_text (row_lengths left (black_weights (weight_at ds))) last_in_field field_size None
unfolding pixels_text black_weights
pixels_text_black left ds picture = λ i. rows_text (row_lengths left (λ x y. black_at start_of_field ds x y picture.dots i)) last_in_field field_size None
