-- The box of pixels of the field, and the bytes that begin its character, read back.
use Rattle.std.proofs.Common.{◌≡◌, ℕ, true, ◌&&◌, ℤ, pos, negsuc, ◌-ℤ◌, ◌≤ℤ◌, unsigned_abs}
use Rattle.std.proofs.Common.{List, [], ◌∷◌, ◌++◌, ◌<◌, Some, drop, refl, sym, ap, arith}
use Rattle.std.specs.List.{All}
use Rattle.std.specs.Ordering.{int_eq}
use Rattle.std.proofs.lemmas.Bool.{cond_both, cond-true, cond-false, and_parts, false≢true}
use Rattle.std.proofs.lemmas.Bool.Decides.{Decides-int_eq}
use Rattle.std.proofs.lemmas.Int.{ints}
use Rattle.std.proofs.lemmas.List.Elements.{All-head, All-nil, All-weaker}
use Rattle.mf_geom.specs.Coordinates.{least_coordinate}
use Rattle.byteorder.specs.Endian.{big_number, twos_complement}
use Rattle.byteorder.specs.Numbers.{big_number-reads_back}
use Rattle.mf_rows.specs.Bounds.{IsDotIn}
use Rattle.mf_rows.specs.Boxes.{box_of_dots}
use Rattle.mf_rows.specs.Dots.{Dot, IsDot, IsPicture, AreDotsFrom, place, start_of_field}
use Rattle.mf_rows.proofs.BoundsInField.{All-Any}
use Rattle.mf_rows.proofs.BoxesOfDots.{least_box_of_dots, least_box_of_field}
use Rattle.mf_rows.proofs.DotsLemmas.{dots_from-after, dots_from-lawful}
use Rattle.mf_gf.specs.declared.boxes.CharacterBox.{CharacterBox}
use Rattle.mf_gf.specs.Boxes.{IsBoxInRange, box_at, box_of_pixels}
use Rattle.mf_gf.specs.Numbers.{IsWord, code_count, word}
use Rattle.mf_gf.specs.Painting.{head_of, head_of_boc1, pixels_in, pixels_of_character}
use Rattle.mf_gf.specs.Spelling.{is_byte, is_short, short_begin, long_begin, begin}

-- pixels begin in this row
abbrev pub IsTop : ℤ → List Dot → Type 0
IsTop row [] = Unit {0}
IsTop row (d ∷ ds) = d.y ≡ row

-- pixels lie at or right of the left end of a box, and begin in its top row
pub record IsBoxOf (b : CharacterBox) (ds : List Dot) : Type 0 where
  pub left : least_coordinate ≤ℤ b.min_m
  pub columns : All (λ (d : Dot). b.min_m ≤ℤ d.x) ds
  pub top : IsTop b.max_n ds

pub box_round_dots : (ds : List Dot) → IsPicture ds → IsBoxOf (box_of_pixels ds) ds
unfolding box_of_pixels place
box_round_dots [] picture = record { left = omega (arith, ints); columns = All-nil (λ (d : Dot). pos 0 ≤ℤ d.x); top = tt }
box_round_dots (d ∷ ds) picture =
    let b = box_of_dots d ds in
    let least = least_box_of_dots d ds in
    let first = All-head (IsDotIn b) d ds least.within in
    let highest = λ (e : Dot). e.y ≡ b.max_y in
    let dot = All-Any highest IsDot (d ∷ ds) least.top (dots_from-lawful start_of_field (d ∷ ds) picture.dots) in
    let from_here : AreDotsFrom (place d.x d.y) (d ∷ ds) = (picture.dots.0, omega (arith, ints), picture.dots.2) in
    let after = All-Any highest (λ e. place d.x d.y ≤ℤ place e.x e.y) (d ∷ ds) least.top (dots_from-after (place d.x d.y) (d ∷ ds) from_here) in
    record {
      left = (least_box_of_field (d ∷ ds) b picture least).left;
      columns = All-weaker (IsDotIn b) (λ e. b.min_x ≤ℤ e.x) (λ e inside. inside.left) (d ∷ ds) least.within;
      top = omega (arith, ints, first, after, picture.dots.0, dot, least.top.4);
    }

-- a signed number of four bytes is read back
pub word-reads_back : (z : ℤ) (rest : List ℕ) → IsWord z → twos_complement 4 (big_number 4 (word z ++ rest)) ≡ z
word-reads_back (pos n) rest fits = grind (arith, ints, big_number-reads_back, cond-true)
word-reads_back (negsuc n) rest fits = grind (arith, ints, big_number-reads_back, cond-false)

-- the numbers of a box fit into four bytes
pub record FitsWords (b : CharacterBox) : Type 0 where
  pub left : IsWord b.min_m
  pub right : IsWord b.max_m
  pub bottom : IsWord b.min_n
  pub top : IsWord b.max_n

pub box_fits_words : (b : CharacterBox) → IsBoxInRange b → FitsWords b
box_fits_words b range = omega (arith, ints, range.columns.0, range.columns.1, range.rows.0, range.rows.1)

-- such a box is read back
pub box-reads_back : (b : CharacterBox) (rest : List ℕ) → FitsWords b
    → box_at 0 (word b.min_m ++ word b.max_m ++ word b.min_n ++ word b.max_n ++ rest) ≡ b
box-reads_back b rest fits =
    let left = word-reads_back b.min_m (word b.max_m ++ word b.min_n ++ word b.max_n ++ rest) fits.left in
    let right = word-reads_back b.max_m (word b.min_n ++ word b.max_n ++ rest) fits.right in
    let bottom = word-reads_back b.min_n (word b.max_n ++ rest) fits.bottom in
    let top = word-reads_back b.max_n rest fits.top in
    λ i. record { min_m = left i; max_m = right i; min_n = bottom i; max_n = top i }

byte-reads_back : (z : ℤ) → is_byte z ≡ true → pos (unsigned_abs z) ≡ z
byte-reads_back (pos n) fits = refl
byte-reads_back (negsuc n) fits = absurd (false≢true fits)

-- a box that fits into one-byte fields is read back
short-reads_back : (code : ℕ) (b : CharacterBox) (rest : List ℕ) → is_short b ≡ true → (head_of_boc1 (drop 1 (short_begin code b ++ rest))).box ≡ b
short-reads_back code b rest short =
    let left : pos (unsigned_abs b.max_m) -ℤ pos (unsigned_abs (b.max_m -ℤ b.min_m)) ≡ b.min_m = grind (arith, ints, and_parts, byte-reads_back) in
    let right : pos (unsigned_abs b.max_m) ≡ b.max_m = grind (arith, ints, and_parts, byte-reads_back) in
    let bottom : pos (unsigned_abs b.max_n) -ℤ pos (unsigned_abs (b.max_n -ℤ b.min_n)) ≡ b.min_n = grind (arith, ints, and_parts, byte-reads_back) in
    let top : pos (unsigned_abs b.max_n) ≡ b.max_n = grind (arith, ints, and_parts, byte-reads_back) in
    λ i. record { min_m = left i; max_m = right i; min_n = bottom i; max_n = top i }

-- the bytes that begin a character are read back
pub head-begin : (code : ℕ) (p : ℤ) (b : CharacterBox) (rest : List ℕ) → code < code_count → IsWord p → IsBoxInRange b
    → head_of (begin code p b ++ rest) ≡ Some (record { code = pos code; earlier = p; box = b })
unfolding head_of
head-begin code p b rest fits p_fits range =
    cond_both (int_eq p (negsuc 0) && is_short b) (short_begin code b) (long_begin code p b)
    (λ (bytes : List ℕ). head_of (bytes ++ rest) ≡ Some (record { code = pos code; earlier = p; box = b }))
    (λ short.
    let both = and_parts (int_eq p (negsuc 0)) (is_short b) short in
    let none = sym ((Decides-int_eq p (negsuc 0)).0 both.0) in
    let box = short-reads_back code b rest both.1 in
    λ t. Some (record { code = pos code; earlier = none t; box = box t }))
    (λ long.
    let numbers = word b.min_m ++ word b.max_m ++ word b.min_n ++ word b.max_n ++ rest in
    let code_is = word-reads_back (pos code) (word p ++ numbers) (omega (arith, ints)) in
    let earlier = word-reads_back p numbers p_fits in
    let box = box-reads_back b rest (box_fits_words b range) in
    λ t. Some (record { code = code_is t; earlier = earlier t; box = box t }))

-- so the commands after them start at the left end and the top of the box
pub paint-begin : (code : ℕ) (p : ℤ) (b : CharacterBox) (rest : List ℕ) → IsBoxInRange b
    → pixels_of_character (begin code p b ++ rest) ≡ pixels_in b rest
unfolding pixels_of_character
paint-begin code p b rest range =
    cond_both (int_eq p (negsuc 0) && is_short b) (short_begin code b) (long_begin code p b)
    (λ bytes. pixels_of_character (bytes ++ rest) ≡ pixels_in b rest)
    (λ short. ap (λ box. pixels_in box rest) (short-reads_back code b rest (and_parts (int_eq p (negsuc 0)) (is_short b) short).1))
    (λ long. ap (λ box. pixels_in box rest) (box-reads_back b rest (box_fits_words b range)))
