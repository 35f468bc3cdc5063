-- The box of all characters is the least one around their boxes, and its numbers fit into four bytes.
use Rattle.std.proofs.Common.{◌≡◌, ℤ, List, [], ◌∷◌, refl, arith}
use Rattle.std.specs.List.{All, Any}
use Rattle.std.proofs.lemmas.Int.{ints, clamps}
use Rattle.std.proofs.lemmas.List.Elements.{All-cons, All-head, All-nil, All-tail, All-weaker, Contains-append_right}
use Rattle.mf_rows.proofs.BoxesJoined.{either_max, either_min}
use Rattle.mf_gf.specs.declared.boxes.CharacterBox.{CharacterBox}
use Rattle.mf_gf.specs.Boxes.{join}
use Rattle.mf_gf.specs.Files.{Character, box_of_all, box_of_character}
use Rattle.mf_gf.specs.FontNumbers.{IsLeastAround, IsWithin}
use Rattle.mf_gf.specs.Pointers.{IsShippable}
use Rattle.mf_gf.proofs.BoxesInRange.{box_in_range}
use Rattle.mf_gf.proofs.BoxOfDots.{FitsWords, box_fits_words}

-- ---- the numbers of a box fit into four bytes

character_fits : (c : Character) → IsShippable c → FitsWords (box_of_character c)
character_fits c shippable = box_fits_words _ (box_in_range c.black shippable.black.picture)

pub all_fit : (c : Character) (cs : List Character) → All IsShippable (c ∷ cs) → FitsWords (box_of_all (c ∷ cs))
unfolding box_of_all
all_fit c [] each = character_fits c (All-head IsShippable c [] each)
all_fit c (d ∷ cs) each =
    grind (arith, ints, either_min, either_max, character_fits c (All-head IsShippable c (d ∷ cs) each), all_fit d cs (All-tail IsShippable c (d ∷ cs) each))

-- ---- it is the least one around the boxes

-- what is so for one of some characters is so for one of those with another before them
any_later : (P : Character → Type 0) (c : Character) (cs : List Character) → Any P cs → Any P (c ∷ cs)
any_later P c cs some =
    let there = Contains-append_right (c ∷ []) cs some.1 (some.0, some.2, some.3) in (there.0, some.1, there.1, there.2, some.4)

any_first : (P : Character → Type 0) (c : Character) (cs : List Character) → P c → Any P (c ∷ cs)
any_first P c cs this = (0, c, omega arith, refl, this)

least_of_more : (c : Character) (cs : List Character) (b : CharacterBox) → IsLeastAround cs b → IsLeastAround (c ∷ cs) (join (box_of_character c) b)
least_of_more c cs b least =
    let own = box_of_character c in
    let all = c ∷ cs in
    let At = λ (side : CharacterBox → ℤ) (at : ℤ) (d : Character). side (box_of_character d) ≡ at in
    let min_m = At (λ it. it.min_m) in
    let max_m = At (λ it. it.max_m) in
    let min_n = At (λ it. it.min_n) in
    let max_n = At (λ it. it.max_n) in
    record {
      within = All-cons (λ (d : Character). IsWithin (join own b) (box_of_character d)) c cs (omega (arith, ints, clamps))
          (All-weaker (λ (d : Character). IsWithin b (box_of_character d)) (λ (d : Character). IsWithin (join own b) (box_of_character d))
          (λ d inside. omega (arith, ints, clamps, inside)) cs least.within);
      left = either_min (λ m. Any (min_m m) all) own.min_m b.min_m (any_first (min_m own.min_m) c cs refl) (any_later (min_m b.min_m) c cs least.left);
      right = either_max (λ m. Any (max_m m) all) own.max_m b.max_m (any_first (max_m own.max_m) c cs refl) (any_later (max_m b.max_m) c cs least.right);
      bottom = either_min (λ n. Any (min_n n) all) own.min_n b.min_n (any_first (min_n own.min_n) c cs refl) (any_later (min_n b.min_n) c cs least.bottom);
      top = either_max (λ n. Any (max_n n) all) own.max_n b.max_n (any_first (max_n own.max_n) c cs refl) (any_later (max_n b.max_n) c cs least.top);
    }

pub least_of_all : (c : Character) (cs : List Character) → IsLeastAround (c ∷ cs) (box_of_all (c ∷ cs))
unfolding box_of_all
least_of_all c [] = grind (arith, ints, All-cons, All-nil, any_first)
least_of_all c (d ∷ cs) = least_of_more c (d ∷ cs) (box_of_all (d ∷ cs)) (least_of_all d cs)
