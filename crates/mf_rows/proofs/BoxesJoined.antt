-- The least box of two lists of dots.
use Rattle.std.proofs.Common.{◌≡◌, ℤ, List, [], ◌++◌, arith}
use Rattle.std.specs.Prelude.{int_lt}
use Rattle.std.specs.Int.{int_max, int_min}
use Rattle.std.specs.List.{Any}
use Rattle.std.proofs.lemmas.Bool.{cond_both}
use Rattle.std.proofs.lemmas.Int.{ints, clamps}
use Rattle.std.proofs.lemmas.List.Elements.{All-append, All-weaker, Contains-append_left, Contains-append_right}
use Rattle.mf_rows.specs.declared.bounds.Box4.{Box4}
use Rattle.mf_rows.specs.Bounds.{IsDotIn, IsIn, IsLeastBox}
use Rattle.mf_rows.specs.Dots.{Dot}
use Rattle.mf_rows.specs.Boxes.{box_round_both}

-- ---- the box of two lists of dots

any_left : (P : Dot → Type 0) (ds es : List Dot) → Any P ds → Any P (ds ++ es)
any_left P ds es some = let there = Contains-append_left ds es some.1 (some.0, some.2, some.3) in (there.0, some.1, there.1, there.2, some.4)

pub any_right : (P : Dot → Type 0) (ds es : List Dot) → Any P es → Any P (ds ++ es)
any_right P ds es some = let there = Contains-append_right ds es some.1 (some.0, some.2, some.3) in (there.0, some.1, there.1, there.2, some.4)

pub either_min : (P : ℤ → Type 0) (x y : ℤ) → P x → P y → P (int_min x y)
either_min P x y at_x at_y = cond_both (int_lt y x) y x P (λ _. at_y) (λ _. at_x)

pub either_max : (P : ℤ → Type 0) (x y : ℤ) → P x → P y → P (int_max x y)
either_max P x y at_x at_y = cond_both (int_lt y x) x y P (λ _. at_x) (λ _. at_y)

pub within_first : (a b : Box4) (x y : ℤ) → IsIn a x y → IsIn (box_round_both a b) x y
within_first a b x y inside = grind (arith, ints, clamps)

pub within_second : (a b : Box4) (x y : ℤ) → IsIn b x y → IsIn (box_round_both a b) x y
within_second a b x y inside = grind (arith, ints, clamps)

pub least_box_of_both : (ds es : List Dot) (a b : Box4) → IsLeastBox ds a → IsLeastBox es b → IsLeastBox (ds ++ es) (box_round_both a b)
least_box_of_both ds es a b first second =
    let all = ds ++ es in
    let at_x = λ (x : ℤ) (d : Dot). d.x ≡ x in
    let at_y = λ (y : ℤ) (d : Dot). d.y ≡ y in
    record {
      within = All-append (IsDotIn (box_round_both a b)) ds es (All-weaker (IsDotIn a) (IsDotIn (box_round_both a b)) (λ d. within_first a b d.x d.y) ds first.within)
          (All-weaker (IsDotIn b) (IsDotIn (box_round_both a b)) (λ d. within_second a b d.x d.y) es second.within);
      left = either_min (λ x. Any (at_x x) all) a.min_x b.min_x (any_left (at_x a.min_x) ds es first.left) (any_right (at_x b.min_x) ds es second.left);
      right = either_max (λ x. Any (at_x x) all) a.max_x b.max_x (any_left (at_x a.max_x) ds es first.right) (any_right (at_x b.max_x) ds es second.right);
      bottom = either_min (λ y. Any (at_y y) all) a.min_y b.min_y (any_left (at_y a.min_y) ds es first.bottom) (any_right (at_y b.min_y) ds es second.bottom);
      top = either_max (λ y. Any (at_y y) all) a.max_y b.max_y (any_left (at_y a.max_y) ds es first.top) (any_right (at_y b.max_y) ds es second.top);
    }

-- a list with a least box has a dot
pub box_of_some : (b : Box4) → IsLeastBox [] b → ⊥
box_of_some b box = omega (arith, box.left.2)
