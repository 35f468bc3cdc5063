-- The least box of a picture lies in the field.
use Rattle.std.proofs.Common.{◌≡◌, List, arith}
use Rattle.std.specs.List.{All, Any}
use Rattle.std.proofs.lemmas.Int.{ints}
use Rattle.std.proofs.lemmas.List.Elements.{All-contains}
use Rattle.mf_geom.specs.Field.{IsInField}
use Rattle.mf_rows.specs.Bounds.{IsDotIn, IsLeastBox}
use Rattle.mf_rows.specs.Boxes.{IsBoxOfField}
use Rattle.mf_rows.specs.declared.bounds.Box4.{Box4}
use Rattle.mf_rows.specs.Dots.{Dot, IsDot, IsPicture, start_of_field}
use Rattle.mf_rows.proofs.DotsLemmas.{dots_from-lawful}

-- what holds for all dots holds for the one that some property finds
pub All-Any : (P Q : Dot → Type 0) (ds : List Dot) (some : Any P ds) → All Q ds → Q some.1
All-Any P Q ds some all = All-contains Q ds some.1 all (some.0, some.2, some.3)

pub least_box_of_field : (ds : List Dot) (b : Box4) → IsPicture ds → IsLeastBox ds b → IsBoxOfField b
least_box_of_field ds b picture box =
    let dots = dots_from-lawful start_of_field ds picture.dots in
    let at_left = (All-Any (λ d. d.x ≡ b.min_x) IsDot ds box.left dots).in_field in
    let at_right = (All-Any (λ d. d.x ≡ b.max_x) IsDot ds box.right dots).in_field in
    let at_bottom = (All-Any (λ d. d.y ≡ b.min_y) IsDot ds box.bottom dots).in_field in
    let at_top = (All-Any (λ d. d.y ≡ b.max_y) IsDot ds box.top dots).in_field in
    record {
      left = omega (arith, ints, at_left.left, box.left.4);
      right = omega (arith, ints, at_right.right, box.right.4);
      bottom = omega (arith, ints, at_bottom.bottom, box.bottom.4);
      top = omega (arith, ints, at_top.top, box.top.4);
      columns = omega (arith, ints, (All-Any (λ d. d.x ≡ b.min_x) (IsDotIn b) ds box.left box.within).right, box.left.4);
      rows = omega (arith, ints, (All-Any (λ d. d.y ≡ b.min_y) (IsDotIn b) ds box.bottom box.within).top, box.bottom.4);
    }

pub bounds_in_field : (ds : List Dot) (b : Box4) → IsPicture ds → IsLeastBox ds b → IsInField b.min_x b.min_y × IsInField b.max_x b.max_y
bounds_in_field ds b picture box = let field = least_box_of_field ds b picture box in (grind (arith, ints), grind (arith, ints))
