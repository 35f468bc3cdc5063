use Rattle.std.proofs.Common.{refl, subst, arith}
use Rattle.std.proofs.lemmas.Bool.{false≢true}
use Rattle.mf_rows.specs.Boxes.{IsLargerThan}
use Rattle.mf_rows.proofs.BoxesOfDots.{least_box_of_field}
use Rattle.mf_view_image.specs.Boxes.{greatest_image_side}
use Rattle.mf_view_image.proofs.ImageBoxes.{box_of_picture}
use Rattle.mf_view_image.proofs.bounds.image_box.Goals as goal
use Rattle.std.proofs.lemmas.Int.{ints}

pub is_larger_than-requires : goal.is_larger_than-requires
is_larger_than-requires c = least_box_of_field _ _ c.bounds.ensures.lawful c.in-Some.ensures.least

pub returns-then-is_larger_than-clause-too_large : goal.returns-then-is_larger_than-clause-too_large
returns-then-is_larger_than-clause-too_large c =
    let box = box_of_picture _ _ c.bounds.ensures.lawful c.in-Some.ensures.least in
    (λ _. refl, λ _. subst (IsLargerThan greatest_image_side) box.is (c.if-is_larger_than.ensures.0 refl))

pub returns : goal.returns
returns c =
    let box = box_of_picture _ _ c.bounds.ensures.lawful c.in-Some.ensures.least in
    grind (arith, ints, false≢true)
