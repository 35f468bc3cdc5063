-- The corners of runs in reading order, and the picture that they make.
use Rattle.std.proofs.Common.{◌≡◌, ℤ, pos, neg_ℤ, ◌+ℤ◌, ◌-ℤ◌, ◌≤ℤ◌, ◌<ℤ◌, List, [], ◌++◌, refl, sym, ◌∙◌, arith}
use Rattle.std.specs.List.{All}
use Rattle.std.proofs.lemmas.Int.{ints, by_lt_z}
use Rattle.std.proofs.lemmas.List.Elements.{All-nil, All-cons, All-append, All-weaker}
use Rattle.mf_geom.specs.Coordinates.{greatest_coordinate}
use Rattle.mf_geom.specs.Field.{IsInField}
use Rattle.mf_rows_strips.specs.Corners.{added_by, added_by_all, AreSweptCorners, HaveFieldStripWeights, IsCornerInRange}
use Rattle.mf_rows_strips.specs.Strips.{EdgeStrip, weight_in_strips}
use Rattle.mf_rows_strips.specs.declared.corner.Corner.{Corner}
use Rattle.mf_rows_strips.proofs.TurnsLemmas.{added_by_all-append}
use Rattle.mf_rows.specs.declared.run.Run.{Run}
use Rattle.mf_rows.specs.Corners.{AreBuilt, corners_of, picture_of_corners}
use Rattle.mf_rows.specs.Dots.{Dot, IsPicture, place, start_of_field, weight_at}
use Rattle.mf_rows.specs.Order.{IsRun, Fits}
use Rattle.mf_rows.specs.Runs.{dots_of}
use Rattle.mf_rows.specs.Weights.{picture_of}
use Rattle.mf_rows.proofs.DotsLemmas.{dots_from-append}
use Rattle.mf_rows.proofs.PlacesLemmas.{start_of_field-le}
use Rattle.mf_rows.proofs.RunDots.{IsOnRun, by_on_run, before_equal_dots-end, dots_from-run, weight_at-before_run, weight_at-on_run, weight_at-off_run}
use Rattle.mf_rows.proofs.StretchBounds.{holds_at_weight}
use Rattle.mf_rows.proofs.WeightsLemmas.{lawful_picture_of, picture_of-from_weights, weight_at-picture_of}

-- ---- the corners of a run

added_on : (r : Run) (x y : ℤ) → IsOnRun r x y → added_by_all (corners_of r) x y ≡ r.weight
unfolding corners_of added_by_all added_by
added_on r x y on = grind (arith, ints)

-- two corners of opposite weights add nothing below both, where one is above the other, nor to the right of both, where they are side by side
one_above_other : (u h w z x y : ℤ) → w +ℤ z ≡ pos 0 → y <ℤ h
    → added_by (record { x = u; y = h +ℤ pos 1; weight = w }) x y +ℤ added_by (record { x = u; y = h; weight = z }) x y ≡ pos 0
unfolding added_by
one_above_other u h w z x y opposite below = by_lt_z x u (λ left. grind (arith, ints)) (λ right. grind (arith, ints))

side_by_side : (u v h w z x y : ℤ) → w +ℤ z ≡ pos 0 → u ≤ℤ x → v ≤ℤ x
    → added_by (record { x = u; y = h; weight = w }) x y +ℤ added_by (record { x = v; y = h; weight = z }) x y ≡ pos 0
unfolding added_by
side_by_side u v h w z x y opposite from right = by_lt_z y h (λ below. grind (arith, ints)) (λ above. grind (arith, ints))

added_off : (r : Run) (x y : ℤ) → (IsOnRun r x y → ⊥) → added_by_all (corners_of r) x y ≡ pos 0
unfolding corners_of added_by_all added_by
added_off r x y off =
    let end = r.x +ℤ pos r.len in
    let w = r.weight in
    let z = neg_ℤ w in
    let opposite : w +ℤ z ≡ pos 0 = omega (arith, ints) in
    let negated : z +ℤ w ≡ pos 0 = omega (arith, ints) in
    by_lt_z x r.x (λ left. grind (arith, ints))
    (λ from. by_lt_z x end
    (λ inside. by_lt_z y r.y
    (λ below. omega (arith, ints, one_above_other r.x r.y w z x y opposite below, one_above_other end r.y z w x y negated below))
    (λ not_below. by_lt_z r.y y (λ above. grind (arith, ints)) (λ same. absurd (off (record { row = omega (arith, ints); left = from; right = inside })))))
    (λ right. omega (arith, ints, side_by_side r.x end (r.y +ℤ pos 1) w z x y opposite from right, side_by_side r.x end r.y z w x y negated from right)))

corners_in_range : (r : Run) → IsRun r → All IsCornerInRange (corners_of r)
unfolding corners_of
corners_in_range r run = grind (arith, ints, All-cons, All-nil)

start_of_run : (r : Run) → IsRun r → start_of_field ≤ℤ place r.x r.y
start_of_run r run = start_of_field-le r.x r.y (grind (arith, ints))

-- ---- the picture of corners

pub lawful_built : (ks : List Corner) → AreSweptCorners ks → IsPicture (picture_of_corners ks)
lawful_built ks swept = lawful_picture_of (added_by_all ks) (λ x y inside. swept.lawful x y)

pub blank_built : picture_of_corners [] ≡ []
unfolding added_by_all weight_at
blank_built = sym (picture_of-from_weights [] (added_by_all []) (record { dots = tt }) (λ x y inside. refl))

pub none_built : AreBuilt [] start_of_field
unfolding added_by_all
none_built = record {
  swept = record { in_range = All-nil IsCornerInRange; lawful = λ x y. record { least = omega (arith, ints); greatest = omega (arith, ints) }; closed = λ y. refl };
  before = rw blank_built (All-nil (λ d. place d.x d.y <ℤ start_of_field));
  least = λ p low before. low;
}

-- a run fits where it begins at the end or after it
pub fits_from_end : (ks : List Corner) (end : ℤ) (r : Run) → AreBuilt ks end → IsRun r → end ≤ℤ place r.x r.y → Fits (picture_of_corners ks) r
fits_from_end ks end r built run le = record {
  run = run;
  before = All-weaker (λ d. place d.x d.y <ℤ end) (λ d. place d.x d.y <ℤ place r.x r.y) (λ d lower. omega (arith, ints)) (picture_of_corners ks) built.before;
}

pub end_from_fits : (ks : List Corner) (end : ℤ) (r : Run) → AreBuilt ks end → Fits (picture_of_corners ks) r → end ≤ℤ place r.x r.y
end_from_fits ks end r built fits = built.least (place r.x r.y) (start_of_run r fits.run) fits.before

-- ---- a run more

module _ (ks : List Corner) (end : ℤ) (r : Run) (built : AreBuilt ks end) (fits : Fits (picture_of_corners ks) r) where
  dots : List Dot
  dots = picture_of_corners ks

  in_field : (x y : ℤ) → IsOnRun r x y → IsInField x y
  in_field x y on = let run = fits.run in grind (arith, ints)

  with_run : (x y : ℤ) → IsOnRun r x y → added_by_all (ks ++ corners_of r) x y ≡ r.weight
  unfolding dots
  with_run x y on =
      omega (arith, ints, added_by_all-append ks (corners_of r) x y, added_on r x y on, weight_at-before_run dots r x y fits on, weight_at-picture_of (added_by_all ks) x y (in_field x y on))

  without_run : (x y : ℤ) → (IsOnRun r x y → ⊥) → added_by_all (ks ++ corners_of r) x y ≡ added_by_all ks x y
  without_run x y off = omega (arith, ints, added_by_all-append ks (corners_of r) x y, added_off r x y off)

  swept : AreSweptCorners (ks ++ corners_of r)
  swept = record {
    in_range = All-append IsCornerInRange ks (corners_of r) built.swept.in_range (corners_in_range r fits.run);
    lawful = λ x y. by_on_run r x y (λ on. rw (with_run x y on) fits.run.lawful) (λ off. rw (without_run x y off) (built.swept.lawful x y));
    closed = λ y.
        omega (arith, ints, without_run greatest_coordinate y (λ on. omega (arith, ints, on.right, fits.run.right)), built.swept.closed y);
  }

  picture : IsPicture (dots ++ dots_of r)
  unfolding dots
  picture = record {
    dots = dots_from-append start_of_field (place r.x r.y) dots (dots_of r) (start_of_run r fits.run)
        (lawful_built ks built.swept).dots fits.before (dots_from-run r fits.run);
  }

  -- their picture gets the dots of the run
  pub run_built : picture_of_corners (ks ++ corners_of r) ≡ picture_of_corners ks ++ dots_of r
  unfolding dots
  run_built =
      sym (picture_of-from_weights (dots ++ dots_of r) (added_by_all (ks ++ corners_of r)) picture
      (λ x y inside. by_on_run r x y (λ on. weight_at-on_run dots r x y fits on ∙ sym (with_run x y on))
      (λ off. weight_at-off_run dots r x y off ∙ weight_at-picture_of (added_by_all ks) x y inside ∙ sym (without_run x y off))))

  pub built_with : AreBuilt (ks ++ corners_of r) (place r.x r.y +ℤ pos r.len)
  unfolding dots dots_of place
  built_with =
      let last = r.x +ℤ pos r.len -ℤ pos 1 in
      let on : IsOnRun r last r.y = record { row = refl; left = omega (arith, ints, fits.run.some); right = omega (arith, ints) } in
      record {
        swept = swept;
        before = rw run_built (All-append (λ d. place d.x d.y <ℤ (place r.x r.y +ℤ pos r.len)) dots (dots_of r)
            (All-weaker (λ d. place d.x d.y <ℤ place r.x r.y) (λ d. place d.x d.y <ℤ (place r.x r.y +ℤ pos r.len)) (λ d lower. omega (arith, ints)) dots fits.before)
            (before_equal_dots-end r.y r.x r.weight r.len (place r.x r.y +ℤ pos r.len) (omega (arith, ints))));
        least = λ p low before.
            let there = λ (none : weight_at (dots ++ dots_of r) last r.y ≡ pos 0). fits.run.nonzero (sym (weight_at-on_run dots r last r.y fits on) ∙ none) in
            let lower : place last r.y <ℤ p = holds_at_weight (λ x y. place x y <ℤ p) (dots ++ dots_of r) last r.y (rw run_built at before) there in
            omega (arith, ints);
      }

-- ---- the part that they make

pub part_built : (ks : List Corner) (end : ℤ) (ss : List EdgeStrip) → AreBuilt ks end → HaveFieldStripWeights (added_by_all ks) ss
    → picture_of (weight_in_strips ss) ≡ picture_of_corners ks
part_built ks end ss built made =
    sym (picture_of-from_weights (picture_of_corners ks) (weight_in_strips ss) (lawful_built ks built.swept)
    (λ x y inside. weight_at-picture_of (added_by_all ks) x y inside ∙ sym (made.weights x y inside)))

-- what the methods of builders use
pub ruleset of_builders = (ints, lawful_built, none_built, blank_built, fits_from_end, end_from_fits)
