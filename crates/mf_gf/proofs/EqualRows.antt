-- Rows of equal pixels, which have the same lengths, and so the same bytes.
use Rattle.std.proofs.Common.{◌≡◌, ℕ, zero, suc, ◌+◌, ℤ, pos, ◌+ℤ◌, ◌-ℤ◌, ◌≤ℤ◌, List, [], ◌∷◌, ◌++◌, Option, None, Some, option_map, refl, ap, ◌∙◌, arith, append_assoc}
use Rattle.std.specs.Int.RustNames.{unsigned_abs}
use Rattle.std.specs.List.{flat_map}
use Rattle.std.proofs.lemmas.Bool.{cond_both}
use Rattle.std.proofs.lemmas.Int.{ints}
use Rattle.mf_rows.specs.declared.run.Run.{Run}
use Rattle.mf_rows.specs.BlackRows.{row_runs}
use Rattle.mf_rows.specs.Runs.{continues, run_from, runs_of, with_dot}
use Rattle.mf_rows.specs.Weights.{row_of}
use Rattle.mf_rows.specs.RowEdges.{AreSameRows}
use Rattle.mf_gf.specs.Rows.{blank_after_rows, repeated, rows_between}
use Rattle.mf_gf.specs.Spelling.{blank_after, distance, lengths, paint, row_lengths, row_start, row_text, rows_text}

-- ---- their runs

-- runs of row y, and the same runs in row v
abbrev AreMoved : ℤ → ℤ → List Run → List Run → Type 0
AreMoved y v [] [] = Unit {0}
AreMoved y v [] (s ∷ ss) = ⊥
AreMoved y v (r ∷ rs) [] = ⊥
AreMoved y v (r ∷ rs) (s ∷ ss) = (r.y ≡ y) × (s.y ≡ v) × (s.x ≡ r.x) × (s.len ≡ r.len) × (s.weight ≡ r.weight) × AreMoved y v rs ss

moved_with_dot : (y v x w : ℤ) (rs ss : List Run) → AreMoved y v rs ss
    → AreMoved y v (with_dot (record { y = y; x = x; weight = w }) rs) (with_dot (record { y = v; x = x; weight = w }) ss)
unfolding with_dot continues run_from
moved_with_dot y v x w [] [] moved = (refl, refl, refl, refl, refl, tt)
moved_with_dot y v x w [] (s ∷ ss) moved = absurd moved
moved_with_dot y v x w (r ∷ rs) [] moved = absurd moved
moved_with_dot y v x w (r ∷ rs) (s ∷ ss) moved = grind (arith, ints, cond_both)

moved_runs : (f : ℤ → ℤ → ℤ) (y v x : ℤ) (n : ℕ) → ((z : ℤ) → f z v ≡ f z y) → AreMoved y v (runs_of (row_of f y x n)) (runs_of (row_of f v x n))
unfolding runs_of row_of
moved_runs f y v x zero same = tt
moved_runs f y v x (suc n) same = grind (arith, ints, cond_both, moved_with_dot, moved_runs f y v (x +ℤ pos 1) n same)

moved_lengths : (y v x : ℤ) (rs ss : List Run) → AreMoved y v rs ss → lengths x ss ≡ lengths x rs
unfolding lengths
moved_lengths y v x [] [] moved = refl
moved_lengths y v x [] (s ∷ ss) moved = absurd moved
moved_lengths y v x (r ∷ rs) [] moved = absurd moved
moved_lengths y v x (r ∷ rs) (s ∷ ss) moved = rw (moved.2, moved.3) (ap (λ more. distance r.x x ∷ r.len ∷ more) (moved_lengths y v (r.x +ℤ pos r.len) rs ss moved.5))

same_lengths : (left : ℤ) (f : ℤ → ℤ → ℤ) (bottom y v : ℤ) → AreSameRows f bottom y → bottom ≤ℤ v → v ≤ℤ y → row_lengths left f v ≡ row_lengths left f y
unfolding row_runs
same_lengths left f bottom y v rows low high = moved_lengths y v left _ _ (moved_runs f y v _ _ (λ z. rows.same z v low high))

-- ---- their bytes

counted : (n : ℕ) (blank : Option ℕ) → option_map suc blank ≡ option_map (λ m. m + 1) blank
counted n None = refl
counted n (Some m) = let more : suc m ≡ m + 1 = omega arith in ap (λ k. Some k) more

counted_twice : (n : ℕ) (blank : Option ℕ) → option_map (λ m. m + n) (option_map suc blank) ≡ option_map (λ m. m + suc n) blank
counted_twice n None = refl
counted_twice n (Some m) = let more : suc m + n ≡ m + suc n = omega arith in ap (λ k. Some k) more

module _ (f : ℤ → List ℕ) where
  -- the rows that come after the first m
  pub rows_after : (y : ℤ) (m n : ℕ) (blank : Option ℕ)
      → rows_text f y (m + n) blank ≡ rows_text f y m blank ++ rows_text f (y -ℤ pos m) n (blank_after_rows f y m blank)
  unfolding rows_text blank_after_rows
  rows_after y zero n blank = grind (arith, ints)
  rows_after y (suc m) n blank =
      let more : suc m + n ≡ suc (m + n) = omega arith in
      let below : y -ℤ pos 1 -ℤ pos m ≡ y -ℤ pos (suc m) = omega (arith, ints) in
      rw (more, append_assoc, ← below) (ap (λ bytes. row_text blank (f y) ++ bytes) (rows_after (y -ℤ pos 1) m n (blank_after blank (f y))))

  blank_rows : (y : ℤ) (n : ℕ) (blank : Option ℕ) → ((v : ℤ) → (y -ℤ pos n) ≤ℤ v → v ≤ℤ y → f v ≡ []) → rows_text f y (suc n) blank ≡ []
  unfolding rows_text row_text
  blank_rows y zero blank none = rw (none y (omega (arith, ints)) (omega (arith, ints))) refl
  blank_rows y (suc n) blank none =
      rw (none y (omega (arith, ints)) (omega (arith, ints))) (blank_rows (y -ℤ pos 1) n (blank_after blank []) (λ v low high. none v (omega (arith, ints)) (omega (arith, ints))))

  more_blank : (y : ℤ) (n : ℕ) (blank : Option ℕ) → ((v : ℤ) → (y -ℤ pos n) ≤ℤ v → v ≤ℤ y → f v ≡ [])
      → blank_after_rows f y (suc n) blank ≡ option_map (λ m. m + suc n) blank
  unfolding blank_after_rows blank_after
  more_blank y zero blank none = rw (none y (omega (arith, ints)) (omega (arith, ints))) (counted 0 blank)
  more_blank y (suc n) blank none =
      rw (none y (omega (arith, ints)) (omega (arith, ints)))
      (more_blank (y -ℤ pos 1) n (option_map suc blank) (λ v low high. none v (omega (arith, ints)) (omega (arith, ints))) ∙ counted_twice (suc n) blank)

  module _ (offset : ℕ) (others : List ℕ) where
    abbrev pub after_offset : List ℕ
    after_offset = flat_map paint others

    -- rows directly below one with the same lengths
    repeated_rows : (y : ℤ) (n : ℕ) → ((v : ℤ) → (y -ℤ pos n) ≤ℤ v → v ≤ℤ y → f v ≡ offset ∷ others)
        → rows_text f (y -ℤ pos 1) n (Some 0) ≡ repeated n (row_start (Some 0) offset ++ after_offset)
    unfolding rows_text row_text repeated blank_after
    repeated_rows y zero same = refl
    repeated_rows y (suc n) same =
        rw (same (y -ℤ pos 1) (omega (arith, ints)) (omega (arith, ints)))
        (ap (λ bytes. row_start (Some 0) offset ++ after_offset ++ bytes) (repeated_rows (y -ℤ pos 1) n (λ v low high. same v (omega (arith, ints)) (omega (arith, ints)))))

    equal_rows : (y : ℤ) (n : ℕ) (blank : Option ℕ) → ((v : ℤ) → (y -ℤ pos n) ≤ℤ v → v ≤ℤ y → f v ≡ offset ∷ others)
        → rows_text f y (suc n) blank ≡ row_start blank offset ++ after_offset ++ repeated n (row_start (Some 0) offset ++ after_offset)
    unfolding rows_text row_text blank_after
    equal_rows y n blank same = rw (same y (omega (arith, ints)) (omega (arith, ints))) (ap (λ bytes. row_start blank offset ++ after_offset ++ bytes) (repeated_rows y n same))

    none_blank : (y : ℤ) (n : ℕ) (blank : Option ℕ) → ((v : ℤ) → (y -ℤ pos n) ≤ℤ v → v ≤ℤ y → f v ≡ offset ∷ others)
        → blank_after_rows f y (suc n) blank ≡ Some 0
    unfolding blank_after_rows blank_after
    none_blank y zero blank same = rw (same y (omega (arith, ints)) (omega (arith, ints))) refl
    none_blank y (suc n) blank same =
        none_blank (y -ℤ pos 1) n (blank_after blank (f y)) (λ v low high. same v (omega (arith, ints)) (omega (arith, ints)))

-- ---- rows that a reader passes together

module _ (left : ℤ) (black : ℤ → ℤ → ℤ) (bottom y : ℤ) (rows : AreSameRows black bottom y) where
  abbrev own : ℤ → List ℕ
  own = row_lengths left black

  abbrev below : ℕ
  below = unsigned_abs (y -ℤ bottom)

  alike : (ls : List ℕ) → own y ≡ ls → (v : ℤ) → (y -ℤ pos below) ≤ℤ v → v ≤ℤ y → own v ≡ ls
  alike ls is v low high = same_lengths left black bottom y v rows (omega (arith, ints, rows.order, low)) high ∙ is

  pub passed_blank : own y ≡ [] → (blank : Option ℕ) → rows_text own y (rows_between y bottom) blank ≡ []
  passed_blank none blank = blank_rows own y below blank (alike [] none)

  pub counted_blank : own y ≡ [] → (blank : Option ℕ) → blank_after_rows own y (rows_between y bottom) blank ≡ option_map (λ m. m + rows_between y bottom) blank
  counted_blank none blank = more_blank own y below blank (alike [] none)

  module _ (offset : ℕ) (others : List ℕ) (is : own y ≡ offset ∷ others) (blank : Option ℕ) where
    pub passed_rows : rows_text own y (rows_between y bottom) blank
        ≡ row_start blank offset ++ flat_map paint others ++ repeated below (row_start (Some 0) offset ++ flat_map paint others)
    passed_rows = equal_rows own offset others y below blank (alike (offset ∷ others) is)

    pub counted_rows : blank_after_rows own y (rows_between y bottom) blank ≡ Some 0
    counted_rows = none_blank own offset others y below blank (alike (offset ∷ others) is)
