-- Shades, and the shades of cells.
use Rattle.std.proofs.Common.{◌≡◌, ℕ, zero, suc, if◌then◌else◌, Bool, ◌&&◌, true, false, ℤ, pos, ◌+ℤ◌, ◌≤ℤ◌, ◌<ℤ◌, List}
use Rattle.std.proofs.Common.{[], ◌∷◌, ◌++◌, refl, sym, ap, ◌∙◌, arith}
use Rattle.std.specs.Prelude.{max}
use Rattle.std.specs.Bool.{Decides}
use Rattle.std.specs.Ordering.{int_eq, ord_max}
use Rattle.std.proofs.lemmas.Bool.{cond-true, cond-false, cond_both, false_from_ne_true, ltb-false}
use Rattle.std.proofs.lemmas.Bool.Decides.{Decides-and, Decides-int_eq, Decides-ltb}
use Rattle.std.proofs.lemmas.Int.{ints, by_lt_z}
use Rattle.mf_rows.specs.Dots.{Dot}
use Rattle.mf_rows.specs.Runs.{equal_dots}
use Rattle.mf_view_frame.specs.declared.shade.Shade.{Shade}
use Rattle.mf_view_frame.specs.declared.shade.Shade.TheVariants.{Blank, Negative, One, Two, More}
use Rattle.mf_view_frame.specs.contracts.shade.ShadeOrd.TheImpl as ord
use Rattle.mf_view_frame.specs.Cells.{cell_of, cell_shade, darker, depth, shade_of}
use Rattle.mf_view_frame.proofs.Floors.{cell-next}

-- the shade of a depth
shade_at : ℕ → Shade
shade_at zero = Blank
shade_at (suc zero) = Negative
shade_at (suc (suc zero)) = One
shade_at (suc (suc (suc zero))) = Two
shade_at (suc (suc (suc (suc n)))) = More

-- what holds for each of the five holds for all shades
by_shade : (P : Shade → Type 0) → P Blank → P Negative → P One → P Two → P More → (a : Shade) → P a
by_shade P blank negative one two more Blank = blank
by_shade P blank negative one two more Negative = negative
by_shade P blank negative one two more One = one
by_shade P blank negative one two more Two = two
by_shade P blank negative one two more More = more

shade_at-depth : (a : Shade) → shade_at (depth a) ≡ a
unfolding shade_at
shade_at-depth = by_shade (λ a. shade_at (depth a) ≡ a) refl refl refl refl refl

same_depth : (a b : Shade) → depth a ≡ depth b → a ≡ b
same_depth a b same = sym (shade_at-depth a) ∙ ap shade_at same ∙ shade_at-depth b

-- the darker shade of two is as dark as the darker one of both
pub depth-darker : (a b : Shade) → depth (darker a b) ≡ max (depth a) (depth b)
depth-darker a b = grind (arith, ints, cond_both, Decides-ltb, ltb-false)

pub darker-same : (a : Shade) → darker a a ≡ a
darker-same a = same_depth _ _ (depth-darker a a ∙ omega arith)

pub darker-blank : (a : Shade) → darker a Blank ≡ a
darker-blank a = same_depth _ _ (depth-darker a Blank ∙ omega arith)

blank-darker : (a : Shade) → darker Blank a ≡ a
blank-darker a = same_depth _ _ (depth-darker Blank a ∙ omega arith)

-- the greater shade is the darker one
abbrev GreaterIsDarker : Shade → Shade → Type 0
GreaterIsDarker a b = ord_max (ord.ghosts).cmp a b ≡ darker a b

pub max-darker : (a b : Shade) → GreaterIsDarker a b
max-darker Blank = by_shade (GreaterIsDarker Blank) refl refl refl refl refl
max-darker Negative = by_shade (GreaterIsDarker Negative) refl refl refl refl refl
max-darker One = by_shade (GreaterIsDarker One) refl refl refl refl refl
max-darker Two = by_shade (GreaterIsDarker Two) refl refl refl refl refl
max-darker More = by_shade (GreaterIsDarker More) refl refl refl refl refl

-- ---- the shade of a cell

-- the test of a pixel of the cell (i, j) passes exactly where its column and row are those of the cell
pub in_cell : (s x y i j : ℤ) → Decides (int_eq (cell_of s x) i && int_eq (cell_of s y) j) ((cell_of s x ≡ i) × (cell_of s y ≡ j))
in_cell s x y i j = Decides-and (int_eq (cell_of s x) i) (int_eq (cell_of s y) j) (Decides-int_eq (cell_of s x) i) (Decides-int_eq (cell_of s y) j)

pub shade-here : (s : ℤ) (d : Dot) (ds : List Dot) (i j : ℤ) → cell_of s d.x ≡ i → cell_of s d.y ≡ j
    → cell_shade s (d ∷ ds) i j ≡ darker (shade_of d.weight) (cell_shade s ds i j)
unfolding cell_shade
shade-here s d ds i j column row = grind (arith, ints, cond-true, in_cell)

pub shade-elsewhere : (s : ℤ) (d : Dot) (ds : List Dot) (i j : ℤ) → (cell_of s d.x ≡ i → cell_of s d.y ≡ j → ⊥)
    → cell_shade s (d ∷ ds) i j ≡ cell_shade s ds i j
unfolding cell_shade
shade-elsewhere s d ds i j elsewhere = grind (arith, ints, cond-false, false_from_ne_true, in_cell)

pub shade-none : (s i j : ℤ) → cell_shade s [] i j ≡ Blank
unfolding cell_shade
shade-none s i j = refl

-- a shade of a dot and others, by whether the dot is in the cell
pub by_dot : (s : ℤ) (d : Dot) (ds : List Dot) (i j : ℤ) (P : Shade → Type 0) → P (darker (shade_of d.weight) (cell_shade s ds i j)) → P (cell_shade s ds i j)
    → P (cell_shade s (d ∷ ds) i j)
unfolding cell_shade
by_dot s d ds i j P here elsewhere = grind (arith, ints, cond_both)

cond_same : (b : Bool) (h all ds es : Shade) → all ≡ darker ds es → (if b then darker h all else all) ≡ darker (if b then darker h ds else ds) es
cond_same true h all ds es others = ap (darker h) others ∙ sym (grind (arith, ints, same_depth, depth-darker))
cond_same false h all ds es others = others

-- the shade of two lists of dots is the darker one of theirs
pub shade-append : (s : ℤ) (ds es : List Dot) (i j : ℤ) → cell_shade s (ds ++ es) i j ≡ darker (cell_shade s ds i j) (cell_shade s es i j)
unfolding cell_shade
shade-append s [] es i j = sym (blank-darker (cell_shade s es i j))
shade-append s (d ∷ ds) es i j =
    let others = shade-append s ds es i j in
    cond_same (int_eq (cell_of s d.x) i && int_eq (cell_of s d.y) j) (shade_of d.weight) (cell_shade s (ds ++ es) i j)
    (cell_shade s ds i j) (cell_shade s es i j) others

-- ---- the cells of equal dots

-- equal dots reach no cells outside their row, and none before their first or after their last
pub equal_dots-outside : (s : ℤ) (y x w : ℤ) (n : ℕ) (i j : ℤ) → pos 1 ≤ℤ s
    → ((u : ℤ) → x ≤ℤ u → u <ℤ (x +ℤ pos n) → cell_of s u ≡ i → cell_of s y ≡ j → ⊥) → cell_shade s (equal_dots y x w n) i j ≡ Blank
unfolding cell_shade equal_dots
equal_dots-outside s y x w zero i j positive outside = refl
equal_dots-outside s y x w (suc n) i j positive outside =
    shade-elsewhere s (record { y = y; x = x; weight = w }) (equal_dots y (x +ℤ pos 1) w n) i j (outside x (omega (arith, ints)) (omega (arith, ints)))
    ∙ equal_dots-outside s y (x +ℤ pos 1) w n i j positive (λ u from to. outside u (omega (arith, ints)) (omega (arith, ints)))

-- they give their shade to a cell, or none
equal_dots-either : (s : ℤ) (y x w : ℤ) (n : ℕ) (i j : ℤ) → darker (shade_of w) (cell_shade s (equal_dots y x w n) i j) ≡ shade_of w
unfolding cell_shade equal_dots
equal_dots-either s y x w zero i j = darker-blank (shade_of w)
equal_dots-either s y x w (suc n) i j = grind (arith, ints, by_dot, darker-same, equal_dots-either s y (x +ℤ pos 1) w n i j)

-- they give their shade to each cell of their row from their first to their last
pub equal_dots-inside : (s : ℤ) (y x w : ℤ) (n : ℕ) (i j : ℤ) → pos 1 ≤ℤ s → cell_of s y ≡ j → cell_of s x ≤ℤ i → i ≤ℤ cell_of s (x +ℤ pos n)
    → cell_shade s (equal_dots y x w (suc n)) i j ≡ shade_of w
unfolding equal_dots
equal_dots-inside s y x w zero i j positive row left right =
    let same : x +ℤ pos 0 ≡ x = omega (arith, ints) in
    grind (arith, ints, shade-here, shade-none, darker-blank)
equal_dots-inside s y x w (suc n) i j positive row left right =
    let d : Dot = record { y = y; x = x; weight = w } in
    let later = equal_dots y (x +ℤ pos 1) w (suc n) in
    by_lt_z (cell_of s x) i
    (λ after.
    let step = cell-next s x positive in
    let same : x +ℤ pos (suc n) ≡ (x +ℤ pos 1) +ℤ pos n = omega (arith, ints) in
    let others = equal_dots-inside s y (x +ℤ pos 1) w n i j positive row (omega (arith, ints)) (rw same at right) in
    by_dot s d later i j (λ shade. shade ≡ shade_of w) (ap (darker (shade_of w)) others ∙ darker-same (shade_of w)) others)
    (λ first.
    let column : cell_of s x ≡ i = omega (arith, ints) in
    shade-here s d later i j column row ∙ equal_dots-either s y (x +ℤ pos 1) w (suc n) i j)
