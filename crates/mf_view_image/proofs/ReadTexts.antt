-- The texts of paths, read back.
use Rattle.std.proofs.Common.{◌≡◌, ◌≢◌, ℕ, suc, ◌+◌, ◌*◌, ◌^◌, ◌<◌, true, false, ℤ, pos, negsuc, neg_ℤ, ◌+ℤ◌}
use Rattle.std.proofs.Common.{List, ◌∷◌, ◌++◌, codes, decimal, refl, ap, ◌∙◌, append_assoc, arith}
use Rattle.std.specs.Char.{is_ascii_digit}
use Rattle.std.specs.Fmt.{signed_decimal}
use Rattle.std.specs.Int.RustNames.{unsigned_abs}
use Rattle.std.proofs.lemmas.Bool.{ne_eqb}
use Rattle.std.proofs.lemmas.Bool.Decides.{nat_tests}
use Rattle.std.proofs.lemmas.Fmt.{decimal_by_steps}
use Rattle.std.proofs.lemmas.Int.{ints}
use Rattle.mf_rows.specs.declared.run.Run.{Run}
use Rattle.mf_rows.specs.Order.{IsRun}
use Rattle.mf_rows.specs.Runs.{equal_dots}
use Rattle.mf_text_show.specs.Grid.{digit_zero, line_feed, minus_sign}
use Rattle.mf_view_image.specs.declared.svg_image.ViewBox.{ViewBox}
use Rattle.mf_view_image.specs.Reading.{rest_after, after_first, space, before_width, number, dots_in, with_digits}
use Rattle.mf_view_image.specs.Svg.{IsImageNumber, HasImageNumbers, axes, cover, grid, opening, rectangle}

-- ---- digits

-- a function of texts passes a digit at the front
abbrev pub PassesDigits : {A : Type 0} → (List ℕ → A) → Type 0
PassesDigits f = (d : ℕ) (bs : List ℕ) → d < 10 → f ((digit_zero + d) ∷ bs) ≡ f bs

pass_decimal : {A : Type 0} (f : List ℕ → A) → PassesDigits f → (n : ℕ) (bs : List ℕ) → n < 2 ^ 64 → f (decimal n ++ bs) ≡ f bs
pass_decimal f digit n bs small =
    decimal_by_steps (λ k ds. (rest : List ℕ) → f (ds ++ rest) ≡ f rest) (λ d below rest. digit d rest below)
    (grind (arith, ints, append_assoc)) n small bs

pub pass_number : {A : Type 0} (f : List ℕ → A) → PassesDigits f → ((bs : List ℕ) → f (minus_sign ∷ bs) ≡ f bs) → (z : ℤ) (bs : List ℕ) → IsImageNumber z
    → f (signed_decimal z ++ bs) ≡ f bs
pass_number f digit sign (pos n) bs small = pass_decimal f digit n bs (omega (arith, ints, small.greatest))
pass_number f digit sign (negsuc n) bs small = sign (decimal (suc n) ++ bs) ∙ pass_decimal f digit (suc n) bs (omega (arith, ints, small.least))

-- ---- a number is read back

with_digits-digit : (n d : ℕ) (bs : List ℕ) → d < 10 → with_digits n ((digit_zero + d) ∷ bs) ≡ with_digits (10 * n + d) bs
unfolding with_digits
with_digits-digit n d bs below = grind (arith, ints, nat_tests)

with_digits-decimal : (n : ℕ) (bs : List ℕ) → n < 2 ^ 64 → with_digits 0 (decimal n ++ bs) ≡ with_digits n bs
with_digits-decimal n bs small =
    decimal_by_steps (λ k ds. (rest : List ℕ) → with_digits 0 (ds ++ rest) ≡ with_digits k rest)
    (λ d below rest. let value : 10 * 0 + d ≡ d = omega arith in with_digits-digit 0 d rest below ∙ ap (λ m. with_digits m rest) value)
    (grind (arith, ints, append_assoc, with_digits-digit)) n small bs

number-decimal : (n : ℕ) (bs : List ℕ) → n < 2 ^ 64 → number (decimal n ++ bs) ≡ pos (with_digits 0 (decimal n ++ bs))
unfolding number
number-decimal n bs small =
    decimal_by_steps (λ k ds. (rest : List ℕ) → number (ds ++ rest) ≡ pos (with_digits 0 (ds ++ rest)))
    (λ d below rest. rw (ne_eqb (digit_zero + d) minus_sign (λ same. omega arith)) refl)
    (grind (arith, ints, append_assoc)) n small bs

with_digits-end : (n c : ℕ) (bs : List ℕ) → is_ascii_digit c ≡ false → with_digits n (c ∷ bs) ≡ n
unfolding with_digits
with_digits-end n c bs other = rw other refl

pub number_read : (z : ℤ) (c : ℕ) (bs : List ℕ) → IsImageNumber z → is_ascii_digit c ≡ false → number (signed_decimal z ++ c ∷ bs) ≡ z
unfolding number
number_read (pos n) c bs small other = grind (arith, ints, number-decimal, with_digits-decimal, with_digits-end)
number_read (negsuc n) c bs small other = grind (arith, ints, with_digits-decimal, with_digits-end)

pub first_passes_digits : (c : ℕ) → ((d : ℕ) → d < 10 → (digit_zero + d) ≢ c) → PassesDigits (after_first c)
unfolding after_first
first_passes_digits c apart d bs below = rw (ne_eqb (digit_zero + d) c (apart d below)) refl

-- ---- the middle of a line

read_passes_digits : (w : ℤ) → PassesDigits (dots_in false w)
unfolding dots_in
read_passes_digits w d bs below = rw (ne_eqb (digit_zero + d) line_feed (λ same. omega arith)) refl

-- a text is passed in the middle of a line
abbrev pub IsPassed : ℤ → List ℕ → Type 0
IsPassed w t = (rest : List ℕ) → dots_in false w (t ++ rest) ≡ dots_in false w rest

-- a text ends a line, after which no line of it draws
abbrev pub IsEnd : ℤ → List ℕ → Type 0
IsEnd w t = (rest : List ℕ) → dots_in false w (t ++ rest) ≡ dots_in true w rest

pub number_passed : (w z : ℤ) → IsImageNumber z → IsPassed w (signed_decimal z)
unfolding dots_in
number_passed w z small rest = pass_number (dots_in false w) (read_passes_digits w) (λ bs. refl) z rest small

pub end_after : (w : ℤ) (s t : List ℕ) → IsPassed w s → IsEnd w t → IsEnd w (s ++ t)
end_after w s t passed end rest = ap (dots_in false w) (append_assoc s t rest) ∙ passed (t ++ rest) ∙ end rest

-- ---- the lines before and after the paths

grid_read : (w : ℤ) → IsEnd w grid
unfolding dots_in grid rest_after
grid_read w rest = refl

-- a number and a mark after it are passed
pair_end : (w z : ℤ) (mark t : List ℕ) → IsImageNumber z → IsPassed w mark → IsEnd w t → IsEnd w (signed_decimal z ++ (mark ++ t))
pair_end w z mark t small passed end = end_after w (signed_decimal z) (mark ++ t) (number_passed w z small) (end_after w mark t passed end)

pub opening_read : (w : ℤ) (s : ViewBox) (rest : List ℕ) → HasImageNumbers s → dots_in true w (opening s ++ rest) ≡ dots_in true w rest
unfolding opening dots_in rest_after
opening_read w s rest small =
    let line = signed_decimal s.left ++ (codes " " ++ (signed_decimal s.top ++ (codes " " ++ (signed_decimal s.width ++ (codes " "
    ++ (signed_decimal s.height ++ grid)))))) in
    let ends : IsEnd w line =
    pair_end w s.left (codes " ") _ small.left (λ more. refl) (pair_end w s.top (codes " ") _ small.top (λ more. refl)
    (pair_end w s.width (codes " ") _ small.width (λ more. refl) (end_after w (signed_decimal s.height) grid
    (number_passed w s.height small.height) (grid_read w)))) in
    let text : opening s ++ rest ≡ codes "<svg xmlns=\"http://www.w3.org/2000/svg\" viewBox=\"" ++ (line ++ rest) = simp append_assoc in
    ap (dots_in true w) text ∙ ends rest

pub cover_read : (w : ℤ) (s : ViewBox) (fill rest : List ℕ) → HasImageNumbers s → IsPassed w fill → dots_in true w (cover s fill ++ rest) ≡ dots_in true w rest
unfolding cover dots_in rest_after
cover_read w s fill rest small filled =
    let line = signed_decimal s.left ++ (codes "\" y=\"" ++ (signed_decimal s.top ++ (codes "\" width=\"" ++ (signed_decimal s.width
    ++ (codes "\" height=\"" ++ (signed_decimal s.height ++ (codes "\" fill=\"" ++ (fill ++ codes "\"/>\n")))))))) in
    let ends : IsEnd w line =
    pair_end w s.left (codes "\" y=\"") _ small.left (λ more. refl) (pair_end w s.top (codes "\" width=\"") _ small.top (λ more. refl)
    (pair_end w s.width (codes "\" height=\"") _ small.width (λ more. refl) (pair_end w s.height (codes "\" fill=\"") _ small.height
    (λ more. refl) (end_after w fill (codes "\"/>\n") filled (λ more. refl))))) in
    let text : cover s fill ++ rest ≡ codes "<rect x=\"" ++ (line ++ rest) = simp append_assoc in
    ap (dots_in true w) text ∙ ends rest

pub axes_read : (w : ℤ) (s : ViewBox) (rest : List ℕ) → HasImageNumbers s → dots_in true w (axes s ++ rest) ≡ dots_in true w rest
unfolding axes dots_in rest_after
axes_read w s rest small =
    let line = signed_decimal s.top ++ (codes "v" ++ (signed_decimal s.height ++ (codes "M" ++ (signed_decimal s.left ++ (codes " 0h"
    ++ (signed_decimal s.width ++ codes "\" stroke=\"#c00\" stroke-width=\".12\"/>\n")))))) in
    let ends : IsEnd w line =
    pair_end w s.top (codes "v") _ small.top (λ more. refl) (pair_end w s.height (codes "M") _ small.height (λ more. refl)
    (pair_end w s.left (codes " 0h") _ small.left (λ more. refl) (end_after w (signed_decimal s.width) _
    (number_passed w s.width small.width) (λ more. refl)))) in
    let text : axes s ++ rest ≡ codes "<path d=\"M0 " ++ (line ++ rest) = simp append_assoc in
    ap (dots_in true w) text ∙ ends rest

-- ---- a rectangle

-- the line of a rectangle after its `M`
abbrev sides : ℤ → ℤ → ℕ → List ℕ
sides x top n =
    signed_decimal x ++ (codes " " ++ (signed_decimal top ++ (codes "h" ++ (signed_decimal (pos n)
    ++ (codes "v1h-" ++ (signed_decimal (pos n) ++ codes "z\n"))))))

-- what its width is, and what comes after it
abbrev width_on : ℕ → List ℕ → List ℕ
width_on n rest = signed_decimal (pos n) ++ (codes "v1h-" ++ (signed_decimal (pos n) ++ (codes "z\n" ++ rest)))

sides_on : (x top : ℤ) (n : ℕ) (rest : List ℕ)
    → sides x top n ++ rest ≡ signed_decimal x ++ space ∷ (signed_decimal top ++ before_width ∷ width_on n rest)
sides_on x top n rest = simp append_assoc

sides_passed : (w x top : ℤ) (n : ℕ) → IsImageNumber x → IsImageNumber top → IsImageNumber (pos n) → IsEnd w (sides x top n)
unfolding dots_in
sides_passed w x top n column row width =
    pair_end w x (codes " ") _ column (λ more. refl) (pair_end w top (codes "h") _ row (λ more. refl)
    (grind (arith, ints, number_passed w (pos n) width, pair_end, end_after)))

top_found : (x top : ℤ) (n : ℕ) (rest : List ℕ) → IsImageNumber x
    → after_first space (sides x top n ++ rest) ≡ signed_decimal top ++ before_width ∷ width_on n rest
unfolding after_first
top_found x top n rest column =
    ap (after_first space) (sides_on x top n rest)
    ∙ pass_number (after_first space) (first_passes_digits space (λ d below same. omega arith)) (λ bs. refl) x
    (space ∷ (signed_decimal top ++ before_width ∷ width_on n rest)) column

width_found : (x top : ℤ) (n : ℕ) (rest : List ℕ) → IsImageNumber x → IsImageNumber top → after_first before_width (sides x top n ++ rest) ≡ width_on n rest
unfolding after_first
width_found x top n rest column row =
    let digits = first_passes_digits before_width (λ d below same. omega arith) in
    ap (after_first before_width) (sides_on x top n rest)
    ∙ pass_number (after_first before_width) digits (λ bs. refl) x (space ∷ (signed_decimal top ++ before_width ∷ width_on n rest)) column
    ∙ pass_number (after_first before_width) digits (λ bs. refl) top (before_width ∷ width_on n rest) row

-- the line of a run draws its pixels, with the weight of the path
pub rectangle_read : (w : ℤ) (r : Run) (rest : List ℕ) → IsRun r → dots_in true w (rectangle r ++ rest) ≡ equal_dots r.y r.x w r.len ++ dots_in true w rest
unfolding rectangle dots_in rest_after
rectangle_read w r rest run =
    let top = neg_ℤ (r.y +ℤ pos 1) in
    let column : IsImageNumber r.x = omega (arith, ints, run) in
    let row : IsImageNumber top = omega (arith, ints, run) in
    let width : IsImageNumber (pos r.len) = omega (arith, ints, run) in
    let text = sides r.x top r.len ++ rest in
    let x : number text ≡ r.x = ap number (sides_on r.x top r.len rest) ∙ number_read r.x _ _ column refl in
    let edge : number (after_first space text) ≡ top = ap number (top_found r.x top r.len rest column) ∙ number_read top _ _ row refl in
    let y : neg_ℤ (number (after_first space text) +ℤ pos 1) ≡ r.y = ap (λ z. neg_ℤ (z +ℤ pos 1)) edge ∙ omega (arith, ints) in
    let len : unsigned_abs (number (after_first before_width text)) ≡ r.len =
    ap (λ t. unsigned_abs (number t)) (width_found r.x top r.len rest column row) ∙ ap unsigned_abs (number_read (pos r.len) _ _ width refl) in
    let line : rectangle r ++ rest ≡ codes "M" ++ text = simp append_assoc in
    grind (arith, ints, sides_passed)
