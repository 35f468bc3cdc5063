-- The ended lines and the unended line of a script that goes on.
use Rattle.std.proofs.Common.{◌≡◌, ◌≢◌, ℕ, Bool, true, false, cond, eqb, List, [], ◌∷◌, ◌++◌, length, refl, sym, ap, ◌∙◌, append-nil, arith}
use Rattle.std.proofs.lemmas.Bool.{ne_eqb, cond-false}
use Rattle.std.proofs.lemmas.List.Elements.{All-weaker}
use Rattle.std.proofs.lemmas.List.Splits.{slice_split_none}
use Rattle.std.specs.Prelude.{if◌then◌else◌, ◌==◌, All}
use Rattle.std.specs.List.{slice_split, onto_first}
use Rattle.std.specs.Str.Lines.{lines, lines_of_parts, strip_carriage_return}
use Rattle.mf_desk.specs.Ended.{ended_of_parts, last_part, ended_lines, unended_line}

abbrev is_line_feed : ℕ → Bool
is_line_feed b = b == 10

abbrev parts_of : List ℕ → List (List ℕ)
parts_of = slice_split is_line_feed

-- the parts of bytes after the first one, by whether this is a line feed
abbrev parts_by : Bool → ℕ → List ℕ → List (List ℕ)
parts_by feeds b bs = cond feeds ([] ∷ parts_of bs) (onto_first b (parts_of bs))

-- parts, the first of which begins with these bytes
abbrev onto_front : List ℕ → List (List ℕ) → List (List ℕ)
onto_front x [] = x ∷ []
onto_front x (y ∷ more) = (x ++ y) ∷ more

-- parts and others, where the last of these and the first of those are one part
abbrev joint_parts : List (List ℕ) → List (List ℕ) → List (List ℕ)
joint_parts [] es = es
joint_parts (x ∷ []) es = onto_front x es
joint_parts (x ∷ y ∷ more) es = x ∷ joint_parts (y ∷ more) es

-- there is always a first part
parts_first : (bs : List ℕ) → (x : List ℕ) × (more : List (List ℕ)) × (parts_of bs ≡ x ∷ more)
parts_first [] = ([], [], refl)
parts_first (b ∷ bs) =
    let (x, more, is) = parts_first bs in
    elim (is_line_feed b) as (λ v. (y : List ℕ) × (others : List (List ℕ)) × (parts_by v b bs ≡ y ∷ others)) [
      | true ↦ ([], parts_of bs, refl)
      | false ↦ (b ∷ x, more, ap (onto_first b) is)
    ]

joint_parts-cons : (p : List ℕ) (ds es : List (List ℕ)) (x : List ℕ) (more : List (List ℕ)) → ds ≡ x ∷ more
    → joint_parts (p ∷ ds) es ≡ p ∷ joint_parts ds es
joint_parts-cons p ds es x more is = rw is refl

onto_first-joint : (b : ℕ) (ds es : List (List ℕ)) → onto_first b (joint_parts ds es) ≡ joint_parts (onto_first b ds) es
onto_first-joint b [] [] = refl
onto_first-joint b [] (y ∷ es) = refl
onto_first-joint b (x ∷ []) [] = refl
onto_first-joint b (x ∷ []) (y ∷ es) = refl
onto_first-joint b (x ∷ y ∷ more) es = refl

parts-append : (xs ys : List ℕ) → parts_of (xs ++ ys) ≡ joint_parts (parts_of xs) (parts_of ys)
parts-append [] ys = let (x, more, is) = parts_first ys in rw is refl
parts-append (b ∷ xs) ys =
    let (x, more, is) = parts_first xs in
    let rest = parts-append xs ys in
    elim (is_line_feed b)
    as (λ v. parts_by v b (xs ++ ys) ≡ joint_parts (parts_by v b xs) (parts_of ys)) [
      | true ↦ ap (λ ds. [] ∷ ds) rest ∙ sym (joint_parts-cons [] (parts_of xs) (parts_of ys) x more is)
      | false ↦ ap (onto_first b) rest ∙ onto_first-joint b (parts_of xs) (parts_of ys)
    ]

ended_of_parts-joint : (ds es : List (List ℕ)) → ended_of_parts (joint_parts ds es) ≡ ended_of_parts ds ++ ended_of_parts (onto_front (last_part ds) es)
unfolding ended_of_parts last_part
ended_of_parts-joint [] [] = refl
ended_of_parts-joint [] (y ∷ es) = refl
ended_of_parts-joint (x ∷ []) es = refl
ended_of_parts-joint (x ∷ y ∷ []) [] = refl
ended_of_parts-joint (x ∷ y ∷ []) (z ∷ es) = refl
ended_of_parts-joint (x ∷ y ∷ z ∷ more) es = ap (λ ls. strip_carriage_return x ∷ ls) (ended_of_parts-joint (y ∷ z ∷ more) es)

last_part-joint : (ds es : List (List ℕ)) → last_part (joint_parts ds es) ≡ last_part (onto_front (last_part ds) es)
unfolding last_part
last_part-joint [] [] = refl
last_part-joint [] (y ∷ es) = refl
last_part-joint (x ∷ []) es = refl
last_part-joint (x ∷ y ∷ []) [] = refl
last_part-joint (x ∷ y ∷ []) (z ∷ es) = refl
last_part-joint (x ∷ y ∷ z ∷ more) es = last_part-joint (y ∷ z ∷ more) es

ended_lines-append : (read more : List ℕ) → ended_lines (read ++ more) ≡ ended_lines read ++ ended_of_parts (onto_front (unended_line read) (parts_of more))
unfolding ended_lines unended_line
ended_lines-append read more = ap ended_of_parts (parts-append read more) ∙ ended_of_parts-joint (parts_of read) (parts_of more)

unended_line-append : (read more : List ℕ) → unended_line (read ++ more) ≡ last_part (onto_front (unended_line read) (parts_of more))
unfolding unended_line
unended_line-append read more = ap last_part (parts-append read more) ∙ last_part-joint (parts_of read) (parts_of more)

pub ended_lines-line_feed : (read : List ℕ) → ended_lines (read ++ 10 ∷ []) ≡ ended_lines read ++ strip_carriage_return (unended_line read) ∷ []
unfolding ended_of_parts
ended_lines-line_feed read =
    ended_lines-append read (10 ∷ []) ∙ ap (λ line. ended_lines read ++ strip_carriage_return line ∷ []) (append-nil (unended_line read))

pub unended_line-line_feed : (read : List ℕ) → unended_line (read ++ 10 ∷ []) ≡ []
unfolding last_part
unended_line-line_feed read = unended_line-append read (10 ∷ [])

parts-unbroken : (bytes : List ℕ) → All (λ b. b ≢ 10) bytes → parts_of bytes ≡ bytes ∷ []
parts-unbroken bytes unbroken =
    slice_split_none is_line_feed bytes (All-weaker (λ b. b ≢ 10) (λ b. is_line_feed b ≡ false) (λ b other. ne_eqb b 10 other) bytes unbroken)

-- bytes without a line feed end no line
pub ended_lines-unbroken : (read bytes : List ℕ) → All (λ b. b ≢ 10) bytes → ended_lines (read ++ bytes) ≡ ended_lines read
unfolding ended_of_parts
ended_lines-unbroken read bytes unbroken = grind (arith, ended_lines-append, parts-unbroken, append-nil)

-- they go after the other bytes of the unended line
pub unended_line-unbroken : (read bytes : List ℕ) → All (λ b. b ≢ 10) bytes → unended_line (read ++ bytes) ≡ unended_line read ++ bytes
unfolding last_part
unended_line-unbroken read bytes unbroken =
    unended_line-append read bytes ∙ ap (λ parts. last_part (onto_front (unended_line read) parts)) (parts-unbroken bytes unbroken)

-- however the script goes on, the ended lines stay its first lines
pub ended_lines-front : (read more : List ℕ) → (others : List (List ℕ)) × (ended_lines (read ++ more) ≡ ended_lines read ++ others)
ended_lines-front read more = (ended_of_parts (onto_front (unended_line read) (parts_of more)), ended_lines-append read more)

-- the unended bytes at the end of a script: a line, or none
abbrev pub last_line : List ℕ → List (List ℕ)
last_line bytes = if length bytes == 0 then [] else bytes ∷ []

lines_of_parts-ended : (ds : List (List ℕ)) → lines_of_parts ds ≡ ended_of_parts ds ++ last_line (last_part ds)
unfolding ended_of_parts last_part
lines_of_parts-ended [] = refl
lines_of_parts-ended (x ∷ []) = refl
lines_of_parts-ended (x ∷ y ∷ more) = ap (λ ls. strip_carriage_return x ∷ ls) (lines_of_parts-ended (y ∷ more))

lines-ended : (read : List ℕ) → lines read ≡ ended_lines read ++ last_line (unended_line read)
unfolding ended_lines unended_line
lines-ended read = lines_of_parts-ended (parts_of read)

-- there is no byte after the last line feed
pub lines-none : (read : List ℕ) → unended_line read ≡ [] → lines read ≡ ended_lines read
lines-none read none = lines-ended read ∙ rw none (append-nil (ended_lines read))

-- the last line ends with the script
pub lines-last : (read : List ℕ) → eqb (length (unended_line read)) 0 ≡ false → lines read ≡ ended_lines read ++ unended_line read ∷ []
lines-last read some = lines-ended read ∙ ap (λ ls. ended_lines read ++ ls) (cond-false _ _ _ some)
