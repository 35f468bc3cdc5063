-- Tokens that are read as a line are the spelling of that line.
use Rattle.std.proofs.Common.{◌≡◌, ℕ, zero, suc, ◌+◌, true, List, [], ◌∷◌, ◌++◌, length, Option, Some, None}
use Rattle.std.proofs.Common.{refl, sym, ap, subst, ◌∙◌, append_assoc, append-nil, flat_map, length-append, arith}
use Rattle.std.proofs.lemmas.Int.{ints}
use Rattle.std.specs.Option.{IfSome}
use Rattle.std.proofs.lemmas.Bool.{false≢true}
use Rattle.std.proofs.lemmas.Option.{none-some, same_Some}
use Rattle.mf_rows.specs.declared.sign.Sign.TheVariants.{Plus, Minus}
use Rattle.mf_text.specs.declared.token.Mark.TheVariants as mark
use Rattle.mf_text.specs.Token as token
use Rattle.mf_text.specs.declared.token.Word.TheVariants as word
use Rattle.mf_text.specs.Grammar.{Form, Nothing, AddContour, AddPicture, CullKeeping, CullDropping, Clear, ShowTotal}
use Rattle.mf_text.specs.Grammar.{ShowPicture, ShowProof, ShipOut, SetCheck, PublishAll}
use Rattle.mf_text.specs.Grammar.{Line, Path, spell_form, spell_weight, spell_int, spell_pair, spell_name, spell_source, spell_corner, source_token}
use Rattle.mf_text.specs.Grammar.{spell_path, spell_line, Code, Name, Source, Null, Named, Int, Pair}
use Rattle.mf_text.specs.Rests.{Kind, Of, This, Names, Codes, Rest, Ends, Take, OrTake, Corners, One, Or, CodeNumber, ends, if_kind}
use Rattle.mf_text.specs.Rests.{character_code, int, is_code_number, pair, path, rest_of_corner, rest_of_pair, source, step, assignment, line, line_end}
use Rattle.mf_text.specs.Rests.{transform, weight_then_end, Token}
use Rattle.mf_text.specs.Syntax.{is_negative_code}
use Rattle.mf_text.proofs.Rests.{HasSign, token_of, value_is, is_code_number_at, reads}

-- `shipout`, a source, `code` and `-`
abbrev to_number : Token → List Token
to_number s = token.Word word.Shipout ∷ s ∷ token.Word word.Code ∷ token.Mark mark.Minus ∷ []

-- after these tokens, each line that the rest ends as is spelled with them and those that it takes
abbrev pub Spells : List Token → Rest → Type 0
Spells past (Ends l) = spell_line l ≡ past
Spells past (One u this) = Spells (past ++ u ∷ []) this
Spells past (Or u this other) = Spells (past ++ u ∷ []) this × Spells past other
Spells past (Take k next) = (a : Of k) → HasSign k a → Spells (past ++ token_of k a ∷ []) (next a)
Spells past (OrTake k next other) = ((a : Of k) → HasSign k a → Spells (past ++ token_of k a ∷ []) (next a)) × Spells past other
Spells past (CodeNumber next) =
    ((s : Token) × (past ≡ to_number s)) × ((c : Code) → c.int.negative ≡ true → Spells (past ++ token.Number c.int.magnitude ∷ []) (next c))
Spells past (Corners next) = (more : List Pair) → Spells (past ++ (flat_map spell_corner more ++ token.Word word.Cycle ∷ [])) (next more)

-- ---- a step

-- after a token of a kind, or else in another way
kind_step : (past : List Token) (k : Kind) (next : Of k → Rest) (t : Token) (other : Option Rest)
    → ((a : Of k) → HasSign k a → Spells (past ++ token_of k a ∷ []) (next a)) → IfSome other (Spells (past ++ t ∷ []))
    → IfSome (if_kind k next t other) (Spells (past ++ t ∷ []))
kind_step past k next t other spells second = grind (arith, ints, value_is k t)

-- ---- phrases

-- the same, with the tokens and the rest in its name
record Sound (past : List Token) (r : Rest) : Type 0 where
  by : Spells past r

sound_at : {past other : List Token} {r : Rest} → past ≡ other → Sound past r → Sound other r
sound_at {r = r} is sound = subst (λ ts. Sound ts r) is sound

sound_one : {past : List Token} {u : Token} {this : Rest} → Sound (past ++ u ∷ []) this → Sound past (One u this)
sound_one this = record { by = this.by }

sound_or : {past : List Token} {u : Token} {this other : Rest} → Sound (past ++ u ∷ []) this → Sound past other → Sound past (Or u this other)
sound_or this other = record { by = (this.by, other.by) }

sound_name : {past : List Token} {next : Name → Rest} → ((name : Name) → Sound (past ++ spell_name name) (next name)) → Sound past (Take Names next)
sound_name each = record { by = λ name _. (each name).by }

sound_or_name : {past : List Token} {next : Name → Rest} {other : Rest} → ((name : Name) → Sound (past ++ spell_name name) (next name))
    → Sound past other → Sound past (OrTake Names next other)
sound_or_name each other = record { by = ((sound_name each).by, other.by) }

sound_source : {past : List Token} {next : Source → Rest} → ((s : Source) → Sound (past ++ spell_source s) (next s)) → Sound past (source next)
sound_source each = sound_or (each Null) (sound_name (λ name. each (Named name)))

sound_int : {past : List Token} {next : Int → Rest} → ((n : Int) → Sound (past ++ spell_int n) (next n)) → Sound past (int next)
sound_int {past} each = grind (arith, ints, sound_at, append_assoc)

sound_code : {past : List Token} {next : Code → Rest} → ((s : Token) × (past ++ token.Mark mark.Minus ∷ [] ≡ to_number s))
    → ((c : Code) → Sound (past ++ spell_int c.int) (next c)) → Sound past (character_code next)
sound_code {past} place each = grind (arith, ints, sound_at, append_assoc)

-- a pair after its `(`
sound_rest_of_pair : (past : List Token) {next : Pair → Rest} → ((p : Pair) → Sound (past ++ spell_pair p) (next p))
    → Sound (past ++ token.Mark mark.Open ∷ []) (rest_of_pair next)
sound_rest_of_pair past each = grind (arith, ints, sound_int, sound_one, sound_at, append_assoc)

sound_pair : {past : List Token} {next : Pair → Rest} → ((p : Pair) → Sound (past ++ spell_pair p) (next p)) → Sound past (pair next)
sound_pair {past} each = sound_one (sound_rest_of_pair past each)

-- a corner after its `(`
sound_corner : (past : List Token) (next : Pair → Rest) → ((p : Pair) → Sound (past ++ spell_corner p) (next p))
    → Sound (past ++ token.Mark mark.Open ∷ []) (rest_of_corner next)
sound_corner past next each = sound_rest_of_pair past (λ p. sound_one (sound_at (sym (append_assoc past (spell_pair p) _)) (each p)))

sound_path : {past : List Token} {next : Path → Rest} → ((p : Path) → Sound (past ++ spell_path p) (next p)) → Sound past (path next)
sound_path {past} {next} each = grind (arith, ints, sound_one, sound_corner, sound_at, append_assoc)

-- after some corners, one more
sound_next_corner : (past : List Token) (next : List Pair → Rest) → Spells past (Corners next)
    → Sound (past ++ token.Mark mark.Open ∷ []) (rest_of_corner (λ p. Corners (λ ps. next (p ∷ ps))))
sound_next_corner past next spells = grind (arith, ints, sound_corner, append_assoc)

-- ---- what is read is spelled

rest_step : (past : List Token) (r : Rest) (t : Token) → Spells past r → IfSome (step r t) (Spells (past ++ t ∷ []))
rest_step past (Ends l) t spells = tt
rest_step past (One u this) t spells = kind_step past (This u) (λ _. this) t None (λ _ _. spells) tt
rest_step past (Or u this other) t spells = kind_step past (This u) (λ _. this) t (step other t) (λ _ _. spells.0) (rest_step past other t spells.1)
rest_step past (Take k next) t spells = kind_step past k next t None spells tt
rest_step past (OrTake k next other) t spells = kind_step past k next t (step other t) spells.0 (rest_step past other t spells.1)
rest_step past (CodeNumber next) t spells = kind_step past (Codes true) next t None spells.1 tt
rest_step past (Corners next) t spells =
    kind_step past (This (token.Mark mark.Open)) _ t _ (λ _ _. (sound_next_corner past next spells).by)
    (kind_step past (This (token.Word word.Cycle)) _ t None (λ _ _. spells []) tt)

spell_line_at_end : (past : List Token) (r : Rest) (l : Line) → Spells past r → ends r ≡ Some l → spell_line l ≡ past
spell_line_at_end past (Ends m) l spells is = ap spell_line (sym (same_Some m l is)) ∙ spells
spell_line_at_end past (Or u this other) l spells is = spell_line_at_end past other l spells.1 is
spell_line_at_end past (OrTake k next other) l spells is = spell_line_at_end past other l spells.1 is
spell_line_at_end past r l spells is = absurd (none-some l is)

-- after a token, with each rest to which it leads
module _ (past ts : List Token) (t : Token) (l : Line) where
  spell_line_later : (q : Option Rest) → IfSome q (Spells (past ++ t ∷ [])) → reads q ts ≡ Some l
      → ((r : Rest) → Spells (past ++ t ∷ []) r → reads (Some r) ts ≡ Some l → spell_line l ≡ (past ++ t ∷ []) ++ ts)
      → spell_line l ≡ past ++ t ∷ ts
  unfolding reads
  spell_line_later None spells is later = absurd (none-some l is)
  spell_line_later (Some r) spells is later = later r spells is ∙ append_assoc past (t ∷ []) ts

pub spell_line_is : (ts past : List Token) (r : Rest) (l : Line) → Spells past r → reads (Some r) ts ≡ Some l → spell_line l ≡ past ++ ts
unfolding reads
spell_line_is [] past r l spells is = spell_line_at_end past r l spells is ∙ sym (append-nil past)
spell_line_is (t ∷ ts) past r l spells is = spell_line_later past ts t l (step r t) (rest_step past r t spells) is (λ q. spell_line_is ts (past ++ t ∷ []) q l)

-- token k of these, after `past`, is the number after `shipout`, a source, `code` and `-`
abbrev IsCoded : List Token → List Token → ℕ → Type 0
IsCoded past ts k = (is_negative_code (past ++ ts) ≡ true) × (length past + k ≡ 4)

is_coded_first : (past ts : List Token) (r : Rest) (t : Token) → Spells past r → is_code_number r t ≡ true → IsCoded past (t ∷ ts) 0
is_coded_first past ts (CodeNumber next) (token.Number k) spells is = subst (λ us. IsCoded us (token.Number k ∷ ts) 0) (sym spells.0.1) (refl, refl)
is_coded_first past ts (Or u this other) t spells is = is_coded_first past ts other t spells.1 is
is_coded_first past ts (OrTake k next other) t spells is = is_coded_first past ts other t spells.1 is
is_coded_first past ts r t spells is = absurd (false≢true is)

is_coded_later : (past ts : List Token) (t : Token) (k : ℕ) (q : Option Rest) → IfSome q (Spells (past ++ t ∷ [])) → is_code_number_at q ts k ≡ true
    → ((r : Rest) → Spells (past ++ t ∷ []) r → is_code_number_at (Some r) ts k ≡ true → IsCoded (past ++ t ∷ []) ts k)
    → IsCoded past (t ∷ ts) (suc k)
unfolding is_code_number_at
is_coded_later past ts t k None spells is later = absurd (false≢true is)
is_coded_later past ts t k (Some r) spells is later = grind (arith, ints, append_assoc, length-append)

pub is_coded : (ts past : List Token) (r : Rest) (k : ℕ) → Spells past r → is_code_number_at (Some r) ts k ≡ true → IsCoded past ts k
unfolding is_code_number_at
is_coded [] past r k spells is = absurd (false≢true is)
is_coded (t ∷ ts) past r zero spells is = is_coded_first past ts r t spells is
is_coded (t ∷ ts) past r (suc k) spells is = is_coded_later past ts t k (step r t) (rest_step past r t spells) is (λ q. is_coded ts (past ++ t ∷ []) q k)

-- ---- lines

sound_end : {past : List Token} (form : Form) → spell_form form ≡ past → Sound past (line_end form)
sound_end form spelled = record { by = (ap (λ ts. ts ++ token.Mark mark.Semicolon ∷ []) spelled, append-nil (spell_form form) ∙ spelled) }

-- a weight that may be left out
sound_weight : {past : List Token} (form : Option Int → Form) → ((w : Option Int) → spell_form (form w) ≡ past ++ spell_weight w)
    → Sound past (weight_then_end form)
sound_weight {past} form spelled = grind (arith, ints, sound_or, sound_int, sound_end, spelled, append_assoc, append-nil)

sound_transform : (name : Name) → Sound ((spell_name name ++ token.Mark mark.Becomes ∷ []) ++ spell_name name) (transform name)
sound_transform name = grind (arith, ints, sound_or, sound_pair, sound_end, append_assoc, sound_int, sound_one)

sound_assignment : (name : Name) → Sound (spell_name name) (assignment name)
sound_assignment name = sound_one (sound_or (sound_end (Clear name) refl) (sound_one (sound_transform name)))

sound_line : Sound [] line
sound_line =
    sound_or (sound_name (λ name. sound_or (sound_path (λ p. sound_weight (AddContour name p) (λ w. refl)))
    (sound_one (sound_or (sound_source (λ s. sound_end (AddPicture name Minus s) (simp append_assoc)))
    (sound_source (λ s. sound_end (AddPicture name Plus s) refl))))))
    (sound_or (sound_name (λ name. sound_or (sound_pair (λ range. sound_weight (CullKeeping name range) (λ w. refl)))
    (sound_one (sound_pair (λ range. sound_weight (CullDropping name range) (λ w. refl))))))
    (sound_or (sound_or (sound_source (λ s. sound_end (ShowTotal s) refl)) (sound_source (λ s. sound_end (ShowPicture s) refl)))
    (sound_or (sound_source (λ s. sound_end (ShowProof s) refl))
    (sound_or (sound_source (λ s. sound_one (sound_code (source_token s, refl) (λ code. sound_one (sound_int (λ dx. sound_one
    (sound_int (λ width. sound_end (ShipOut s code dx width) refl))))))))
    (sound_or (sound_one (sound_int (λ n. sound_end (SetCheck n) refl)))
    (sound_or (sound_end PublishAll refl) (sound_or_name sound_assignment (sound_end Nothing refl))))))))

pub spells_line : Spells [] line
spells_line = sound_line.by
