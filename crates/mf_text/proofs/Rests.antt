-- The rests of lines: the tokens that they take, that each line can be read, and that each rest can be ended.
use Rattle.std.proofs.Common.{◌≡◌, inl, inr, ℕ, zero, suc, Bool, true, false, List, [], ◌∷◌, ◌++◌, Option, Some, None, refl, sym, ap, ◌∙◌, arith}
use Rattle.std.proofs.lemmas.Int.{ints}
use Rattle.std.specs.Option.{option_and_then, option_map, option_or}
use Rattle.std.proofs.lemmas.Bool.{cases_Bool, true_from_ne_false}
use Rattle.std.proofs.lemmas.Option.{none-some, same_Some}
use Rattle.mf_rows.specs.declared.sign.Sign.{Sign}
use Rattle.mf_rows.specs.declared.sign.Sign.TheVariants.{Plus, Minus}
use Rattle.mf_text.specs.declared.token.Mark.TheVariants as mark
use Rattle.mf_text.specs.Token as token
use Rattle.mf_text.specs.declared.token.Word.TheVariants as word
use Rattle.mf_text.specs.Grammar.{Line, Path, Code, Name, Current, Register, Source, Null, Named, Int, Pair, Form, Nothing, AddContour, name_token}
use Rattle.mf_text.specs.Grammar.{AddPicture, CullKeeping, CullDropping, Clear, Move, ShowTotal, ShowPicture, ShowProof, ShipOut}
use Rattle.mf_text.specs.Grammar.{SetCheck, PublishAll, Shifted, Scaled, XScaled, YScaled, Rotated, Transform}
use Rattle.mf_text.specs.Rests.{Kind, Of, This, Names, Numbers, Codes, Rest, Ends, Take, OrTake, Corners, One, Or, character_code, CodeNumber}
use Rattle.mf_text.specs.Rests.{rest_of_corner, ends, if_kind, rest_of_pair, int, is_code_number, path, source, step, value, Token, code_of, int_of}
use Rattle.mf_text.specs.Rests.{line, line_end, assignment, int_then_end, source_then_end, transform, weight_then_end, name_in, this_in}
use Rattle.mf_text.proofs.ReadInts.{some_code, code_of-is, int_of-is, short_int}
use Rattle.mf_text.proofs.TokenTexts.{same_token, token_is}

-- ---- tokens of a kind

-- the token of a kind that says this
abbrev pub token_of : (k : Kind) → Of k → Token
token_of (This u) a = u
token_of Names name = name_token name
token_of (Numbers negative) n = token.Number n.magnitude
token_of (Codes negative) c = token.Number c.int.magnitude

-- a number has the sign that its kind says
abbrev pub HasSign : (k : Kind) → Of k → Type 0
HasSign (This u) a = Unit {0}
HasSign Names name = Unit {0}
HasSign (Numbers negative) n = n.negative ≡ negative
HasSign (Codes negative) c = c.int.negative ≡ negative

this_same : (u : Token) → this_in u u ≡ Some tt
this_same u = rw (same_token u) refl

pub this_only : (u t : Token) → this_in u t ≡ Some tt → t ≡ u
this_only u t is = token_is t u (true_from_ne_false _ (λ other. let none : this_in u t ≡ None = rw other refl in none-some tt (sym none ∙ is)))

pub name_of : (name : Name) → name_in (name_token name) ≡ Some name
name_of Current = refl
name_of (Register n) = refl

name_is : (t : Token) (name : Name) → name_in t ≡ Some name → t ≡ name_token name
name_is (token.Word word.CurrentPicture) name is = ap name_token (same_Some Current name is)
name_is (token.Letter n) name is = ap name_token (same_Some (Register n) name is)
name_is t name is = absurd (none-some name is)

pub name_is_this : (t : Token) (name : Name) → name_in t ≡ Some name → this_in (name_token name) t ≡ Some tt
name_is_this t name is = ap (this_in (name_token name)) (name_is t name is) ∙ this_same (name_token name)

value_back : (k : Kind) (a : Of k) → HasSign k a → value k (token_of k a) ≡ Some a
value_back (This u) a sign = this_same u
value_back Names name sign = name_of name
value_back (Numbers negative) n sign = ap (λ b. int_of b n.magnitude) (sym sign) ∙ short_int n.negative n.magnitude n.short
value_back (Codes negative) c sign =
    ap (λ b. option_and_then code_of (int_of b c.int.magnitude)) (sym sign)
    ∙ ap (option_and_then code_of) (short_int c.int.negative c.int.magnitude c.int.short) ∙ some_code c.int c.is_code

-- a token says this
abbrev pub Says : (k : Kind) → Token → Of k → Type 0
Says k t a = HasSign k a × (t ≡ token_of k a)

code_says : (negative : Bool) (m : ℕ) (c : Code) (i : Option Int) → int_of negative m ≡ i → option_and_then code_of i ≡ Some c
    → Says (Codes negative) (token.Number m) c
code_says negative m c None of is = absurd (none-some c is)
code_says negative m c (Some n) of is = grind (arith, ints, int_of-is, code_of-is)

pub value_is : (k : Kind) (t : Token) (a : Of k) → value k t ≡ Some a → Says k t a
value_is (This u) t a is = (tt, this_only u t is)
value_is Names t name is = (tt, name_is t name is)
value_is (Numbers negative) (token.Number m) n is = let number = int_of-is negative m n is in (number.0, ap token.Number (sym number.1))
value_is (Numbers negative) t n is = absurd (none-some n is)
value_is (Codes negative) (token.Number m) c is = code_says negative m c (int_of negative m) refl is
value_is (Codes negative) t c is = absurd (none-some c is)

-- ---- each line can be read

-- the line that these tokens are read as, if they are this rest
unfoldable pub reads : Option Rest → List Token → Option Line
reads None ts = None
reads (Some r) [] = ends r
reads (Some r) (t ∷ ts) = reads (step r t) ts

-- some tokens are read as this line where they must be this rest
pub record To (r : Rest) (l : Line) : Type 0 where
  pub tokens : List Token
  pub read : reads (Some r) tokens ≡ Some l

on : {r q : Rest} {l : Line} (t : Token) → step r t ≡ Some q → To q l → To r l
unfolding reads
on t is after = record { tokens = t ∷ after.tokens; read = ap (λ s. reads s after.tokens) is ∙ after.read }

-- where a token of a kind may come
kind_to : {r : Rest} {l : Line} (k : Kind) (next : Of k → Rest) (other : Option Rest) (t : Token) (a : Of k)
    → step r t ≡ if_kind k next t other → value k t ≡ Some a → To (next a) l → To r l
kind_to k next other t a allowed is after = on t (allowed ∙ ap (λ v. option_or (option_map next v) other) is) after

one_to : {u : Token} {this : Rest} {l : Line} → To this l → To (One u this) l
one_to {u} {this} after = kind_to (This u) (λ _. this) None u tt refl (this_same u) after

or_to : {u : Token} {this other : Rest} {l : Line} → To this l → To (Or u this other) l
or_to {u} {this} {other} after = kind_to (This u) (λ _. this) (step other u) u tt refl (this_same u) after

take_to : {k : Kind} {next : Of k → Rest} {l : Line} (a : Of k) → HasSign k a → To (next a) l → To (Take k next) l
take_to {k} {next} a sign after = kind_to k next None (token_of k a) a refl (value_back k a sign) after

source_to : {next : Source → Rest} {l : Source → Line} → ((s : Source) → To (next s) (l s)) → (s : Source) → To (source next) (l s)
source_to each Null = or_to (each Null)
source_to each (Named Current) = on (token.Word word.CurrentPicture) refl (each (Named Current))
source_to each (Named (Register n)) = on (token.Letter n) refl (each (Named (Register n)))

int_to : {next : Int → Rest} {l : Line} (n : Int) → To (next n) l → To (int next) l
int_to {next} n after = elim (cases_Bool n.negative) [
  | inl is ↦ or_to (take_to n is after)
  | inr is ↦ kind_to (Numbers false) next None (token.Number n.magnitude) n refl (value_back (Numbers false) n is) after
]

code_to : {next : Code → Rest} {l : Line} (c : Code) → To (next c) l → To (character_code next) l
code_to {next} c after = elim (cases_Bool c.int.negative) [
  | inl is ↦ or_to (kind_to (Codes true) next None (token.Number c.int.magnitude) c refl (value_back (Codes true) c is) after)
  | inr is ↦ kind_to (Codes false) next None (token.Number c.int.magnitude) c refl (value_back (Codes false) c is) after
]

rest_of_pair_to : {next : Pair → Rest} {l : Pair → Line} → ((p : Pair) → To (next p) (l p)) → (p : Pair) → To (rest_of_pair next) (l p)
rest_of_pair_to each p = int_to p.across (one_to (int_to p.up (one_to (each p))))

rest_of_corner_to : {next : Pair → Rest} {l : Pair → Line} → ((p : Pair) → To (next p) (l p)) → (p : Pair) → To (rest_of_corner next) (l p)
rest_of_corner_to each p = rest_of_pair_to (λ q. one_to {u = token.Mark mark.Join} (each q)) p

corners_to : (next : List Pair → Rest) (l : List Pair → Line) → ((ps : List Pair) → To (next ps) (l ps)) → (ps : List Pair) → To (Corners next) (l ps)
corners_to next l each [] = on (token.Word word.Cycle) refl (each [])
corners_to next l each (p ∷ ps) =
    on (token.Mark mark.Open) refl (rest_of_corner_to (λ q. corners_to (λ qs. next (q ∷ qs)) (λ qs. l (q ∷ qs)) (λ qs. each (q ∷ qs)) ps) p)

path_to : {next : Path → Rest} {l : Path → Line} → ((p : Path) → To (next p) (l p)) → (p : Path) → To (path next) (l p)
path_to {next} {l} each p =
    let path_of : Pair → List Pair → Path = λ first others. record { first = first; others = others } in
    one_to (rest_of_corner_to (λ q. corners_to (λ qs. next (path_of q qs)) (λ qs. l (path_of q qs)) (λ qs. each (path_of q qs)) p.others) p.first)

end_to : (form : Form) (ended : Bool) → To (line_end form) (record { form = form; ended = ended })
unfolding reads
end_to form true = or_to (record { tokens = []; read = refl })
end_to form false = record { tokens = []; read = refl }

weight_to : (form : Option Int → Form) (w : Option Int) (ended : Bool) → To (weight_then_end form) (record { form = form w; ended = ended })
unfolding reads
weight_to form None true = on (token.Mark mark.Semicolon) refl (record { tokens = []; read = refl })
weight_to form None false = record { tokens = []; read = refl }
weight_to form (Some n) ended = or_to (int_to n (end_to (form (Some n)) ended))

-- after a name, `:=` and the same name
again_to : (name : Name) {l : Line} → To (transform name) l → To (assignment name) l
again_to Current after = one_to (on (token.Word word.CurrentPicture) refl after)
again_to (Register n) after =
    one_to (on (token.Letter n) (ap (λ v. option_or (option_map (λ _. transform (Register n)) v) None) (this_same (token.Letter n))) after)

assignment_to : (name : Name) {l : Line} → To (assignment name) l → To line l
assignment_to Current after = on (token.Word word.CurrentPicture) refl after
assignment_to (Register n) after = on (token.Letter n) refl after

motion_to : (name : Name) (motion : Transform) (ended : Bool) → To (transform name) (record { form = Move name motion; ended = ended })
motion_to name (Shifted by) ended = or_to (one_to (rest_of_pair_to (λ p. end_to (Move name (Shifted p)) ended) by))
motion_to name (Scaled n) ended = on (token.Word word.Scaled) refl (int_to n (end_to _ ended))
motion_to name (XScaled n) ended = on (token.Word word.XScaled) refl (int_to n (end_to _ ended))
motion_to name (YScaled n) ended = on (token.Word word.YScaled) refl (int_to n (end_to _ ended))
motion_to name (Rotated n) ended = on (token.Word word.Rotated) refl (int_to n (end_to _ ended))

form_to : (form : Form) (ended : Bool) → To line (record { form = form; ended = ended })
unfolding reads
form_to Nothing true = on (token.Mark mark.Semicolon) refl (record { tokens = []; read = refl })
form_to Nothing false = record { tokens = []; read = refl }
form_to (AddContour name p w) ended = or_to (take_to name tt (or_to (path_to (λ q. weight_to (AddContour name q) w ended) p)))
form_to (AddPicture name sign s) ended = or_to (take_to name tt (on (token.Word word.Also) refl (by_sign sign s))) where
  by_sign : (g : Sign) (s : Source) → To (Or (token.Mark mark.Minus) (source_then_end (AddPicture name Minus)) (source_then_end (AddPicture name Plus)))
      (record { form = AddPicture name g s; ended = ended })
  by_sign Minus s = or_to (source_to (λ t. end_to (AddPicture name Minus t) ended) s)
  by_sign Plus Null = on (token.Word word.NullPicture) refl (end_to _ ended)
  by_sign Plus (Named Current) = on (token.Word word.CurrentPicture) refl (end_to _ ended)
  by_sign Plus (Named (Register n)) = on (token.Letter n) refl (end_to _ ended)
form_to (CullKeeping name range w) ended =
    on (token.Word word.Cull) refl (take_to name tt (or_to (one_to (rest_of_pair_to (λ p. weight_to (CullKeeping name p) w ended) range))))
form_to (CullDropping name range w) ended =
    on (token.Word word.Cull) refl (take_to name tt (on (token.Word word.Dropping) refl (one_to
    (rest_of_pair_to (λ p. weight_to (CullDropping name p) w ended) range))))
form_to (Clear name) ended = assignment_to name (one_to (or_to (end_to _ ended)))
form_to (Move name motion) ended = assignment_to name (again_to name (motion_to name motion ended))
form_to (ShowTotal s) ended = on (token.Word word.Show) refl (or_to (source_to (λ t. end_to (ShowTotal t) ended) s))
form_to (ShowPicture Null) ended = on (token.Word word.Show) refl (on (token.Word word.NullPicture) refl (end_to _ ended))
form_to (ShowPicture (Named Current)) ended = on (token.Word word.Show) refl (on (token.Word word.CurrentPicture) refl (end_to _ ended))
form_to (ShowPicture (Named (Register n))) ended = on (token.Word word.Show) refl (on (token.Letter n) refl (end_to _ ended))
form_to (ShowProof s) ended = on (token.Word word.Proof) refl (source_to (λ t. end_to (ShowProof t) ended) s)
form_to (ShipOut s code dx width) ended =
    on (token.Word word.Shipout) refl (source_to after_source s) where
      after_source : (t : Source)
          → To (One (token.Word word.Code) (character_code (λ c. One (token.Word word.Dx) (int (λ x. One (token.Word word.Width)
          (int_then_end (ShipOut t c x))))))) (record { form = ShipOut t code dx width; ended = ended })
      after_source t = one_to (code_to code (one_to (int_to dx (one_to (int_to width (end_to _ ended))))))
form_to (SetCheck n) ended = on (token.Word word.TurningCheck) refl (one_to (int_to n (end_to _ ended)))
form_to PublishAll ended = on (token.Word word.Publish) refl (end_to _ ended)

pub line_to : (l : Line) → To line l
line_to l = form_to l.form l.ended

-- ---- each rest can be ended by some tokens

-- where they must be this rest, these tokens and some others are read as a line
abbrev pub CanGoOn : Option Rest → List Token → Type 0
CanGoOn r ts = (further : List Token) × ((tree : Line) × (reads r (ts ++ further) ≡ Some tree))

-- some token is of a kind
some_value : (k : Kind) → (t : Token) × ((a : Of k) × (value k t ≡ Some a))
unfolding int_of code_of
some_value (This u) = (u, (tt, this_same u))
some_value Names = (token.Letter 0, (Register 0, refl))
some_value (Numbers negative) = (token.Number 0, (_, refl))
some_value (Codes true) = (token.Number 0, (_, refl))
some_value (Codes false) = (token.Number 0, (_, refl))

some_line : (r : Rest) → (l : Line) × To r l
unfolding reads
some_line (Ends l) = (l, record { tokens = []; read = refl })
some_line (One u this) = let end = some_line this in (end.0, one_to end.1)
some_line (Or u this other) = let end = some_line this in (end.0, or_to end.1)
some_line (Take k next) = let some = some_value k in let end = some_line (next some.1.0) in (end.0, kind_to k next None some.0 some.1.0 refl some.1.1 end.1)
some_line (OrTake k next other) =
    let some = some_value k in
    let end = some_line (next some.1.0) in
    (end.0, kind_to k next (step other some.0) some.0 some.1.0 refl some.1.1 end.1)
some_line (CodeNumber next) =
    let some = some_value (Codes true) in
    let end = some_line (next some.1.0) in
    (end.0, kind_to (Codes true) next None some.0 some.1.0 refl some.1.1 end.1)
some_line (Corners next) = let end = some_line (next []) in (end.0, on (token.Word word.Cycle) refl end.1)

pub rest_ends : (r : Rest) → CanGoOn (Some r) []
rest_ends r = let end = some_line r in (end.1.tokens, (end.0, end.1.read))

-- ---- the number of a code after its `-`

-- token k of these is the number of a code after its `-`
unfoldable pub is_code_number_at : Option Rest → List Token → ℕ → Bool
is_code_number_at None ts k = false
is_code_number_at (Some r) [] k = false
is_code_number_at (Some r) (t ∷ ts) zero = is_code_number r t
is_code_number_at (Some r) (t ∷ ts) (suc k) = is_code_number_at (step r t) ts k
