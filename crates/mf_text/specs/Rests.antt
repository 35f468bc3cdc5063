-- The rests of lines: what may follow in a line, token by token, and the line that it ends as. The grammar is one of them.
use Rattle.std.specs.Prelude.{ℕ, ◌-◌, List, [], ◌∷◌, Bool, true, false, Option, None, Some, Result, Ok, Err, ok_or, if◌then◌else◌}
use Rattle.std.specs.Option.{option_map, option_and_then, option_or}
use Rattle.mf_rows.specs.declared.sign.Sign.TheVariants.{Plus, Minus}
use Rattle.mf_text.specs.declared.token.Mark.TheVariants as mark
use Rattle.mf_text.specs.declared.token.Word.TheVariants as word
use Rattle.mf_text.specs.declared.code.Code.{Code}
use Rattle.mf_text.specs.Grammar.{Form, Nothing, AddContour, AddPicture, CullKeeping, CullDropping, Clear, Move, ShowTotal}
use Rattle.mf_text.specs.Grammar.{ShowPicture, ShowProof, ShipOut, SetCheck, PublishAll, Shifted, Scaled, XScaled, YScaled}
use Rattle.mf_text.specs.Grammar.{Rotated, Path, Line, Name, Source, Null, Named, Int, Pair, name_token}
unfoldable pub use Rattle.mf_text.specs.Ints.{int_of, is_code, where_true}
pub use Rattle.mf_text.specs.Token.{Ahead, Token, PlacedToken, name_in, this_in, value_in}
use Rattle.mf_text.specs.Token as token

-- a kind of tokens: this token; names; numbers of at most nine digits; or those numbers of which the int is a code. Where the flag of a
-- kind of numbers is true, `-` came before the number, and so belongs to its int
pub data Kind : Type 0 where
  This : Token → Kind
  Names : Kind
  Numbers : Bool → Kind
  Codes : Bool → Kind

-- what a token of a kind says; of a given token there is nothing to say
abbrev pub Of : Kind → Type 0
Of (This u) = Unit {0}
Of Names = Name
Of (Numbers negative) = Int
Of (Codes negative) = Code

-- the code that an int is, if it is in 0..255
unfoldable pub code_of : Int → Option Code
code_of n = where_true (is_code n) (λ is. record { int = n; is_code = is })

-- what a token says, if it is of this kind
abbrev pub value : (k : Kind) → Token → Option (Of k)
value (This u) t = this_in u t
value Names t = name_in t
value (Numbers negative) t = option_and_then (int_of negative) (value_in t)
value (Codes negative) t = option_and_then code_of (option_and_then (int_of negative) (value_in t))

-- what may follow in a line
pub data Rest : Type 0 where
  -- nothing, since the line is read
  Ends : Line → Rest
  -- this token; this token, or else what may come instead
  One : Token → Rest → Rest
  Or : Token → Rest → Rest → Rest
  -- a token of this kind; one of this kind, or else what may come instead
  Take : (k : Kind) → (Of k → Rest) → Rest
  OrTake : (k : Kind) → (Of k → Rest) → Rest → Rest
  -- the number of a code, after its `-`
  CodeNumber : (Code → Rest) → Rest
  -- any number of corners, and `cycle`
  Corners : (List Pair → Rest) → Rest

-- ---- phrases

-- an int that is a code
abbrev pub character_code : (Code → Rest) → Rest
character_code next = Or (token.Mark mark.Minus) (CodeNumber next) (Take (Codes false) next)

-- a source
abbrev pub source : (Source → Rest) → Rest
source next = Or (token.Word word.NullPicture) (next Null) (Take Names (λ name. next (Named name)))

-- an int
abbrev pub int : (Int → Rest) → Rest
int next = Or (token.Mark mark.Minus) (Take (Numbers true) next) (Take (Numbers false) next)

-- the rest of a pair after its `(`
abbrev pub rest_of_pair : (Pair → Rest) → Rest
rest_of_pair next = int (λ across. One (token.Mark mark.Comma) (int (λ up. One (token.Mark mark.Close) (next (record { across = across; up = up })))))

-- a pair
abbrev pub pair : (Pair → Rest) → Rest
pair next = One (token.Mark mark.Open) (rest_of_pair next)

-- the rest of a corner after its `(`
abbrev pub rest_of_corner : (Pair → Rest) → Rest
rest_of_corner next = rest_of_pair (λ p. One (token.Mark mark.Join) (next p))

-- a path
abbrev pub path : (Path → Rest) → Rest
path next = One (token.Mark mark.Open) (rest_of_corner (λ first. Corners (λ others. next (record { first = first; others = others }))))

-- ---- lines

-- after a complete command: `;`, or nothing
abbrev pub line_end : Form → Rest
line_end form = Or (token.Mark mark.Semicolon) (Ends (record { form = form; ended = true })) (Ends (record { form = form; ended = false }))

-- a weight, or none
abbrev pub weight : (Option Int → Rest) → Rest
weight next = Or (token.Word word.WithWeight) (int (λ n. next (Some n))) (next None)

-- after a command that may have a weight: the weight, if there is one, and the end of the line
abbrev pub weight_then_end : (Option Int → Form) → Rest
weight_then_end form = weight (λ n. line_end (form n))

-- a source, and the end of the line
abbrev pub source_then_end : (Source → Form) → Rest
source_then_end form = source (λ picture. line_end (form picture))

-- an int, and the end of the line
abbrev pub int_then_end : (Int → Form) → Rest
int_then_end form = int (λ n. line_end (form n))

-- a range, and a weight and the end of the line
abbrev pub range_then_end : (Pair → Option Int → Form) → Rest
range_then_end form = pair (λ range. weight_then_end (form range))

-- after `addto`
abbrev pub addto : Rest
addto =
    Take Names (λ name. Or (token.Word word.Contour) (path (λ p. weight_then_end (AddContour name p)))
    (One (token.Word word.Also) (Or (token.Mark mark.Minus) (source_then_end (AddPicture name Minus)) (source_then_end (AddPicture name Plus)))))

-- after `cull`
abbrev pub cull : Rest
cull = Take Names (λ name.
    Or (token.Word word.Keeping) (range_then_end (CullKeeping name)) (One (token.Word word.Dropping) (range_then_end (CullDropping name))))

-- after `show`
abbrev pub show : Rest
show = Or (token.Word word.TotalWeight) (source_then_end ShowTotal) (source_then_end ShowPicture)

-- after `shipout`
abbrev pub shipout : Rest
shipout =
    source (λ picture. One (token.Word word.Code) (character_code (λ code. One (token.Word word.Dx) (int (λ dx. One (token.Word word.Width)
    (int_then_end (ShipOut picture code dx)))))))

-- after `turningcheck`
abbrev pub turning_check : Rest
turning_check = One (token.Mark mark.Becomes) (int_then_end SetCheck)

-- after name `:=` name, where `shifted` does not come: another transform
abbrev pub scale_or_turn : Name → Rest
scale_or_turn name =
    Or (token.Word word.Scaled) (int_then_end (λ n. Move name (Scaled n))) (Or (token.Word word.XScaled) (int_then_end (λ n. Move name (XScaled n)))
    (Or (token.Word word.YScaled) (int_then_end (λ n. Move name (YScaled n))) (One (token.Word word.Rotated) (int_then_end (λ n. Move name (Rotated n))))))

-- after name `:=` name: a transform
abbrev pub transform : Name → Rest
transform name = Or (token.Word word.Shifted) (pair (λ by. line_end (Move name (Shifted by)))) (scale_or_turn name)

-- after the name that a line begins with
abbrev pub assignment : Name → Rest
assignment name = One (token.Mark mark.Becomes) (Or (token.Word word.NullPicture) (line_end (Clear name)) (One (name_token name) (transform name)))

-- a complete line
abbrev pub line : Rest
line =
    Or (token.Word word.Addto) addto (Or (token.Word word.Cull) cull (Or (token.Word word.Show) show (Or (token.Word word.Proof) (source_then_end ShowProof)
    (Or (token.Word word.Shipout) shipout (Or (token.Word word.TurningCheck) turning_check (Or (token.Word word.Publish) (line_end PublishAll)
    (OrTake Names assignment (line_end Nothing))))))))

-- ---- a step

-- what may follow a token if it is of this kind, or else something other
abbrev pub if_kind : (k : Kind) → (Of k → Rest) → Token → Option Rest → Option Rest
if_kind k next t other = option_or (option_map next (value k t)) other

-- what may follow a token, if the rest allows the token
abbrev pub step : Rest → Token → Option Rest
step (Ends l) t = None
step (One u this) t = if_kind (This u) (λ _. this) t None
step (Or u this other) t = if_kind (This u) (λ _. this) t (step other t)
step (Take k next) t = if_kind k next t None
step (OrTake k next other) t = if_kind k next t (step other t)
step (CodeNumber next) t = if_kind (Codes true) next t None
step (Corners next) t =
    if_kind (This (token.Mark mark.Open)) (λ _. rest_of_corner (λ p. Corners (λ ps. next (p ∷ ps)))) t
    (if_kind (This (token.Word word.Cycle)) (λ _. next []) t None)

-- the line that can end here, if there is one
abbrev pub ends : Rest → Option Line
ends (Ends l) = Some l
ends (Or u this other) = ends other
ends (OrTake k next other) = ends other
ends r = None

-- ---- a line, or the column at which it goes wrong

-- the token is a number, be it a code or not, where the number of a code may come after its `-`
abbrev pub is_code_number : Rest → Token → Bool
is_code_number (CodeNumber next) (token.Number n) = true
is_code_number (Or u this other) t = is_code_number other t
is_code_number (OrTake k next other) t = is_code_number other t
is_code_number r t = false

-- what the tokens give where they must be this rest: a line, or the column at which they go wrong. The byte before column `past` is the
-- last one of the token before them. An end that comes too early is reported at `past`, and a token that may not come at its own column,
-- but a number after `code` and `-` at the `-`
unfoldable pub follow : Result Rest ℕ → ℕ → List PlacedToken → Result Line ℕ
follow (Err column) past ps = Err column
follow (Ok rest) past [] = ok_or (ends rest) past
follow (Ok rest) past (p ∷ ps) = follow (ok_or (step rest p.token) (if is_code_number rest p.token then past - 1 else p.column)) p.after ps

-- the same of the tokens ahead
abbrev pub from : Rest → Ahead → Result Line ℕ
from rest ahead = follow (Ok rest) ahead.past ahead.tokens
