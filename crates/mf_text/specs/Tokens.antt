-- The tokens of a line of a script: words, letters, numbers, marks, and tokens that no command has. Blanks may come between tokens, and `%` begins a comment,
-- which goes to the end of the line.
use Rattle.std.specs.Prelude.{◌≡◌, ◌≤◌, false, ℕ, zero, suc, ◌+◌, ◌-◌, ◌==◌, ◌||◌, ◌&&◌, Bool, List, [], ◌∷◌, Option, codes}
use Rattle.std.specs.Prelude.{None, Some, length, drop, get_or, take_while, map, nat_eq, nat_le, nat_lt, if◌then◌else◌}
use Rattle.std.specs.Char.{is_ascii_alphabetic, is_ascii_digit}
use Rattle.std.specs.List.{starts_with}
use Rattle.std.specs.Option.{option_map, option_map_or}
use Rattle.std.specs.Str.{bytes_eq}
use Rattle.std.specs.Str.Parse.{digits_value}
pub use Rattle.mf_text.specs.declared.token.Mark.{Mark}
use Rattle.mf_text.specs.declared.token.Mark.TheVariants as mark
pub use Rattle.mf_text.specs.declared.token.Word.{Word}
use Rattle.mf_text.specs.declared.token.Word.TheVariants as word
use Rattle.mf_text.specs.contracts.token.MarkPartialEq.TheImpl as same_mark
use Rattle.mf_text.specs.contracts.token.WordPartialEq.TheImpl as same_word
use Rattle.mf_text.specs.Limits.{letter_a, letter_z, most_digits, percent_sign, space, tab}
pub use Rattle.mf_text.specs.Token.{Token, PlacedToken, is_token, this_in}
use Rattle.mf_text.specs.Token as token

-- the byte is a blank: a space or a tab
abbrev pub is_blank : ℕ → Bool
is_blank b = b == space || b == tab

-- no blank is at the front
abbrev pub IsClear : List ℕ → Type 0
IsClear [] = Unit {0}
IsClear (b ∷ bs) = is_blank b ≡ false

-- the words, each after the bytes that it is written with
abbrev pub words : List (List ℕ × Word)
words =
    (codes "addto", word.Addto) ∷
    (codes "also", word.Also) ∷
    (codes "code", word.Code) ∷
    (codes "contour", word.Contour) ∷
    (codes "cull", word.Cull) ∷
    (codes "currentpicture", word.CurrentPicture) ∷
    (codes "cycle", word.Cycle) ∷
    (codes "dropping", word.Dropping) ∷
    (codes "dx", word.Dx) ∷
    (codes "keeping", word.Keeping) ∷
    (codes "nullpicture", word.NullPicture) ∷
    (codes "proof", word.Proof) ∷
    (codes "publish", word.Publish) ∷
    (codes "rotated", word.Rotated) ∷
    (codes "scaled", word.Scaled) ∷
    (codes "shifted", word.Shifted) ∷
    (codes "shipout", word.Shipout) ∷
    (codes "show", word.Show) ∷
    (codes "totalweight", word.TotalWeight) ∷
    (codes "turningcheck", word.TurningCheck) ∷
    (codes "width", word.Width) ∷
    (codes "withweight", word.WithWeight) ∷
    (codes "xscaled", word.XScaled) ∷
    (codes "yscaled", word.YScaled) ∷
    []

-- the marks, each after the bytes that it is written with; of two at one place the first counts, and `--` comes before `-`
abbrev pub marks : List (List ℕ × Mark)
marks =
    (codes ":=", mark.Becomes) ∷
    (codes ")", mark.Close) ∷
    (codes ",", mark.Comma) ∷
    (codes "--", mark.Join) ∷
    (codes "-", mark.Minus) ∷
    (codes "(", mark.Open) ∷
    (codes ";", mark.Semicolon) ∷
    []

-- how a table writes a word or a mark: with no byte, where it has no entry for it
abbrev pub text_in : {A : Type 0} → (A → A → Bool) → List (List ℕ × A) → A → List ℕ
text_in same [] a = []
text_in same (entry ∷ entries) a = if same entry.1 a then entry.0 else text_in same entries a

-- how a word is written
abbrev pub word_text : Word → List ℕ
word_text w = text_in same_word.ghosts.eq words w

-- how a mark is written
abbrev pub mark_text : Mark → List ℕ
mark_text m = text_in same_mark.ghosts.eq marks m

-- the first word of the table that is written with these letters, if there is one
unfoldable pub word_among : List (List ℕ × Word) → List ℕ → Option Word
word_among [] letters = None
word_among (entry ∷ entries) letters = if bytes_eq letters entry.0 then Some entry.1 else word_among entries letters

-- a token, and how many bytes it takes
pub record SizedToken : Type 0 where
  pub token : Token
  pub bytes : ℕ

-- the letters are a single one, `a`..`z`
abbrev pub is_letter : List ℕ → Bool
is_letter (b ∷ []) = nat_le letter_a b && nat_le b letter_z
is_letter bs = false

-- the token whose text is this longest sequence of letters: a letter by its number, 0 for `a`, a word, or else a token that no command has
unfoldable pub word_token : List ℕ → Token
word_token letters =
    if is_letter letters then token.Letter (get_or letters 0 0 - letter_a) else option_map_or token.Word (word_among words letters) token.Unknown

-- the token whose text is this longest sequence of digits: a number, which has at most nine of them, or else a token that no command has
unfoldable pub number_token : List ℕ → Token
number_token digits = if nat_le (length digits) most_digits then token.Number (digits_value 10 digits) else token.Unknown

-- the first of these marks that the bytes begin with; where there is none, the first byte is a token of its own
unfoldable pub mark_among : List (List ℕ × Mark) → List ℕ → SizedToken
mark_among [] bs = record { token = token.Unknown; bytes = 1 }
mark_among (entry ∷ entries) bs =
    if starts_with nat_eq bs entry.0 then record { token = token.Mark entry.1; bytes = length entry.0 } else mark_among entries bs

-- the token that the bytes begin with
unfoldable pub first_token : List ℕ → SizedToken
first_token bs =
    if nat_lt 0 (length (take_while is_ascii_alphabetic bs))
    then record { token = word_token (take_while is_ascii_alphabetic bs); bytes = length (take_while is_ascii_alphabetic bs) }
    else (if nat_lt 0 (length (take_while is_ascii_digit bs))
    then record { token = number_token (take_while is_ascii_digit bs); bytes = length (take_while is_ascii_digit bs) }
    else mark_among marks bs)

-- a byte of this kind is at the front
abbrev pub first_is : (ℕ → Bool) → List ℕ → Bool
first_is p [] = false
first_is p (b ∷ bs) = p b

-- a longer mark that begins with this one is at the front
abbrev pub is_longer : Mark → List ℕ → Bool
is_longer mark.Minus bs = starts_with nat_eq bs (mark_text mark.Join)
is_longer m bs = false

-- what is found at the front: the value of the token there and how many bytes it takes, or that the token has no such value
abbrev pub Finds : {A : Type 0} → (Token → Option A) → List ℕ → Option (A × ℕ) → Type 0
Finds f bs None = f (first_token bs).token ≡ None
Finds f bs (Some found) = (f (first_token bs).token ≡ Some found.0) × (found.1 ≡ (first_token bs).bytes) × (found.1 ≤ length bs)

-- whether this token is found at the front: how many bytes it takes, or that another token is there
abbrev pub FindsToken : Token → List ℕ → Option ℕ → Type 0
FindsToken t bs found = Finds (this_in t) bs (option_map {U = Unit {0} × ℕ} (λ bytes. (tt, bytes)) found)

-- a token with its columns, the first of which is this one
abbrev pub token_at : ℕ → SizedToken → PlacedToken
token_at column found = record { token = found.token; column = column; after = column + found.bytes }

-- the tokens found in at most n steps, each past a token or a blank, where the first byte has this column
unfoldable pub tokens_within : ℕ → ℕ → List ℕ → List PlacedToken
tokens_within zero column bs = []
tokens_within (suc n) column [] = []
tokens_within (suc n) column (b ∷ bs) =
    if is_blank b then tokens_within n (column + 1) bs
    else (if b == percent_sign then []
    else (token_at column (first_token (b ∷ bs)) ∷ tokens_within n (column + (first_token (b ∷ bs)).bytes) (drop (first_token (b ∷ bs)).bytes (b ∷ bs))))

-- the tokens of bytes, the first of which has this column
unfoldable pub tokens_from : ℕ → List ℕ → List PlacedToken
tokens_from column bs = tokens_within (length bs) column bs

-- the tokens of a line
abbrev pub tokens : List ℕ → List PlacedToken
tokens line = tokens_from 1 line

-- the tokens without their columns
abbrev pub without_columns : List PlacedToken → List Token
without_columns ps = map (λ p. p.token) ps
