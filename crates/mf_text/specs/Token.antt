-- What a token of a line is, and what is ahead of the reader of a line.
use Rattle.std.specs.Prelude.{ℕ, zero, suc, ◌==◌, Bool, true, false, List, [], ◌∷◌, Option, None, Some, if◌then◌else◌}
use Rattle.mf_text.specs.declared.command.Name.{Name}
use Rattle.mf_text.specs.declared.command.Name.TheVariants.{Current, Register}
use Rattle.mf_text.specs.declared.token.Mark.{Mark as Marks}
use Rattle.mf_text.specs.declared.token.Word.{Word as Words}
use Rattle.mf_text.specs.declared.token.Word.TheVariants.{CurrentPicture}
use Rattle.mf_text.specs.contracts.token.MarkPartialEq.TheImpl as marks
use Rattle.mf_text.specs.contracts.token.WordPartialEq.TheImpl as words

-- a token: a word; one letter `a`..`z`, by its number from 0; a number of at most nine digits, by its value; a mark; or what no
-- command has
pub data Token : Type 0 where
  Word : Words → Token
  Letter : ℕ → Token
  Number : ℕ → Token
  Mark : Marks → Token
  Unknown : Token

-- the two tokens are the same
abbrev pub is_token : Token → Token → Bool
is_token (Word v) (Word w) = words.ghosts.eq v w
is_token (Letter m) (Letter n) = m == n
is_token (Number m) (Number n) = m == n
is_token (Mark m) (Mark n) = marks.ghosts.eq m n
is_token Unknown Unknown = true
is_token t u = false

-- a token with its columns in the line, counted in bytes from 1: that of its first byte, and that of the byte after its last
pub record PlacedToken : Type 0 where
  pub token : Token
  pub column : ℕ
  pub after : ℕ

-- that a token is this one: a value that says no more than that, or none where the token is another
abbrev pub this_in : Token → Token → Option (Unit {0})
this_in u t = if is_token t u then Some tt else None

-- the number of the letter that a token is, if it is one
abbrev pub letter_in : Token → Option ℕ
letter_in (Letter n) = Some n
letter_in t = None

-- the value of the number that a token is, if it is one
abbrev pub value_in : Token → Option ℕ
value_in (Number n) = Some n
value_in t = None

-- the name that a token is, if it is one
abbrev pub name_in : Token → Option Name
name_in (Word CurrentPicture) = Some Current
name_in (Letter n) = Some (Register n)
name_in t = None

-- the tokens still to come, and the column one past the token before them
pub record Ahead : Type 0 where
  pub tokens : List PlacedToken
  pub past : ℕ

-- the column of the first of these tokens, or `past` where there are none
abbrev pub column_of : List PlacedToken → ℕ → ℕ
column_of [] past = past
column_of (p ∷ ps) past = p.column

-- what is ahead after k of these tokens, or after all of them where they are fewer
abbrev pub ahead_after : ℕ → List PlacedToken → ℕ → Ahead
ahead_after zero ps past = record { tokens = ps; past = past }
ahead_after (suc k) [] past = record { tokens = []; past = past }
ahead_after (suc k) (p ∷ ps) past = ahead_after k ps p.after

-- the column of token k, counted from 0, or one past the last token
abbrev pub token_column : Ahead → ℕ → ℕ
token_column ahead k = column_of (ahead_after k ahead.tokens ahead.past).tokens (ahead_after k ahead.tokens ahead.past).past
