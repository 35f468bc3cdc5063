-- Which lists of tokens are lines, and where others go wrong.
use Rattle.std.specs.Prelude.{◌≡◌, ◌<◌, ◌≤◌, ◌&&◌, ℕ, suc, Bool, true, false, eqb, List, ◌∷◌, ◌++◌, length, take, if◌then◌else◌}
use Rattle.mf_text.specs.declared.token.Mark.TheVariants as mark
use Rattle.mf_text.specs.Token as token
use Rattle.mf_text.specs.declared.token.Word.TheVariants as word
use Rattle.mf_text.specs.Token.{Ahead, Token, token_column}
use Rattle.mf_text.specs.Grammar.{Line, spell_line}
use Rattle.mf_text.specs.Tokens.{without_columns}

-- the tokens are a line of the grammar
pub record IsLine (ts : List Token) : Type 0 where
  pub tree : Line
  pub spelled : ts ≡ spell_line tree

-- the tokens are a prefix of some line of the grammar
pub record IsLinePrefix (ts : List Token) : Type 0 where
  pub further : List Token
  pub line : IsLine (ts ++ further)

-- the tokens go wrong at place k, counted from 0: those before it are a prefix of some line, and those up to and including it of none;
-- or at their end, where they are a prefix of some line but no line themselves
pub record IsWrongAt (ts : List Token) (k : ℕ) : Type 0 where
  pub within : k ≤ length ts
  pub before : IsLinePrefix (take k ts)
  pub wrong : k < length ts → IsLinePrefix (take (suc k) ts) → ⊥
  pub unended : k ≡ length ts → IsLine ts → ⊥

-- the tokens begin with `shipout`, any token, which in a line is a source, `code`, `-` and a number
abbrev pub is_negative_code : List Token → Bool
is_negative_code (token.Word word.Shipout ∷ source ∷ token.Word word.Code ∷ token.Mark mark.Minus ∷ token.Number n ∷ ts) = true
is_negative_code ts = false

-- the token at which a line that goes wrong at token k is reported: that one, but for a number after `code -` the `-`
abbrev pub report_place : List Token → ℕ → ℕ
report_place ts k = if is_negative_code ts && eqb k 4 then 3 else k

-- the tokens ahead are not a line, which is reported at this column
pub record IsSyntaxFault (ahead : Ahead) (column : ℕ) : Type 0 where
  pub place : ℕ
  pub at : IsWrongAt (without_columns ahead.tokens) place
  pub column_is : column ≡ token_column ahead (report_place (without_columns ahead.tokens) place)
