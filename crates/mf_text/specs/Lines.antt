-- What a line of bytes gives: a command, or the first refusal.
use Rattle.std.specs.Prelude.{◌≡◌, ◌==◌, ◌||◌, ◌&&◌, ◌<◌, ◌≤◌, ℕ, nat_le, Bool, true, false, List, length}
use Rattle.std.specs.List.{list_all}
use Rattle.mf_text.specs.declared.fault.TextFault.TheVariants.{LineTooLong, NotAscii, Syntax, OutOfMemory}
use Rattle.mf_text.specs.Grammar.{Form, Line, spell_line}
pub use Rattle.mf_text.specs.Limits.{longest_line}
use Rattle.mf_text.specs.Limits.{last_printed, space, tab}
use Rattle.mf_text.specs.Meaning.{Means, Refuses, TakesMemory, meaning, Command, TextFault}
use Rattle.mf_text.specs.Syntax.{IsSyntaxFault}
use Rattle.mf_text.specs.Token.{Ahead}
use Rattle.mf_text.specs.Tokens.{tokens, without_columns}

-- the byte is text: a tab or printable ASCII
abbrev pub is_text_byte : ℕ → Bool
is_text_byte b = b == tab || (nat_le space b && nat_le b last_printed)

-- the line is not too long, and each of its bytes is text
pub record IsText (line : List ℕ) : Type 0 where
  pub short : length line ≤ longest_line
  pub text : list_all is_text_byte line ≡ true

-- what is ahead at the start of a line: all of its tokens
abbrev pub line_ahead : List ℕ → Ahead
line_ahead line = record { tokens = tokens line; past = 1 }

-- the bytes are this line of the grammar
pub record IsLineOf (bytes : List ℕ) (line : Line) : Type 0 where
  pub text : IsText bytes
  pub spelled : without_columns (tokens bytes) ≡ spell_line line

-- the bytes are a line of the grammar, and this is so of its form
pub record IsLineWith (bytes : List ℕ) (IsSo : Form → Type 0) : Type 0 where
  pub line : Line
  pub line_is : IsLineOf bytes line
  pub so : IsSo line.form

-- the bytes are a line of the grammar that gives this command
abbrev pub Gives : List ℕ → Command → Type 0
Gives bytes given = IsLineWith bytes (λ form. Means (meaning form) given)

-- why a line is refused: it is too long, or else a byte is not text, or else it is not in the grammar, or else its values are
-- refused; or an allocation failed, which is answered only for a contour of no more points than a cycle may have
abbrev pub IsRefused : List ℕ → TextFault → Type 0
IsRefused bytes LineTooLong = longest_line < length bytes
IsRefused bytes NotAscii = (length bytes ≤ longest_line) × (list_all is_text_byte bytes ≡ false)
IsRefused bytes (Syntax column) = IsText bytes × IsSyntaxFault (line_ahead bytes) column
IsRefused bytes OutOfMemory = IsLineWith bytes TakesMemory
IsRefused bytes refused = IsLineWith bytes (λ form. Refuses (meaning form) refused)
