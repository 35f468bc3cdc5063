-- How a line is cut into tokens, said without a scanner: each is as long as possible, and only blanks come between them.
use Rattle.std.specs.Prelude.{◌≡◌, ◌≢◌, ◌<◌, ◌+◌, ℕ, Bool, true, false, List, [], ◌∷◌, ◌++◌, length, nat_eq}
use Rattle.std.specs.Char.{is_ascii_alphabetic, is_ascii_digit}
use Rattle.std.specs.List.{All, starts_with}
use Rattle.mf_text.specs.Limits.{percent_sign}
use Rattle.mf_text.specs.Token as token
use Rattle.mf_text.specs.Tokens.{first_is, is_longer, mark_text, number_token, word_token, Mark, is_blank, PlacedToken, Token}

-- the text is a longest sequence of bytes of one kind: it has at least one, and what comes further on does not begin with another
pub record IsLongestSequence (p : ℕ → Bool) (text further : List ℕ) : Type 0 where
  pub some : 0 < length text
  pub all : All (λ b. p b ≡ true) text
  pub longest : first_is p further ≡ false

-- the text is one byte that is neither a letter, a digit nor a blank and begins no comment, and no mark is there
pub record IsOtherByte (text further : List ℕ) : Type 0 where
  pub byte : ℕ
  pub one : text ≡ byte ∷ []
  pub no_letter : is_ascii_alphabetic byte ≡ false
  pub no_digit : is_ascii_digit byte ≡ false
  pub no_blank : is_blank byte ≡ false
  pub no_comment : byte ≢ percent_sign
  pub no_mark : (m : Mark) → starts_with nat_eq (byte ∷ further) (mark_text m) ≡ false

-- the token has this text, and these bytes come further on
pub data IsTokenText (t : Token) (text further : List ℕ) : Type 0 where
  Letters : IsLongestSequence is_ascii_alphabetic text further → t ≡ word_token text → IsTokenText t text further
  Digits : IsLongestSequence is_ascii_digit text further → t ≡ number_token text → IsTokenText t text further
  -- a mark, where no longer one is there: `-` only where `--` is not
  AMark : (m : Mark) → text ≡ mark_text m → is_longer m (text ++ further) ≡ false → t ≡ token.Mark m → IsTokenText t text further
  OtherByte : IsOtherByte text further → t ≡ token.Unknown → IsTokenText t text further

-- the bytes from a column on are blanks, the text of a token with these columns, and what comes further on
pub record HasFirstToken (column : ℕ) (bytes : List ℕ) (p : PlacedToken) : Type 0 where
  pub blanks : List ℕ
  pub text : List ℕ
  pub further : List ℕ
  pub parts : bytes ≡ blanks ++ (text ++ further)
  pub blank : All (λ b. is_blank b ≡ true) blanks
  pub column_is : p.column ≡ column + length blanks
  pub after_is : p.after ≡ p.column + length text
  pub token : IsTokenText p.token text further

-- nothing is left, or a comment begins here
abbrev pub IsEnd : List ℕ → Type 0
IsEnd [] = Unit {0}
IsEnd (b ∷ bs) = b ≡ percent_sign

-- the bytes after the last token are blanks, and perhaps a comment
pub record EndsLine (bytes : List ℕ) : Type 0 where
  pub blanks : List ℕ
  pub further : List ℕ
  pub parts : bytes ≡ blanks ++ further
  pub blank : All (λ b. is_blank b ≡ true) blanks
  pub end : IsEnd further

-- the bytes from a column on are cut into these tokens
abbrev pub AreTokens : ℕ → List ℕ → List PlacedToken → Type 0
AreTokens column bytes [] = EndsLine bytes
AreTokens column bytes (p ∷ ps) = (cut : HasFirstToken column bytes p) × AreTokens p.after cut.further ps
