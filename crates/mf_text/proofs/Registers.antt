-- The registers that a line names are letters.
use Rattle.std.proofs.Common.{ℕ, ◌<◌, List, [], ◌∷◌, ◌++◌, arith}
use Rattle.std.specs.List.{AllByRecursion}
use Rattle.mf_rows.specs.declared.sign.Sign.{Sign}
use Rattle.mf_rows.specs.declared.sign.Sign.TheVariants.{Plus, Minus}
use Rattle.mf_text.specs.Token as token
use Rattle.mf_text.specs.Grammar.{Form, AddContour, AddPicture, CullKeeping, CullDropping, Clear, Move, ShowTotal}
use Rattle.mf_text.specs.Grammar.{ShowPicture, ShowProof, ShipOut, Shifted, name_token, source_token, spell_signed}
use Rattle.mf_text.specs.Grammar.{spell_form, Name, Current, Register, Source, Null, Named}
use Rattle.mf_text.specs.Lines.{Gives}
use Rattle.mf_text.specs.Meaning.{Meaning, Is, If, Turns, Means, meaning, Command}
use Rattle.mf_text.specs.Registers.{IsName, IsSource, HasNames, register_count}
use Rattle.mf_text.specs.Tokens.{without_columns, tokens, PlacedToken, Token}
use Rattle.mf_text.specs.TokenTexts.{AreTokens}
use Rattle.mf_text.proofs.Cuts.{are_tokens}
use Rattle.mf_text.proofs.TokenTexts.{HasTextOf, has_text_of}
use Rattle.std.proofs.lemmas.Int.{ints}

-- ---- every letter of a line is one of 26

-- what is true of each token of a line: the number of a letter is below 26
abbrev IsLetter : Token → Type 0
IsLetter (token.Letter n) = n < register_count
IsLetter _ = Unit {0}

abbrev AreLetters : List Token → Type 0
AreLetters ts = AllByRecursion IsLetter ts

token_letter : (t : Token) (bs : List ℕ) → HasTextOf t bs → IsLetter t
token_letter (token.Letter n) bs is = omega (arith, is.least, is.greatest, is.number)
token_letter t bs is = tt

all_letters : (column : ℕ) (bytes : List ℕ) (ps : List PlacedToken) → AreTokens column bytes ps → AreLetters (without_columns ps)
all_letters column bytes [] cut = tt
all_letters column bytes (p ∷ ps) (cut, later) =
    (token_letter p.token (cut.text ++ cut.further) (has_text_of p.token cut.text cut.further cut.token), all_letters p.after cut.further ps later)

-- ---- the names of a form whose letters have numbers below 26

of_first : (ts us : List Token) → AreLetters (ts ++ us) → AreLetters ts
of_first [] us all = tt
of_first (t ∷ ts) us all = (all.0, of_first ts us all.1)

is_name : (name : Name) → IsLetter (name_token name) → IsName name
is_name Current letter = tt
is_name (Register n) letter = letter

is_source : (source : Source) → IsLetter (source_token source) → IsSource source
is_source Null letter = tt
is_source (Named name) letter = is_name name letter

is_signed_source : (sign : Sign) (source : Source) → AreLetters (spell_signed sign source) → IsSource source
is_signed_source Plus source all = is_source source all.0
is_signed_source Minus source all = is_source source all.1.0

-- the registers that the command of a meaning names are letters
abbrev AreNamed : Meaning → Type 0
AreNamed (Is made) = HasNames made
AreNamed (If value after) = AreNamed after
AreNamed (Turns name angle) = IsName name

names_of_meaning : (m : Meaning) (given : Command) → AreNamed m → Means m given → HasNames given
names_of_meaning (Is made) given all p = rw p all
names_of_meaning (If value after) given all p = names_of_meaning after given all p.1
names_of_meaning (Turns name angle) given all p = rw p.2 all

form_names : (form : Form) → AreLetters (spell_form form) → AreNamed (meaning form)
form_names (AddContour name path weight) all = is_name name all.1.0
form_names (AddPicture name sign source) all = (is_name name all.1.0, is_signed_source sign source all.1.1.1)
form_names (CullKeeping name range weight) all = is_name name all.1.0
form_names (CullDropping name range weight) all = is_name name all.1.0
form_names (Clear name) all = is_name name all.0
form_names (Move name (Shifted by)) all = is_name name all.0
form_names (Move name other) all = is_name name all.0
form_names (ShowTotal source) all = is_source source all.1.1.0
form_names (ShowPicture source) all = is_source source all.1.0
form_names (ShowProof source) all = is_source source all.1.0
form_names (ShipOut source code dx width) all = is_source source all.1.0
form_names form all = tt

-- ---- the command of a line of bytes

pub names_given : (bytes : List ℕ) (given : Command) → Gives bytes given → HasNames given
names_given bytes given gives =
    grind (arith, ints, all_letters 1 bytes (tokens bytes) (are_tokens bytes), are_tokens, names_of_meaning, form_names, of_first)
