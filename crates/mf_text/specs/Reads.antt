-- What the reader of a line does: it passes a phrase, or finds the column at which the line goes wrong.
use Rattle.std.specs.Prelude.{◌≡◌, ◌≤◌, ◌<◌, ℕ, length, Bool, false, List, [], ◌∷◌, Option, None, Some, Result, Ok, Err, if◌then◌else◌}
use Rattle.std.specs.Option.{option_map}
use Rattle.mf_geom.specs.Lawful.{most_points}
use Rattle.mf_geom.specs.declared.point.Point.{Point}
use Rattle.mf_text.specs.declared.fault.TextFault.TheVariants.{Syntax}
use Rattle.mf_text.specs.declared.fault.SyntaxFault.{SyntaxFault}
use Rattle.mf_text.specs.declared.tokens.Tokens.{Tokens}
use Rattle.mf_text.specs.declared.path.Path as paths
use Rattle.mf_text.specs.Grammar.{Form, Line, Path, path_value}
use Rattle.mf_text.specs.Meaning.{IsAnswerOf, Command, TextFault}
use Rattle.mf_text.specs.Rests.{Rest, path, from, line_end, Ahead, Token, PlacedToken, this_in}
use Rattle.mf_text.specs.Tokens.{tokens_from}

-- the tokens of a line that remain to be read
abbrev pub remaining_tokens : Tokens → List PlacedToken
remaining_tokens t = tokens_from t.column t.unread.now

-- what is ahead of the reader: the tokens that remain, and the column one past the token before them
abbrev pub ahead : Tokens → Ahead
ahead t = record { tokens = remaining_tokens t; past = t.column }

-- no more tokens remain after than before
abbrev pub LeavesNoMore : Tokens → Tokens → Type 0
LeavesNoMore after before = length (remaining_tokens after) ≤ length (remaining_tokens before)

-- the value of the next token, if it has one, and what is ahead after it
abbrev pub next_value : {A : Type 0} → (Token → Option A) → List PlacedToken → Option (A × Ahead)
next_value f [] = None
next_value f (p ∷ ps) = option_map (λ a. (a, record { tokens = ps; past = p.after })) (f p.token)

-- the next token was passed and its value returned where it has one, and otherwise nothing was passed
abbrev pub TakesValue : {A : Type 0} → (Token → Option A) → Tokens → Tokens → Option A → Type 0
TakesValue f before after None = (next_value f (remaining_tokens before) ≡ None) × (after ≡ before)
TakesValue f before after (Some a) = next_value f (remaining_tokens before) ≡ Some (a, ahead after)

-- this token was passed where it is the next one, and otherwise nothing was
abbrev pub TakesToken : Token → Tokens → Tokens → Bool → Type 0
TakesToken u before after was_next = TakesValue (this_in u) before after (if was_next then Some tt else None)

-- what a line gives after a phrase: what its rest gives, or the column of the fault
abbrev pub then_from : {A : Type 0} → (A → Rest) → Ahead → Result A SyntaxFault → Result Line ℕ
then_from next after (Ok a) = from (next a) after
then_from next after (Err fault) = Err fault.column

-- what a line gives that can only end here
abbrev pub then_end : Line → Result (Unit {0}) SyntaxFault → Result Line ℕ
then_end line (Ok done) = Ok line
then_end line (Err fault) = Err fault.column

-- what a line gives where a value may come: what the rest after the value gives, or else another rest
abbrev pub then_value : {A : Type 0} → (A → Rest) → Rest → Ahead → Option A → Result Line ℕ
then_value this other after (Some a) = from (this a) after
then_value this other after None = from other after

-- a phrase was passed, or the line goes wrong in it, whatever may follow the phrase
abbrev pub PassesPhrase : {A : Type 0} → ((A → Rest) → Rest) → Tokens → Tokens → Result A SyntaxFault → Type 0
PassesPhrase {A} phrase before after result = (next : A → Rest) → from (phrase next) (ahead before) ≡ then_from next (ahead after) result

-- a path has these points. The number of its corners is theirs where it is at most what a cycle may have; a greater number says only
-- that they are more than that. Where they are not, and no allocation failed, they are kept
pub record HasPoints (path : paths.Path) (points : List Point) : Type 0 where
  pub few : path.corners ≤ most_points → path.corners ≡ length points
  pub many : most_points < path.corners → most_points < length points
  pub kept : path.corners ≤ most_points → path.is_out_of_memory ≡ false → path.points.items ≡ points

-- a path was passed, whatever may follow it, and its points are kept
pub record HasPassedPath (before after : Tokens) (kept : paths.Path) : Type 0 where
  pub tree : Path
  pub points : HasPoints kept (path_value tree)
  pub passed : (next : Path → Rest) → from (path next) (ahead before) ≡ from (next tree) (ahead after)

-- a path was passed and kept, or the line goes wrong in it
abbrev pub PassesPath : Tokens → Tokens → Result paths.Path SyntaxFault → Type 0
PassesPath before after (Ok kept) = HasPassedPath before after kept
PassesPath before after (Err fault) = (next : Path → Rest) → from (path next) (ahead before) ≡ Err fault.column

-- the line ends here as this form, with `;` or without it
pub record IsReadAs (form : Form) (read : Result Line ℕ) : Type 0 where
  pub ended : Bool
  pub read_is : read ≡ Ok (record { form = form; ended = ended })

-- the line ends here, or goes wrong at this column, whatever its form is
abbrev pub Closes : Tokens → Result (Unit {0}) SyntaxFault → Type 0
Closes before (Ok done) = (form : Form) → IsReadAs form (from (line_end form) (ahead before))
Closes before (Err fault) = (form : Form) → from (line_end form) (ahead before) ≡ Err fault.column

-- the answer to what a line gives: that of its form, or `Syntax` with the column at which it goes wrong
abbrev pub AnswersLine : Result Line ℕ → Result Command TextFault → Type 0
AnswersLine (Ok line) result = IsAnswerOf line.form result
AnswersLine (Err column) result = result ≡ Err (Syntax column)
