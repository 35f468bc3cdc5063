-- The answer to a line.
use Rattle.std.proofs.Common.{◌≡◌, ◌≢◌, inl, inr, Result, Ok, Err, List, [], ℕ, refl, sym, subst}
use Rattle.std.specs.Prelude.{IfOk, IfErr}
use Rattle.mf_text.specs.declared.fault.TextFault.TheVariants as faults
use Rattle.mf_text.specs.declared.tokens.Tokens.{Tokens}
use Rattle.mf_text.specs.Grammar.{Line, Nothing}
use Rattle.mf_text.specs.Lines.{IsText, IsLineOf, IsLineWith, Gives, IsRefused, line_ahead}
use Rattle.mf_text.specs.Meaning.{Value, Points, Angle, Meaning, Is, If, Turns, IsAnswerOf, IsUnlawful, Refuses, meaning, Command, TextFault}
use Rattle.mf_text.specs.Reads.{AnswersLine, ahead, remaining_tokens}
use Rattle.mf_text.specs.Rests.{follow, from, line}
use Rattle.mf_text.specs.Tokens.{tokens}
use Rattle.mf_text.proofs.LineReading.{goes_wrong, is_line}

-- ---- a line with no token

pub nothing : (old : Tokens) → remaining_tokens old ≡ [] → (r : Result Command TextFault) → IsAnswerOf Nothing r → AnswersLine (from line (ahead old)) r
unfolding follow
nothing old none r answer = subst (λ ps. AnswersLine (from line (record { tokens = ps; past = old.column })) r) (sym none) answer

-- ---- refusals of values

-- where values are refused with this fault, the line is refused with it, and it is not `OutOfMemory`
abbrev pub IsOfValues : TextFault → Type 0
IsOfValues fault = (fault ≢ faults.OutOfMemory) × ((bytes : List ℕ) → IsLineWith bytes (λ form. Refuses (meaning form) fault) → IsRefused bytes fault)

of_value : (value : Value) (fault : TextFault) → IsUnlawful value fault → IsOfValues fault
of_value (Points points) fault is = rw is.is.is ((λ e. cc), λ bytes bad. bad)
of_value value fault is = rw is.is ((λ e. cc), λ bytes bad. bad)

pub of_values : (m : Meaning) (fault : TextFault) → Refuses m fault → IsOfValues fault
of_values (Is made) fault is = absurd is
of_values (If value after) fault (inl is) = of_value value fault is
of_values (If value after) fault (inr is) = of_values after fault is.1
of_values (Turns name angle) fault is = of_value (Angle angle) fault is

-- ---- the answer

-- this is the answer to a line: a command that it gives, or its refusal
abbrev IsAnswerTo : List ℕ → Result Command TextFault → Type 0
IsAnswerTo bytes r = IfOk r (Gives bytes) × IfErr r (IsRefused bytes)

answer_of_form : (line : List ℕ) (l : Line) (r : Result Command TextFault) → IsLineOf line l → IsAnswerOf l.form r → IsAnswerTo line r
answer_of_form bytes l (Ok given) is answer = (record { line = l; line_is = is; so = answer }, tt)
answer_of_form bytes l (Err faults.OutOfMemory) is answer = (tt, record { line = l; line_is = is; so = answer })
answer_of_form bytes l (Err fault) is answer =
    (tt, (of_values (meaning l.form) fault answer).1 bytes (record { line = l; line_is = is; so = answer }))

answer_of_reading : (line_bytes : List ℕ) (o : Result Line ℕ) (r : Result Command TextFault) → IsText line_bytes
    → from line (line_ahead line_bytes) ≡ o → AnswersLine o r → IsAnswerTo line_bytes r
answer_of_reading bytes (Ok l) r text is answer = answer_of_form bytes l r (record { text = text; spelled = is_line (line_ahead bytes) l is }) answer
answer_of_reading bytes (Err column) r text is answer = subst (IsAnswerTo bytes) (sym answer) (tt, (text, goes_wrong bytes column is))

pub answer_of_line : (bytes : List ℕ) (start : Tokens) (r : Result Command TextFault) → IsText bytes → remaining_tokens start ≡ tokens bytes → start.column ≡ 1
    → AnswersLine (from line (ahead start)) r → IsAnswerTo bytes r
answer_of_line bytes start r text tokens_are column_is answer =
    let same : ahead start ≡ line_ahead bytes = rw (tokens_are, column_is) refl in
    answer_of_reading bytes (from line (line_ahead bytes)) r text refl (subst (λ a. AnswersLine (from line a) r) same answer)
