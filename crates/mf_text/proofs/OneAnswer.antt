-- A line has one answer: a command, or a refusal.
use Rattle.std.proofs.Common.{◌≡◌, ◌≢◌, false, inl, inr, ℕ, suc, ◌<◌, ◌≤◌, List, ◌++◌, length, take, drop, append_assoc, refl, sym, ap, ◌∙◌, subst, arith}
use Rattle.std.specs.List.{list_all}
use Rattle.std.proofs.lemmas.Bool.{cases_lt, cases_order}
use Rattle.std.proofs.lemmas.Int.{ints}
use Rattle.std.proofs.lemmas.List.{take-append-drop, take-take}
use Rattle.mf_ops.specs.Moves.{degrees}
use Rattle.mf_ops.specs.declared.quarter.TurnCount.{TurnCount}
use Rattle.mf_ops.specs.declared.quarter.TurnCount.TheVariants.{Once, Twice, Thrice}
use Rattle.mf_text.specs.declared.command.Command.TheVariants as command
use Rattle.mf_text.specs.declared.fault.TextFault.TheVariants as faults
use Rattle.mf_text.specs.Grammar.{Form, Line}
use Rattle.mf_text.specs.Lines.{IsText, line_ahead, IsLineOf, IsLineWith, Gives, IsRefused, is_text_byte}
use Rattle.mf_text.specs.Meaning.{Value, Points, Angle, Meaning, Is, If, Turns, IsUnlawful, Means, Refuses, meaning, Command, TextFault}
use Rattle.mf_text.specs.Syntax.{IsLine, IsLinePrefix, IsSyntaxFault, IsWrongAt, report_place}
use Rattle.mf_text.specs.Token.{Ahead, Token, token_column}
use Rattle.mf_text.specs.Tokens.{without_columns}
use Rattle.mf_text.proofs.LineReading.{same_line}

-- ---- forms

same_angle : (one other : TurnCount) → degrees one ≡ degrees other → one ≡ other
same_angle Once Once same = refl
same_angle Twice Twice same = refl
same_angle Thrice Thrice same = refl
same_angle one other same = absurd (omega (arith, ints))

one_command : (m : Meaning) (one other : Command) → Means m one → Means m other → one ≡ other
one_command (Is made) one other p q = cc
one_command (If value after) one other p q = one_command after one other p.1 q.1
one_command (Turns name angle) one other p q = p.2 ∙ ap (command.Quarter name) (same_angle p.0 q.0 (p.1 ∙ sym q.1)) ∙ sym q.2

one_fault : (value : Value) (one other : TextFault) → IsUnlawful value one → IsUnlawful value other → one ≡ other
one_fault (Points points) one other p q = grind (arith, ints)
one_fault value one other p q = p.is ∙ sym q.is

one_refusal : (m : Meaning) (one other : TextFault) → Refuses m one → Refuses m other → one ≡ other
one_refusal (Is made) one other p q = absurd p
one_refusal (If value after) one other (inl p) (inl q) = one_fault value one other p q
one_refusal (If value after) one other (inl p) (inr q) = absurd (p.unlawful q.0)
one_refusal (If value after) one other (inr p) (inl q) = absurd (q.unlawful p.0)
one_refusal (If value after) one other (inr p) (inr q) = one_refusal after one other p.1 q.1
one_refusal (Turns name angle) one other p q = one_fault (Angle angle) one other p q

not_both : (m : Meaning) (given : Command) (fault : TextFault) → Means m given → Refuses m fault → ⊥
not_both (Is made) given fault p q = q
not_both (If value after) given fault p (inl q) = q.unlawful p.0
not_both (If value after) given fault p (inr q) = not_both after given fault p.1 q.1
not_both (Turns name angle) given fault p q = q.unlawful (p.0, p.1)

-- ---- where tokens go wrong

shorter_prefix : (ts us : List Token) → IsLinePrefix (ts ++ us) → IsLinePrefix ts
shorter_prefix ts us prefix = grind (arith, ints, append_assoc)

-- what is a prefix of a prefix of a line is one of the line
prefix-take : (ts : List Token) (j k : ℕ) → j ≤ k → IsLinePrefix (take k ts) → IsLinePrefix (take j ts)
prefix-take ts j k below prefix =
    let parts = take-append-drop j (take k ts) in
    subst IsLinePrefix (take-take j k ts below) (shorter_prefix (take j (take k ts)) (drop j (take k ts)) (subst IsLinePrefix (sym parts) prefix))

-- tokens do not go wrong at two places
not_before : (ts : List Token) (j k : ℕ) → IsWrongAt ts j → IsWrongAt ts k → j < k → ⊥
not_before ts j k p q before = let within = q.within in p.wrong (omega arith) (prefix-take ts (suc j) k (omega arith) q.before)

one_column : (ahead : Ahead) (one other : ℕ) → IsSyntaxFault ahead one → IsSyntaxFault ahead other → one ≡ other
one_column ahead one other p q =
    let ts = without_columns ahead.tokens in
    p.column_is ∙ ap (λ k. token_column ahead (report_place ts k)) (grind (arith, ints, cases_order, not_before, p.at, q.at)) ∙ sym q.column_is

pub wrong_is_no_line : (ahead : Ahead) (column : ℕ) → IsSyntaxFault ahead column → IsLine (without_columns ahead.tokens) → ⊥
wrong_is_no_line ahead column wrong line = not_wrong (without_columns ahead.tokens) wrong.place wrong.at line where
  not_wrong : (ts : List Token) (k : ℕ) → IsWrongAt ts k → IsLine ts → ⊥
  not_wrong ts k wrong line =
      elim (cases_lt k (length ts)) [
        | inl inner ↦ wrong.wrong inner
            (record { further = drop (suc k) ts; line = record { tree = line.tree; spelled = take-append-drop (suc k) ts ∙ line.spelled } })
        | inr outer ↦ let within = wrong.within in wrong.unended (omega arith) line
      ]

-- ---- lines of bytes

-- what is so of the form of bytes is so however they are known to be a line
pub same_form : (bytes : List ℕ) (P Q : Form → Type 0) → IsLineWith bytes P → (q : IsLineWith bytes Q) → P q.line.form
same_form bytes P Q p q = subst (λ (l : Line). P l.form) (same_line p.line q.line (sym p.line_is.spelled ∙ q.line_is.spelled)) p.so

pub gives_one : (bytes : List ℕ) (one other : Command) → Gives bytes one → Gives bytes other → one ≡ other
gives_one bytes one other p q = one_command (meaning q.line.form) one other (same_form bytes (λ form. Means (meaning form) one) _ p q) q.so

text_is_text : (bytes : List ℕ) → IsText bytes → list_all is_text_byte bytes ≡ false → ⊥
text_is_text bytes p q = cc

no_line-line : (bytes : List ℕ) (column : ℕ) (line : Line) → IsSyntaxFault (line_ahead bytes) column → IsLineOf bytes line → ⊥
no_line-line bytes column line p q = wrong_is_no_line (line_ahead bytes) column p (record { tree = line; spelled = q.spelled })

pub refused_once : (bytes : List ℕ) (one other : TextFault) → one ≢ faults.OutOfMemory → other ≢ faults.OutOfMemory → IsRefused bytes one
    → IsRefused bytes other → one ≡ other
refused_once bytes faults.OutOfMemory other memory _ p q = absurd (memory refl)
refused_once bytes one faults.OutOfMemory _ memory p q = absurd (memory refl)
refused_once bytes faults.LineTooLong faults.LineTooLong _ _ p q = refl
refused_once bytes faults.LineTooLong faults.NotAscii _ _ p q = absurd (omega (arith, p, q.0))
refused_once bytes faults.LineTooLong (faults.Syntax column) _ _ p q = absurd (omega (arith, p, q.0.short))
refused_once bytes faults.LineTooLong other _ _ p q = absurd (omega (arith, p, q.line_is.text.short))
refused_once bytes faults.NotAscii faults.LineTooLong _ _ p q = absurd (omega (arith, p.0, q))
refused_once bytes faults.NotAscii faults.NotAscii _ _ p q = refl
refused_once bytes faults.NotAscii (faults.Syntax column) _ _ p q = absurd (text_is_text bytes q.0 p.1)
refused_once bytes faults.NotAscii other _ _ p q = absurd (text_is_text bytes q.line_is.text p.1)
refused_once bytes (faults.Syntax column) faults.LineTooLong _ _ p q = absurd (omega (arith, p.0.short, q))
refused_once bytes (faults.Syntax column) faults.NotAscii _ _ p q = absurd (text_is_text bytes p.0 q.1)
refused_once bytes (faults.Syntax column) (faults.Syntax place) _ _ p q = ap faults.Syntax (one_column (line_ahead bytes) column place p.1 q.1)
refused_once bytes (faults.Syntax column) other _ _ p q = absurd (no_line-line bytes column q.line p.1 q.line_is)
refused_once bytes one faults.LineTooLong _ _ p q = absurd (omega (arith, p.line_is.text.short, q))
refused_once bytes one faults.NotAscii _ _ p q = absurd (text_is_text bytes p.line_is.text q.1)
refused_once bytes one (faults.Syntax column) _ _ p q = absurd (no_line-line bytes column p.line q.1 p.line_is)
refused_once bytes one other _ _ p q = one_refusal (meaning q.line.form) one other (same_form bytes (λ form. Refuses (meaning form) one) _ p q) q.so

pub given_or_refused : (bytes : List ℕ) (given : Command) (fault : TextFault) → fault ≢ faults.OutOfMemory → Gives bytes given → IsRefused bytes fault
    → ⊥
given_or_refused bytes given faults.OutOfMemory memory p q = memory refl
given_or_refused bytes given faults.LineTooLong _ p q = omega (arith, q, p.line_is.text.short)
given_or_refused bytes given faults.NotAscii _ p q = text_is_text bytes p.line_is.text q.1
given_or_refused bytes given (faults.Syntax column) _ p q = no_line-line bytes column p.line q.1 p.line_is
given_or_refused bytes given fault _ p q = not_both (meaning q.line.form) given fault (same_form bytes (λ form. Means (meaning form) given) _ p q) q.so
