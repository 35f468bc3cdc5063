-- A line that is too long may be cut, as long as it stays too long.
use Rattle.std.proofs.Common.{◌≡◌, ℕ, ◌+◌, ◌-◌, ◌<◌, ◌≤◌, List, ◌++◌, eqb, length, take, get_or, sym, subst, arith, ⊎_elim, length-take}
use Rattle.std.proofs.lemmas.Bool.{cases_lt, cond_both}
use Rattle.std.proofs.lemmas.List.{take_all, take-append-le, length-take-le}
use Rattle.std.specs.Str.Lines.{strip_carriage_return}
use Rattle.mf_desk.specs.declared.line_buffer.TheConstants.{MAX_KEPT}
use Rattle.mf_text.specs.Lines.{longest_line}
use Rattle.mf_desk_session.specs.Answers.{Answers}
use Rattle.mf_desk_session.specs.States.{Answer, Limits, State}

-- all lines that are too long have the same answer
Answers-too_long : (limits : Limits) (s : State) (xs ys : List ℕ) (a : Answer) → longest_line < length xs → longest_line < length ys
    → Answers limits s xs a → Answers limits s ys a
Answers-too_long limits s xs ys a long longer answer = grind arith

-- of a line that grows, as many bytes are kept as of the complete line
pub take-taken : (n : ℕ) (xs ys : List ℕ) → take n (take n xs ++ ys) ≡ take n (xs ++ ys)
take-taken n xs ys = grind (arith, length-take-le, take-append-le, take_all, sym, cases_lt)

-- a line loses at most the carriage return at its end
length-stripped : (line : List ℕ) → length line ≤ length (strip_carriage_return line) + 1
length-stripped line =
    cond_both (eqb (get_or line (length line - 1) 0) 13) (take (length line - 1) line) line (λ kept. length line ≤ length kept + 1)
    (λ _. omega (arith, length-take (length line - 1) line))
    (λ _. omega arith)

pub Answers-kept : (limits : Limits) (s : State) (line : List ℕ) (a : Answer) → Answers limits s (take MAX_KEPT line) a → Answers limits s line a
Answers-kept limits s line a answer =
    ⊎_elim
    (λ longer. Answers-too_long limits s (take MAX_KEPT line) line a (omega (arith, length-take MAX_KEPT line)) (omega arith) answer)
    (λ fits. subst (λ kept. Answers limits s kept a) (take_all MAX_KEPT line fits) answer)
    (cases_lt MAX_KEPT (length line))

pub Answers-stripped : (limits : Limits) (s : State) (line : List ℕ) (a : Answer)
    → Answers limits s (strip_carriage_return (take MAX_KEPT line)) a → Answers limits s (strip_carriage_return line) a
Answers-stripped limits s line a answer =
    ⊎_elim
    (λ longer.
    Answers-too_long limits s (strip_carriage_return (take MAX_KEPT line)) (strip_carriage_return line) a
    (omega (arith, length-stripped (take MAX_KEPT line), length-take MAX_KEPT line))
    (omega (arith, length-stripped line)) answer)
    (λ fits. subst (λ kept. Answers limits s (strip_carriage_return kept) a) (take_all MAX_KEPT line fits) answer)
    (cases_lt MAX_KEPT (length line))
