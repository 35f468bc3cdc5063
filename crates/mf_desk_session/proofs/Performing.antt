-- Lines that are performed one after another.
use Rattle.std.proofs.Common.{◌≡◌, List, ℕ, [], ◌∷◌, ◌++◌, refl, sym, ap, ◌∙◌, append_assoc, append-nil, arith}
use Rattle.mf_desk_session.specs.Answers.{Answers}
use Rattle.mf_desk_session.specs.States.{Answer, Limits, State, answer_with, answers_in_turn}
use Rattle.mf_desk_session.specs.Transcript.{Perform, PerformInTurn}

-- of three answers, the last two may be joined first
answers_in_turn-assoc : (a b c : Answer) → answers_in_turn (answers_in_turn a b) c ≡ answers_in_turn a (answers_in_turn b c)
answers_in_turn-assoc a b c = ap (λ text. answer_with text c.next) (append_assoc a.text b.text c.text)

-- the first lines are performed, and then the others
pub Perform-append : (limits : Limits) (s : State) (lines more : List (List ℕ)) (a b : Answer)
    → Perform limits s lines a → Perform limits a.next more b → Perform limits s (lines ++ more) (answers_in_turn a b)
Perform-append limits s [] more a b nothing after = rw nothing (rw nothing at after)
Perform-append limits s (line ∷ lines) more a b (first, rest, answer, performed, is) after =
    grind (arith, answers_in_turn-assoc, Perform-append limits first.next lines more rest b performed (rw is at after))

-- one line is performed
pub Perform-one : (limits : Limits) (s : State) (line : List ℕ) (a : Answer) → Answers limits s line a → Perform limits s (line ∷ []) a
Perform-one limits s line a answer = (a, answer_with [] a.next, answer, refl, ap (λ text. answer_with text a.next) (sym (append-nil a.text)))

-- what lines and then others answer is what the first answer and then, from the state in between, what the others answer
pub Perform-split : (limits : Limits) (s : State) (lines more : List (List ℕ)) (whole : Answer) → Perform limits s (lines ++ more) whole
    → PerformInTurn limits s lines more whole
Perform-split limits s [] more whole performed = (answer_with [] s, whole, refl, performed, refl)
Perform-split limits s (line ∷ lines) more whole (first, rest, answer, performed, is) =
    let (a, b, before, after, cut) = Perform-split limits first.next lines more rest performed in
    (answers_in_turn first a, b, (first, a, answer, before, refl), after, is ∙ ap (answers_in_turn first) cut ∙ sym (answers_in_turn-assoc first a b))
