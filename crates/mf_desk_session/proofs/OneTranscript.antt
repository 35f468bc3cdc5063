-- A line has one answer, and so a script has one transcript.
use Rattle.std.proofs.Common.{◌≡◌, inl, inr, ℕ, List, [], ◌∷◌, ap, sym, ◌∙◌, subst, arith}
use Rattle.mf_gf.specs.Files.{Character}
use Rattle.mf_gf.specs.Keeping.{character}
use Rattle.mf_rows.specs.Dots.{Dot}
use Rattle.mf_text.specs.declared.command.Command.{Command}
use Rattle.mf_text.specs.declared.command.Command.TheVariants.{Proof, Ship}
use Rattle.mf_text.proofs.OneAnswer.{gives_one, refused_once, given_or_refused}
use Rattle.mf_desk_session.specs.Answers.{Answers, AnswersTo, ProofAnswers}
use Rattle.mf_desk_session.specs.Pictures.{source_picture}
use Rattle.mf_desk_session.specs.Shipments.{Ships}
use Rattle.mf_desk_session.specs.States.{Answer, Limits, State, answers_in_turn}
use Rattle.mf_desk_session.specs.Transcript.{IsTranscript, Perform}

proof_once : (ds : List Dot) (text other : List ℕ) → ProofAnswers ds text → ProofAnswers ds other → text ≡ other
proof_once ds text other (inl p) (inl q) = p.printed ∙ sym q.printed
proof_once ds text other (inl p) (inr q) = absurd (q.fits p.too_large)
proof_once ds text other (inr p) (inl q) = absurd (p.fits q.too_large)
proof_once ds text other (inr p) (inr q) = p.printed ∙ sym q.printed

ships_once : (limits : Limits) (s : State) (c : Character) (a b : Answer) → Ships limits s c a → Ships limits s c b → a ≡ b
ships_once limits s c a b (inl p) (inl q) = p.is ∙ sym q.is
ships_once limits s c a b (inl p) (inr q) = absurd (q.fits p.too_long)
ships_once limits s c a b (inr p) (inl q) = absurd (p.fits q.too_long)
ships_once limits s c a b (inr p) (inr q) = p.is ∙ sym q.is

-- a command has one answer
answers_once : (limits : Limits) (s : State) (given : Command) (a b : Answer) → AnswersTo limits s given a → AnswersTo limits s given b → a ≡ b
answers_once limits s (Proof source) a b (printed, after) (printed_too, after_too) = grind (arith, proof_once, sym)
answers_once limits s (Ship source code dx width) a b p q =
    ships_once limits s (character code dx width (source_picture s.pictures source)) a b p q
answers_once limits s given a b p q = p ∙ sym q

-- a line has one answer, since it has one command or one refusal
pub one_answer : (limits : Limits) (s : State) (line : List ℕ) (a b : Answer) → Answers limits s line a → Answers limits s line b → a ≡ b
one_answer limits s line a b (inl p) (inl q) =
    answers_once limits s q.command a b
    (subst (λ given. AnswersTo limits s given a) (gives_one line p.command q.command p.given q.given) p.answer) q.answer
one_answer limits s line a b (inl p) (inr q) = absurd (given_or_refused line p.command q.fault q.printable p.given q.refused)
one_answer limits s line a b (inr p) (inl q) = absurd (given_or_refused line q.command p.fault p.printable q.given p.refused)
one_answer limits s line a b (inr p) (inr q) = grind (arith, refused_once, sym)

pub performs_once : (limits : Limits) (s : State) (lines : List (List ℕ)) (a b : Answer) → Perform limits s lines a → Perform limits s lines b → a ≡ b
performs_once limits s [] a b p q = p ∙ sym q
performs_once limits s (line ∷ more) a b (first, rest, answer, performed, is) (first_too, rest_too, answer_too, performed_too, is_too) =
    let same = one_answer limits s line first first_too answer answer_too in
    let after = subst (λ x. Perform limits x.next more rest) same performed in
    is ∙ ap (λ x. answers_in_turn x rest) same
    ∙ ap (answers_in_turn first_too) (performs_once limits first_too.next more rest rest_too after performed_too) ∙ sym is_too

pub one_transcript : (limits : Limits) (input text other : List ℕ) → IsTranscript limits input text → IsTranscript limits input other → text ≡ other
one_transcript limits input text other p q = grind (arith, performs_once)
