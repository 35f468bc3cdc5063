-- Each line has an answer, and so each script has a transcript.
use Rattle.std.proofs.Common.{inl, inr, ℕ, List, [], ◌∷◌, ◌++◌, codes, length, refl, arith}
use Rattle.std.specs.Prelude.{decimal}
use Rattle.std.specs.Str.Lines.{lines}
use Rattle.std.proofs.lemmas.Bool.{cases_lt}
use Rattle.mf_gf.specs.Files.{Character, bytes_so_far}
use Rattle.mf_gf.specs.Keeping.{character}
use Rattle.mf_rows.specs.Dots.{Dot}
use Rattle.mf_text_show.specs.Grid.{grid_text}
use Rattle.mf_text_show.proofs.GridTexts.{large_or_not}
use Rattle.mf_text.specs.declared.command.Command.{Command}
use Rattle.mf_text.specs.declared.command.Command.TheVariants.{Proof, Ship}
use Rattle.mf_text.proofs.SomeAnswer as text
use Rattle.mf_desk_session.specs.declared.refusal.Refusal.TheVariants.{FileTooLong, ProofTooLarge}
use Rattle.mf_desk_session.specs.Answers.{Answers, AnswersTo, ProofAnswers}
use Rattle.mf_desk_session.specs.Pictures.{source_picture}
use Rattle.mf_desk_session.specs.Refusals.{refusal_line}
use Rattle.mf_desk_session.specs.Shipments.{Ships}
use Rattle.mf_desk_session.specs.States.{Answer, Limits, State, answer_with, answers_in_turn, start}
use Rattle.mf_desk_session.specs.Transcript.{IsTranscript, Perform}

-- a picture has a grid text, or that text is too large
proof_some : (ds : List Dot) → (text : List ℕ) × ProofAnswers ds text
proof_some ds = elim (large_or_not ds) [
  | inl large ↦ (refusal_line ProofTooLarge, inl (record { too_large = large; printed = refl }))
  | inr fits ↦ (grid_text ds, inr (record { fits = fits; printed = refl }))
]

ships_some : (limits : Limits) (s : State) (c : Character) → (a : Answer) × Ships limits s c a
ships_some limits s c =
    elim (cases_lt limits.max_bytes (length (bytes_so_far [] (s.characters ++ c ∷ [])))) [
      | inl long ↦ (answer_with (refusal_line FileTooLong) s, inl (record { too_long = long; is = refl }))
      | inr fits ↦ (
        answer_with (codes "[" ++ decimal c.code ++ codes "]\n") (record s { characters = s.characters ++ c ∷ [] }),
        inr (record { fits = λ long. omega (arith, long, fits); is = refl }),
      )
    ]

command_some : (limits : Limits) (s : State) (given : Command) → (a : Answer) × AnswersTo limits s given a
command_some limits s (Proof source) =
    let (text, answers) = proof_some (source_picture s.pictures source) in (answer_with text s, (answers, refl))
command_some limits s (Ship source code dx width) = ships_some limits s (character code dx width (source_picture s.pictures source))
command_some limits s given = (_, refl)

pub some_answer : (limits : Limits) (s : State) (line : List ℕ) → (a : Answer) × Answers limits s line a
some_answer limits s line =
    elim (text.some_answer line) [
      | inl (given, gives) ↦ (let (a, answer) = command_some limits s given in (a, inl (record { command = given; given = gives; answer = answer })))
      | inr (fault, printable, refused) ↦ (_, inr (record { fault = fault; printable = printable; refused = refused; answer = refl }))
    ]

perform_some : (limits : Limits) (s : State) (more : List (List ℕ)) → (a : Answer) × Perform limits s more a
perform_some limits s [] = (_, refl)
perform_some limits s (line ∷ more) =
    let (first, answer) = some_answer limits s line in
    let (rest, performed) = perform_some limits first.next more in
    (answers_in_turn first rest, (first, rest, answer, performed, refl))

pub some_transcript : (limits : Limits) (input : List ℕ) → (text : List ℕ) × IsTranscript limits input text
some_transcript limits input =
    let (a, performed) = perform_some limits start (lines input) in
    (a.text, record { last = a.next; performed = performed })
