-- The states that sessions represent once commands are performed.
use Rattle.std.proofs.Common.{◌≡◌, List, [], ℕ, refl, sym, subst, arith}
use Rattle.mf_gf.specs.Files.{Character}
use Rattle.mf_gf.specs.Keeping.{Keeps}
use Rattle.mf_text.specs.declared.command.Command.{Command}
use Rattle.mf_desk_session.specs.declared.session.Session.{Session}
use Rattle.mf_desk_session.specs.Answers.{AnswersTo}
use Rattle.mf_desk_session.specs.Sessions.{HasAnswered, StandsFor, limits}
use Rattle.mf_desk_session.specs.States.{State, answer_with}
use Rattle.mf_desk_session.specs.Variables.{pictures}

-- the state with the pictures and the turning check of a session, and with these characters
abbrev pub state_of : Session → List Character → State
state_of session characters = record { pictures = pictures session.variables; check = session.check; characters = characters }

-- a session represents no states but these
pub in_each_state : (session : Session) (Holds : State → Type 0)
    → ((characters : List Character) → Keeps session.file [] characters → Holds (state_of session characters))
    → (s : State) → StandsFor session s → Holds s
in_each_state session Holds holds s stands = grind (arith, sym)

-- a session has answered a command that left its font file as it was
pub HasAnswered-same_file : (before after : Session) (command : Command) (text : List ℕ) → after.file ≡ before.file
    → ((characters : List Character) → AnswersTo (limits before) (state_of before characters) command (answer_with text (state_of after characters)))
    → (s : State) → StandsFor before s → HasAnswered after text (AnswersTo (limits before) s command)
HasAnswered-same_file before after command text same answers =
    in_each_state before (λ s. HasAnswered after text (AnswersTo (limits before) s command))
    (λ characters keeps. record {
      next = state_of after characters;
      answer = answers characters;
      stands = record { pictures = refl; check = refl; file = subst (λ file. Keeps file [] characters) (sym same) keeps };
    })
