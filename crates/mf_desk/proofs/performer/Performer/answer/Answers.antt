use Rattle.std.proofs.Common.{[], ◌++◌, inl, false, refl, subst, sym, take, drop, take-append-drop, arith}
use Rattle.std.specs.Io.KnownBytes.{Appends}
use Rattle.std.proofs.KnownBytes.{Appends-nil}
use Rattle.std.proofs.lemmas.Bool.{eqb-true}
use Rattle.std.proofs.lemmas.List.{length-take-le, nil_from_length}
use Rattle.std.proofs.lemmas.Result.{IfOk-weaker}
use Rattle.mf_text.proofs.Registers.{names_given}
use Rattle.mf_text.specs.Grammar.{Nothing as NoForm}
use Rattle.mf_text.specs.Tokens.{tokens_from, tokens_within}
use Rattle.mf_text.specs.declared.command.Command.TheVariants.{Nothing}
use Rattle.mf_desk_session.specs.Answers.{Answers}
use Rattle.mf_desk_session.specs.Sessions.{limits}
use Rattle.mf_desk_session.specs.States.{Limits, State, answer_with}
use Rattle.mf_desk.specs.Performer.{IsLineText}
use Rattle.mf_base.proofs.Faults.{IfErr-raised}
use Rattle.mf_desk.proofs.performer.Performer.answer.Goals as goal

-- an empty line prints nothing and changes nothing
empty-answers : (bounds : Limits) (s : State) → Answers bounds s [] (answer_with [] s)
unfolding tokens_from tokens_within
empty-answers bounds s =
    inl (record {
      command = Nothing;
      given = record {
        line = record { form = NoForm; ended = false };
        line_is = record { text = record { short = omega arith; text = refl }; spelled = refl };
        so = refl;
      };
      answer = refl;
    })

pub returns-then-is_empty-clause-written : goal.returns-then-is_empty-clause-written
returns-then-is_empty-clause-written g c =
    let none = nil_from_length c.args.line.now (eqb-true _ 0 (sym c.if-is_empty.ensures)) in
    let bounds = limits c.args.self.now.session in (
      [],
      Appends-nil _,
      record {
        answered = λ s stands. record { next = s; answer = rw none (empty-answers bounds s); stands = stands };
        counted = omega arith;
        short = omega arith;
      },
    )

pub returns-in_err-text-clause-fault : goal.returns-in_err-text-clause-fault
returns-in_err-text-clause-fault g c =
    IfErr-raised c.from_residual.result _ c.from_residual.ensures.1 ([], Appends-nil _, refl)

pub returns-in-Ok-clause-written : goal.returns-in-Ok-clause-written
returns-in-Ok-clause-written g c =
    let read = c.read_command-read.ensures in (
      c.in_ok-text.text.items,
      subst (Appends _ _) c.as_slice.ensures.value c.in-Ok.ensures.all,
      record {
        answered = λ s stands. c.in_ok-text.ensures.answer s c.args.line.now stands (record { given = read.given; refused = read.refused });
        counted = omega arith;
        short = omega arith;
      },
    )

pub returns-clause-fault : goal.returns-clause-fault
returns-clause-fault g c =
    let text = c.as_slice.result.now in
    let count = c.in-Err.count in
    let before = c.args.self.now in
    let prints : IsLineText before c.args.line.now (take count text ++ drop count text) =
    λ s stands.
    let read = c.read_command-read.ensures in
    let answered = c.in_ok-text.ensures.answer s c.args.line.now stands (record { given = read.given; refused = read.refused }) in
    (answered.next, rw (take-append-drop count text, c.as_slice.ensures.value) answered.answer) in
    let counted = length-take-le count text (omega (arith, c.in-Err.ensures.within)) in
    (take count text, c.in-Err.ensures.front, (count, omega arith, (counted, drop count text, prints)))

pub answer_to-requires : goal.answer_to-requires
answer_to-requires g c = IfOk-weaker c.read_command-read.result _ _ (names_given c.args.line.now) c.read_command-read.ensures.given

pub effect_of-asked-requires : goal.effect_of-asked-requires
effect_of-asked-requires g c = IfOk-weaker c.read_command-read.result _ _ (names_given c.args.line.now) c.read_command-read.ensures.given
