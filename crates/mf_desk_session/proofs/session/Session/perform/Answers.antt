use Rattle.std.proofs.Common.{◌≡◌, ℕ, List, refl, ap, ◌∙◌, w32, to_z, of_z, arith}
use Rattle.std.proofs.lemmas.Int.{ints}
use Rattle.std.proofs.lemmas.Result.{IfOk-weaker}
use Rattle.mf_desk_session.specs.States.{State, answer_with}
use Rattle.mf_desk_session.specs.Pictures.{Pictures}
use Rattle.mf_desk_session.proofs.Standing.{HasAnswered-same_file, state_of}
use Rattle.mf_desk_session.proofs.session.Session.perform.Goals as goal
use Rattle.mf_desk_session.proofs.session.Session.perform.Goals.{in-Contour, in-Cull, in-Clear, in-Shift, in-Scale, in-Quarter}

-- drawing changes neither the turning check nor what was shipped
draws : {text line : List ℕ} {before after : Pictures} (s : State) → (text ≡ line) × (before ≡ after)
    → answer_with text (record s { pictures = before }) ≡ answer_with line (record s { pictures = after })
draws {line} {before} s (printed, same) =
    ap (λ t. answer_with t (record s { pictures = before })) printed ∙ ap (λ p. answer_with line (record s { pictures = p })) same

pub returns-in-Turning-clause-answer : goal.returns-in-Turning-clause-answer
returns-in-Turning-clause-answer g c =
    HasAnswered-same_file c.args.self.now _ _ _ c.set_check.ensures.file
    (λ characters. rw (c.in-Turning.is, c.set_check.ensures.text, c.set_check.ensures.variables, c.set_check.ensures.check) refl)

pub returns-in-Also-clause-answer : goal.returns-in-Also-clause-answer
returns-in-Also-clause-answer g c =
    IfOk-weaker c.add.result _ _
    (λ text given. HasAnswered-same_file c.args.self.now _ _ _ refl
    (λ characters. rw c.in-Also.is (draws (state_of c.args.self.now characters) given))) c.add.ensures.answer

pub returns-in-Publish-clause-answer : goal.returns-in-Publish-clause-answer
returns-in-Publish-clause-answer g c =
    IfOk-weaker c.publish.result _ _
    (λ text given. HasAnswered-same_file c.args.self.now _ _ _ refl
    (λ characters. rw c.in-Publish.is (draws (state_of c.args.self.now characters) given))) c.publish.ensures.answer

pub returns-clause-answer : goal.returns-clause-answer
returns-clause-answer g c =
    IfOk-weaker c.operate.result _ _
    (λ text given. HasAnswered-same_file c.args.self.now _ _ _ refl
    (λ characters.
    let s = state_of c.args.self.now characters in
    elim c.match-command.branch [
      | in-Contour w ↦ rw w.in-Contour.is (draws s (rw w.name-is at given))
      | in-Cull w ↦ rw w.in-Cull.is (draws s (rw w.name-is at given))
      | in-Clear w ↦ rw w.in-Clear.is (draws s (rw w.name-is at given))
      | in-Shift w ↦
          let right : to_z w32 (of_z w32 w.in-Shift.right) ≡ w.in-Shift.right = omega (arith, ints) in
          let up : to_z w32 (of_z w32 w.in-Shift.up) ≡ w.in-Shift.up = omega (arith, ints) in
          rw w.in-Shift.is (draws s (rw (w.name-is, right, up) at given))
      | in-Scale w ↦ rw w.in-Scale.is (draws s (rw w.name-is at given))
      | in-Quarter w ↦ rw w.in-Quarter.is (draws s (rw w.name-is at given))
    ])) c.operate.ensures.answer
