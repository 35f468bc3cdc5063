-- How faults that end the program are reported.
use Rattle.std.proofs.Common.{◌≡◌, ◌⊎◌, ◌∙◌, ℕ, inl, inr, List, Option, sym, subst, arith, ⊎_elim}
use Rattle.clap.specs.Words.{Text}
use Rattle.mf_base.specs.Messages.{GetsFront}
use Rattle.mf_desk.specs.Streams.{Streams, streams}
use Rattle.mf_desk_session.specs.States.{limits_of, most_bytes, most_operations}
use Rattle.mf_view.specs.Endings.{EndsShow, ReportsFault, transcript_in}
use Rattle.mf_view.specs.Messages.{message_of, status_of}
use Rattle.mf_view.specs.declared.fault.ProgramFault.{ProgramFault}
use Rattle.mf_view.proofs.Shown.{nothing_is_told_into}
use Rattle.mf_view_words.specs.Requests.{IsRequest}
use Rattle.mf_view_words.specs.declared.words.Request.TheVariants.{Show}
use Rattle.mf_view_words.specs.declared.words.Words.{Words}

module _ (words : List Text) (fault : ProgramFault) (status : ℕ) (is : status ≡ status_of fault) where
  -- nothing was read, and no transcript was written
  pub ReportsFault-nothing : (unread held holds : Option (List ℕ)) → GetsFront held holds (message_of fault)
      → ReportsFault words status (streams unread unread held holds)
  ReportsFault-nothing unread held holds message = record {
    fault = fault;
    status_is = sym is;
    between = held;
    message = message;
    told = λ asked request. nothing_is_told_into (transcript_in asked) (limits_of most_operations most_bytes) fault unread held;
  }

  -- the script has ended with this fault, after which the stream of messages had some bytes
  pub ReportsFault-script : (between : Option (List ℕ)) (s : Streams) (asked : Words) → IsRequest words (Show asked)
      → EndsShow (transcript_in asked) (record s { holds = between }) fault → GetsFront between s.holds (message_of fault) → ReportsFault words status s
  ReportsFault-script between s asked (_, _, are) ends message = record {
    fault = fault;
    status_is = sym is;
    between = between;
    message = message;
    told = λ others (_, _, same). subst (λ t. EndsShow t (record s { holds = between }) fault) (are.transcript ∙ sym same.transcript) ends;
  }

-- a text that was asked for went out, or did not
pub text_reports_its_fault : (words : List Text) (status : ℕ) (unread held holds : Option (List ℕ))
    → (status ≡ 0) ⊎ ((fault : ProgramFault) × (status ≡ status_of fault) × GetsFront held holds (message_of fault))
    → (status ≡ 3) ⊎ ((status ≡ 4) ⊎ (status ≡ 5)) → ReportsFault words status (streams unread unread held holds)
text_reports_its_fault words status unread held holds (inl done) bad =
    absurd (⊎_elim (λ three. omega (arith, done, three)) (⊎_elim (λ four. omega (arith, done, four)) (λ five. omega (arith, done, five))) bad)
text_reports_its_fault words status unread held holds (inr (fault, is, message)) bad = ReportsFault-nothing words fault status is unread held holds message
