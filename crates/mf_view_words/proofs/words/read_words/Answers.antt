use Rattle.std.proofs.Common.{◌≡◌, ◌∙◌, ap, map, string_bytes, subst, sym}
use Rattle.std.proofs.lemmas.Result.{IfOk-weaker, on_ok_weaker}
use Rattle.clap.specs.Words.{app_of, fault_of, found_of, matches_of, rows_of}
use Rattle.mf_cli_options.specs.Values.{texts_of}
use Rattle.mf_view_words.specs.CommandLine.{mfview}
use Rattle.mf_view_words.specs.Requests.{IsRequestIn, lacks_plates}
use Rattle.mf_view_words.proofs.CommandLines.{values_given}
use Rattle.mf_view_words.proofs.words.read_words.Goals.{In_ok-matches}
use Rattle.mf_view_words.proofs.words.read_words.Goals as goal

-- clap finds a fault in the words exactly where the definition does, and else the same
fault_is : (c : In_ok-matches) → fault_of (app_of c.in_ok-command.field-0) (map string_bytes c.as_slice.result.now) ≡ fault_of mfview (texts_of c.args.words)
fault_is c =
    ap (λ ws. fault_of (app_of c.in_ok-command.field-0) (map string_bytes ws)) c.as_slice.ensures.value
    ∙ ap (λ a. fault_of a (texts_of c.args.words)) c.in_ok-command.ensures

found_is : (c : In_ok-matches) → rows_of (found_of c.in_ok-matches.matches) ≡ matches_of mfview (texts_of c.args.words)
found_is c =
    c.in_ok-matches.ensures.found ∙ ap (λ ws. matches_of (app_of c.in_ok-command.field-0) (map string_bytes ws)) c.as_slice.ensures.value
    ∙ ap (λ a. matches_of a (texts_of c.args.words)) c.in_ok-command.ensures

pub request_in-requires : goal.request_in-requires
request_in-requires c =
    values_given (app_of c.in_ok-command.field-0) (rows_of (found_of c.in_ok-matches.matches)) c.in_ok-command.ensures c.in_ok-matches.ensures.values

pub returns-clause-accepted : goal.returns-clause-accepted
returns-clause-accepted c =
    let at = (goal.at.returns-clause-accepted c).In_ok-matches in
    on_ok_weaker c.request_in.result
    (λ has. (sym (fault_is at) ∙ c.in_ok-matches.ensures.accepted, ap lacks_plates (sym (found_is at)) ∙ has)) c.request_in.ensures.accepted

pub returns-clause-value : goal.returns-clause-value
returns-clause-value c =
    let at = (goal.at.returns-clause-value c).In_ok-matches in
    IfOk-weaker c.request_in.result _ _ (λ request is. subst (λ found. IsRequestIn found request) (found_is at) is) c.request_in.ensures.value
