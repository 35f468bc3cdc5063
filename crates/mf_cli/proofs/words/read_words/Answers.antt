use Rattle.std.proofs.Common.{◌≡◌, ◌∙◌, Err, ap, arith, codes, map, string_bytes, sym}
use Rattle.std.proofs.lemmas.Result.{err_from_is_err_and}
use Rattle.clap.specs.Words.{app_of, fault_of, found_of, matches_of, one_of, rows_of}
use Rattle.mf_cli_options.proofs.ValuesTyped.{in_bounds, is_number}
use Rattle.mf_cli_options.specs.declared.fault.WordsFault.TheVariants.{BadWords}
use Rattle.mf_cli_options.specs.Values.{file_in, number_in, texts_of}
use Rattle.mf_cli.specs.CommandLine.{greatest_viewers, mfpic}
use Rattle.mf_cli.proofs.CommandLines.{viewers_given}
use Rattle.mf_cli.proofs.words.read_words.Goals.{In_ok-matches}
use Rattle.mf_cli.proofs.words.read_words.Goals as goal

-- what clap finds is what the definition finds
found_is : (c : In_ok-matches) → rows_of (found_of c.in_ok-matches.matches) ≡ matches_of mfpic (texts_of c.args.words)
found_is c =
    c.in_ok-matches.ensures.found ∙ ap (λ ws. matches_of (app_of c.in_ok-command.field-0) (map string_bytes ws)) c.as_slice.ensures.value
    ∙ ap (λ a. matches_of a (texts_of c.args.words)) c.in_ok-command.ensures

pub number-requires : goal.number-requires
number-requires c =
    let found = rows_of (found_of c.in_ok-matches.matches) in
    let given = viewers_given (app_of c.in_ok-command.field-0) found c.in_ok-command.ensures c.in_ok-matches.ensures.values in
    record { readable = is_number 0 greatest_viewers (one_of (codes "viewers") found) (omega arith) given }

pub returns-in_err-matches-clause-refused : goal.returns-in_err-matches-clause-refused
returns-in_err-matches-clause-refused c = λ bad line.
    let (given, is, raised) = err_from_is_err_and c.from_residual-in_err-matches.result c.from_residual-in_err-matches.ensures.1 in
    let fault_is : c.in_err-matches.field-0.0 ≡ BadWords = cc in
    c.in_err-matches.ensures.refused (ap Err fault_is)
    (ap (λ ws. fault_of (app_of c.in_ok-command.field-0) (map string_bytes ws)) c.as_slice.ensures.value
    ∙ ap (λ a. fault_of a (texts_of c.args.words)) c.in_ok-command.ensures ∙ line)

pub returns-clause-accepted : goal.returns-clause-accepted
returns-clause-accepted c =
    ap (λ a. fault_of a (texts_of c.args.words)) (sym c.in_ok-command.ensures)
    ∙ ap (λ ws. fault_of (app_of c.in_ok-command.field-0) (map string_bytes ws)) (sym c.as_slice.ensures.value) ∙ c.in_ok-matches.ensures.accepted

pub returns-clause-viewers : goal.returns-clause-viewers
returns-clause-viewers c =
    c.number.ensures ∙ ap (λ rows. number_in rows (codes "viewers") 0) (found_is (goal.at.returns-clause-viewers c).In_ok-matches)

pub returns-clause-few : goal.returns-clause-few
returns-clause-few c =
    let found = rows_of (found_of c.in_ok-matches.matches) in
    let given = viewers_given (app_of c.in_ok-command.field-0) found c.in_ok-command.ensures c.in_ok-matches.ensures.values in
    rw c.number.ensures (in_bounds 0 greatest_viewers 0 found (codes "viewers") (omega arith) (omega arith) given).1

pub returns-clause-gf : goal.returns-clause-gf
returns-clause-gf c = c.in_ok-file.ensures ∙ ap (λ rows. file_in rows (codes "gf")) (found_is (goal.at.returns-clause-gf c).In_ok-matches)
