-- The command line has plain options only, and the words give numbers and flags to them.
use Rattle.std.proofs.Common.{◌≡◌, ◌<◌, ◌^◌, ℕ, IfSome, List, refl, subst, true}
use Rattle.clap.specs.Words.{App, Row, Text, is_simple_and_free, one_of}
use Rattle.mf_cli_options.proofs.ValuesTyped.{is_number}
use Rattle.mf_cli_options.specs.Options.{number_parser}
use Rattle.mf_cli_options.specs.Values.{AreValuesOf, IsNumber, is_option}
use Rattle.mf_view_words.specs.CommandLine.{mfview, rules}

pub mfview_is_plain : is_simple_and_free mfview ≡ true
unfolding mfview
mfview_is_plain = refl

pub values_given : (app : App) (found : List Row) → app ≡ mfview → AreValuesOf app.top.rules found → AreValuesOf rules found
unfolding mfview
values_given app found same values = subst (λ (a : App). AreValuesOf a.top.rules found) same values

pub number_given : (found : List Row) → AreValuesOf rules found → (id : Text) (low high : ℕ) → is_option rules id (number_parser low high) ≡ true
    → high < 2 ^ 32 → IfSome (one_of id found) IsNumber
number_given found values id low high is fits = is_number low high (one_of id found) fits (values id (number_parser low high) is)
