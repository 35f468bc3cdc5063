-- The command line has plain options only, and the words give numbers to `--viewers`.
use Rattle.std.proofs.Common.{◌≡◌, IfSome, List, codes, refl, subst, true}
use Rattle.clap.specs.Words.{App, Row, is_simple_and_free, one_of}
use Rattle.mf_cli_options.specs.Options.{number_parser}
use Rattle.mf_cli_options.specs.Values.{AreValuesOf, IsNumberIn}
use Rattle.mf_cli.specs.CommandLine.{greatest_viewers, mfpic}

pub mfpic_is_plain : is_simple_and_free mfpic ≡ true
unfolding mfpic
mfpic_is_plain = refl

pub viewers_given : (app : App) (found : List Row) → app ≡ mfpic → AreValuesOf app.top.rules found
    → IfSome (one_of (codes "viewers") found) (IsNumberIn 0 greatest_viewers)
unfolding mfpic
viewers_given app found same values = subst (λ (a : App). AreValuesOf a.top.rules found) same values (codes "viewers") (number_parser 0 greatest_viewers) refl
