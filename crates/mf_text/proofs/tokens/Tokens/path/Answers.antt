use Rattle.std.proofs.Common.{◌++◌, ◌∷◌, [], ◌∙◌, true, false, ap, map, refl, subst, sym, rules, arith}
use Rattle.mf_text.specs.Grammar.{pair_value}
use Rattle.mf_text.specs.Reads.{HasPoints}
use Rattle.mf_text.proofs.Reading.{one_longer, passes_no_path, path_goes_on}
use Rattle.mf_text.proofs.tokens.Tokens.path.Goals as goal
use Rattle.std.proofs.lemmas.Int.{ints}

pub corners-init : goal.corners-init
corners-init c = record {
  points = [];
  has = c.new-path.ensures;
  path_of = λ p ps. record { first = p; others = ps };
  value_is = λ p ps. refl;
  read = λ next. c.in_ok-pass_mark.ensures.read _;
}

pub returns-in_err-rest_of_corner : goal.returns-in_err-rest_of_corner
returns-in_err-rest_of_corner c = grind (arith, ints)

pub corners-preserved : goal.corners-preserved
corners-preserved c =
    let so_far = c.corners.invariant in
    let p = c.in_ok-rest_of_corner.field-0 in
    record {
      points = so_far.points ++ c.value.result ∷ [];
      has = c.push.ensures _ so_far.has;
      path_of = λ q qs. so_far.path_of p (q ∷ qs);
      value_is = λ q qs. so_far.value_is p (q ∷ qs) ∙ one_longer so_far.points c.value.result (pair_value p) (map pair_value (q ∷ qs)) c.value.ensures;
      read = path_goes_on _ _ _ so_far p c.rest_of_corner.new.self c.takes_mark.new.self _ c.in_ok-rest_of_corner.ensures.read
          c.takes_mark.ensures.read true (search rules);
    }

pub returns-in_err-pass_word : goal.returns-in_err-pass_word
returns-in_err-pass_word c =
    passes_no_path c.args.self.now c.pass_word.new.self c.from_residual-in_err-pass_word.result c.in_err-pass_word.field-0.0
    c.from_residual-in_err-pass_word.ensures.1
    (λ next. path_goes_on _ _ _ c.corners.invariant _ c.rest_of_corner.new.self c.takes_mark.new.self _ c.in_ok-rest_of_corner.ensures.read
    c.takes_mark.ensures.read false (search rules) next ∙ c.in_err-pass_word.ensures _)

pub returns : goal.returns
returns c =
    let so_far = c.corners.invariant in
    let p = c.in_ok-rest_of_corner.field-0 in
    record {
      tree = so_far.path_of p [];
      points = subst (HasPoints c.push.new.self) (ap (λ v. so_far.points ++ v ∷ []) c.value.ensures ∙ sym (so_far.value_is p [])) (c.push.ensures _ so_far.has);
      passed = λ next. path_goes_on _ _ _ so_far p c.rest_of_corner.new.self c.takes_mark.new.self _ c.in_ok-rest_of_corner.ensures.read
          c.takes_mark.ensures.read false (search rules) next ∙ c.in_ok-pass_word.ensures _;
    }
