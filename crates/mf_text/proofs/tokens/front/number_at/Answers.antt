use Rattle.std.proofs.Common.{◌≡◌, ◌∙◌, length, sym, arith}
use Rattle.mf_text.proofs.Digits.{finds_number, no_long_number, number-more}
use Rattle.mf_text.proofs.tokens.front.number_at.Goals as goal
use Rattle.std.proofs.lemmas.Int.{ints}
use Rattle.std.proofs.Math.Nat.{eq-or-lt_of_le}
use Rattle.std.proofs.lemmas.List.Sums.{prefix_len-le-length, prefix_len_passes}

pub returns-then-not-is_ascii_digit : goal.returns-then-not-is_ascii_digit
returns-then-not-is_ascii_digit c =
    rw c.number_of.ensures
    (finds_number _ _ _ c.loop-digits.invariant
    (grind (arith, ints, eq-or-lt_of_le, prefix_len_passes, sym c.is_ascii_digit.ensures.value ∙ c.if-not-is_ascii_digit.true)))

pub returns-then-digits-eq-MAX_DIGITS : goal.returns-then-digits-eq-MAX_DIGITS
returns-then-digits-eq-MAX_DIGITS c =
    no_long_number _ _ _ c.loop-digits.invariant c.if-digits-eq-MAX_DIGITS.true c.loop-digits-test.true
    (sym c.is_ascii_digit.ensures.value ∙ c.if-not-is_ascii_digit.false)

pub overflow_mul-value : goal.overflow_mul-value
overflow_mul-value c = grind (arith, ints, number-more)

pub overflow_add-value : goal.overflow_add-value
overflow_add-value c = grind (arith, ints, number-more)

pub loop-digits-preserved : goal.loop-digits-preserved
loop-digits-preserved c =
    let digit = sym c.is_ascii_digit.ensures.value ∙ c.if-not-is_ascii_digit.false in
    let goes_on = number-more _ _ _ c.loop-digits.invariant c.loop-digits-test.true digit c.if-digits-eq-MAX_DIGITS.false in
    rw c.from.ensures goes_on.more

pub returns : goal.returns
returns c =
    let ended : c.loop-digits.digits ≡ length c.args.text.now = omega (arith, c.loop-digits-test.false, c.loop-digits.auto.digits-end) in
    rw (c.number_of-2.ensures, sym ended) (finds_number _ _ _ c.loop-digits.invariant (grind (arith, ints, prefix_len-le-length)))
