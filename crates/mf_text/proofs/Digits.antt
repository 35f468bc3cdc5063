-- Rows of at most nine digits, and their numbers.
use Rattle.std.proofs.Common.{◌≡◌, ◌≢◌, ℕ, ◌+◌, ◌-◌, ◌*◌, ◌^◌, ◌<◌, ◌≤◌, true, false, nat_lt}
use Rattle.std.proofs.Common.{if◌then◌else◌, None, Some, List, length, get_or, take, sym, subst, arith}
use Rattle.std.proofs.lemmas.Int.{ints}
use Rattle.std.specs.Char.{digit_value, is_ascii_digit}
use Rattle.std.specs.List.{prefix_len}
use Rattle.std.specs.Str.Parse.{AllDigits, digits_value}
use Rattle.std.proofs.lemmas.Bool.{cond_both, le-leb, ltb-false, ltb-true}
use Rattle.std.proofs.lemmas.Bool.Decides.{nat_tests}
use Rattle.std.proofs.lemmas.Int.Digits.{digits_more, digits_value_more}
use Rattle.std.proofs.lemmas.List.{length-take-le}
use Rattle.std.proofs.lemmas.List.Folds.{length-prefix_len}
use Rattle.std.proofs.lemmas.List.Sums.{prefix_len-le-length, prefix_len_stops}
use Rattle.std.proofs.lemmas.Str.{digit_value_digit}
use Rattle.std.proofs.lemmas.Str.Parse.{numerals_by_value, tells_digits, digits_value_short, digit_from_value}
use Rattle.mf_text.specs.Limits.{most_digits}
use Rattle.mf_text.specs.Token.{value_in}
use Rattle.mf_text.specs.Tokens.{Finds, first_token, number_token}
use Rattle.mf_text.proofs.Finds.{no_number}
use Rattle.mf_text.proofs.TokenTexts.{digits_first}

-- ---- the number of the digits at the front of a text

-- the first i bytes are digits, at most nine of them, with this value
pub record IsNumberTo (text : List ℕ) (i value : ℕ) : Type 0 where
  pub few : i ≤ most_digits
  pub in_prefix : i ≤ prefix_len is_ascii_digit text
  pub digits : AllDigits 10 (take i text)
  pub value_is : value ≡ digits_value 10 (take i text)

-- a digit at i continues the digits before it
digit_goes_on : (text : List ℕ) (i : ℕ) → i ≤ prefix_len is_ascii_digit text → i < length text → is_ascii_digit (get_or text i 0) ≡ true
    → i < prefix_len is_ascii_digit text
digit_goes_on text i in_prefix inside digit =
    let stops : i ≡ prefix_len is_ascii_digit text → is_ascii_digit (get_or text i 0) ≡ false =
    λ ends. subst (λ n. is_ascii_digit (get_or text n 0) ≡ false) (sym ends) (prefix_len_stops is_ascii_digit text 0 (omega (arith, ends, inside))) in
    grind (arith, ints)

-- one more digit, which is not the tenth
pub record HasNextDigit (text : List ℕ) (i value : ℕ) : Type 0 where
  pub digit : 48 ≤ get_or text i 0
  pub fits : 10 * value + (get_or text i 0 - 48) < 10 ^ most_digits
  pub more : IsNumberTo text (i + 1) (10 * value + (get_or text i 0 - 48))

pub number-more : (text : List ℕ) (i value : ℕ) → IsNumberTo text i value → i < length text → is_ascii_digit (get_or text i 0) ≡ true → i ≢ most_digits
    → HasNextDigit text i value
number-more text i value to inside digit not_last =
    let below : digit_value (get_or text i 0) < 10 = grind (arith, nat_tests) in
    let ranged = digit_from_value (get_or text i 0) below in
    let worth = digit_value_digit (get_or text i 0) ranged in
    let longer = digits_more 10 text i inside to.digits below in
    let few : length (take (i + 1) text) ≤ most_digits = omega (arith, to.few, not_last, length-take-le (i + 1) text (omega arith)) in
    let value_is : 10 * value + (get_or text i 0 - 48) ≡ digits_value 10 (take (i + 1) text) =
    omega (arith, worth, digits_value_more 10 text i inside, to.value_is, ranged.0) in
    record {
      digit = ranged.0;
      fits = omega (arith, value_is, digits_value_short (numerals_by_value (AllDigits 10) tells_digits) (take (i + 1) text) most_digits longer few);
      more = grind (arith, ints, digit_goes_on);
    }

-- the number that is found once all of its digits are passed
pub finds_number : (text : List ℕ) (i value : ℕ) → IsNumberTo text i value → i ≡ prefix_len is_ascii_digit text
    → Finds value_in text (if nat_lt 0 i then Some (value, i) else None)
unfolding number_token
finds_number text i value to ends =
    grind (arith, ints, cond_both, digits_first, ltb-true, no_number, ltb-false, length-prefix_len, le-leb, length-take-le, prefix_len-le-length)

-- with a tenth digit there is no number
pub no_long_number : (text : List ℕ) (i value : ℕ) → IsNumberTo text i value → i ≡ most_digits → i < length text
    → is_ascii_digit (get_or text i 0) ≡ true → value_in (first_token text).token ≡ None
no_long_number text i value to last inside digit = no_number text (λ some few. omega (arith, few, last, digit_goes_on text i to.in_prefix inside digit))
