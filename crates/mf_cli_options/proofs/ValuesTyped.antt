-- From the texts that clap's parsers accept to numbers, and from these to what the typed getter gives.
use Rattle.std.proofs.Common.{◌≡◌, ◌∙◌, ◌<◌, ◌≤◌, ◌^◌, ℕ, Bool, cond, IfSome, List, [], ◌∷◌, None, Ok, Err, Option}
use Rattle.std.proofs.Common.{Result, Some, arith, drop, false, pos, refl, subst, sym, true, unwrap_or}
use Rattle.std.proofs.lemmas.Bool.{ne_eqb}
use Rattle.std.proofs.lemmas.Int.{ints}
use Rattle.std.proofs.lemmas.Str.Parse.{digit_from_value}
use Rattle.std.specs.Str.Parse.{IsNumeral, ParsesUnsigned, starts_with_minus, without_leading_plus}
use Rattle.clap.proofs.WalkLemmas.{one_text-rows}
use Rattle.clap.specs.Matches.{ReadsOne}
use Rattle.clap.specs.Values.{IsSignedIn}
use Rattle.clap.specs.Words.{Row, Text, one_of, one_text, rows_of, without_minus}
use Rattle.clap.specs.declared.parser.matches.Found.{Found}
use Rattle.mf_cli_options.specs.Values.{IsNumber, IsNumberIn, number_in, written_number}

without_minus_is : (t : Text) → without_minus t ≡ cond (starts_with_minus t) (drop 1 t) t
without_minus_is [] = refl
without_minus_is (x ∷ xs) = grind (arith, ints)

no_plus : (ds : Text) → IsNumeral 10 ds → without_leading_plus ds ≡ ds
no_plus [] h = refl
no_plus (d ∷ ds) h = grind (arith, ints, ne_eqb, digit_from_value)

-- a text that passed a range with no negative number is, without a minus sign, a number in it
pub in_range : (low high : ℕ) (raw : Text) → IsSignedIn (pos low) (pos high) raw → IsNumberIn low high (without_minus raw)
in_range low high raw passed = subst (IsNumberIn low high) (sym (without_minus_is raw)) (go (starts_with_minus raw) refl)
  where
    go : (b : Bool) → starts_with_minus raw ≡ b → IsNumberIn low high (cond (starts_with_minus raw) (drop 1 raw) raw)
    go true minus =
        let low_ok = rw minus at passed.2 in
        let high_ok = rw minus at passed.3 in
        let numeral : IsNumeral 10 (drop 1 raw) = rw minus at passed.0 in
        let bare = no_plus (drop 1 raw) numeral in
        rw (minus, bare) (numeral, omega (arith, ints), omega (arith, ints))
    go false minus =
        let low_ok = rw minus at passed.2 in
        let high_ok = rw minus at passed.3 in
        let numeral : IsNumeral 10 (without_leading_plus raw) = rw minus at passed.0 in
        rw minus (numeral, omega (arith, ints), omega (arith, ints))

-- a number in a range of 32 bits is a number of 32 bits
pub is_number : (low high : ℕ) (o : Option Text) → high < 2 ^ 32 → IfSome o (IsNumberIn low high) → IfSome o IsNumber
is_number low high None fits given = given
is_number low high (Some t) fits given = (given.0, omega arith)

-- and with a default in the range the number of the option is in it
pub in_bounds : (low high default : ℕ) (found : List Row) (id : Text) → low ≤ default → default ≤ high
    → IfSome (one_of id found) (IsNumberIn low high) → (low ≤ number_in found id default) × (number_in found id default ≤ high)
in_bounds low high default found id least most given = grind (arith, ints)

-- what `get_one` reads of a number, and the default where it reads nothing
pub number_read : (E : Type 0) (G : Text → Result ℕ E → Type 0) (f : Found) (id : Text) (default : ℕ) (r : Option ℕ)
    → (one_text f id ≡ None → r ≡ None) → ((t : Text) → one_text f id ≡ Some t → ReadsOne G t r)
    → ((t : Text) (x : Result ℕ E) → G t x → ParsesUnsigned 32 10 t x)
    → IfSome (one_of id (rows_of f)) IsNumber → unwrap_or r default ≡ number_in (rows_of f) id default
number_read E G f id default r none some only given = go (one_of id (rows_of f)) refl given
  where
    of_text : (t : Text) (o : Option ℕ) → IsNumber t → ReadsOne G t o → unwrap_or o default ≡ written_number t
    of_text t (Some n) is read = (only t (Ok n) read).1
    of_text t None is read = absurd (only t (Err read.0) read.1 is)

    go : (o : Option Text) → one_of id (rows_of f) ≡ o → IfSome o IsNumber → unwrap_or r default ≡ number_in (rows_of f) id default
    go None e has = rw (e, none (one_text-rows f id ∙ e)) refl
    go (Some t) e has = rw e (of_text t r has (some t (one_text-rows f id ∙ e)))
