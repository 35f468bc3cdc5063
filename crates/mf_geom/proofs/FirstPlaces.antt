-- The first place at which a test answers true.
use Rattle.std.proofs.Common.{◌≡◌, ◌↔◌, ◌⊎◌, ℕ, zero, suc, ◌<◌, Bool, true, false, Option, Some, None, IfNone, IfSome, refl, sym, inl, inr, arith}
use Rattle.std.proofs.lemmas.Bool.{cases_Bool, cases_lt, both_ways, false_from_ne_true}
use Rattle.std.specs.Option.{option_or}
use Rattle.mf_geom.specs.Faults.{first_place}
use Rattle.mf_geom.specs.Lawful.{IsFirst}

pub first_place-none : (n : ℕ) (test : ℕ → Bool) → ((i : ℕ) → i < n → test i ≡ false) → first_place n test ≡ None
unfolding first_place
first_place-none zero test fails = refl
first_place-none (suc n) test fails =
    let front = first_place-none n test (λ i below. fails i (omega arith)) in
    let last = fails n (omega arith) in
    rw (front, last) refl

first_place-some : (n : ℕ) (test : ℕ → Bool) (i : ℕ) → i < n → test i ≡ true → ((k : ℕ) → k < i → test k ≡ false) → first_place n test ≡ Some i
unfolding first_place
first_place-some zero test i below here before = absurd (omega arith)
first_place-some (suc n) test i below here before =
    elim (cases_lt i n) [
      | inl inner ↦ let front = first_place-some n test i inner here before in rw front refl
      | inr outer ↦
          let last : i ≡ n = omega arith in
          let front = first_place-none n test (λ k first. before k (omega arith)) in
          let passes : test n ≡ true = rw last at here in
          rw (front, passes, last) refl
    ]

-- where T and F say what the two answers of the test mean
pub first_place-is : (r : Option ℕ) (n : ℕ) (test : ℕ → Bool) {T F : ℕ → Type 0} → IfNone r ((k : ℕ) → k < n → F k)
    → IfSome r (λ i. (i < n) × T i × ((k : ℕ) → k < i → F k)) → ((k : ℕ) → T k → test k ≡ true) → ((k : ℕ) → F k → test k ≡ false)
    → r ≡ first_place n test
first_place-is None n test none some at_true at_false = sym (first_place-none n test (λ i below. at_false i (none i below)))
first_place-is (Some i) n test none some at_true at_false =
    sym (first_place-some n test i some.0 (at_true i some.1) (λ k before. at_false k (some.2 k before)))

pub neither : {A : Type 0} (first later : Option A) → option_or first later ≡ None → (first ≡ None) × (later ≡ None)
neither None later none = (refl, none)
neither (Some x) later none = absurd cc

-- where there is no first place, the test answers false everywhere
pub none_passes : (n : ℕ) (test : ℕ → Bool) → first_place n test ≡ None → (i : ℕ) → i < n → test i ≡ false
unfolding first_place
none_passes zero test none i below = absurd (omega arith)
none_passes (suc n) test none i below =
    let parts = neither (first_place n test) _ none in
    let last_fails : test n ≡ false = (let last = parts.1 in grind arith) in
    elim (cases_lt i n) [
      | inl inner ↦ none_passes n test parts.0 i inner
      | inr outer ↦ let last : i ≡ n = omega arith in rw last last_fails
    ]

-- the test answers true at a first place below n
record Found (n : ℕ) (test : ℕ → Bool) : Type 0 where
  place : ℕ
  below : place < n
  here : test place ≡ true
  before : (k : ℕ) → k < place → test k ≡ false

search : (n : ℕ) (test : ℕ → Bool) → ((i : ℕ) → i < n → test i ≡ false) ⊎ Found n test
search zero test = inl (λ i below. absurd (omega arith))
search (suc n) test =
    elim (search n test) [
      | inr found ↦ inr (record { place = found.place; below = let within = found.below in omega arith; here = found.here; before = found.before })
      | inl fails ↦
          elim (cases_Bool (test n)) [
            | inl last ↦ inr (record { place = n; below = omega arith; here = last; before = fails })
            | inr last ↦ inl (λ i below. elim (cases_lt i n) [
              | inl inner ↦ fails i inner
              | inr outer ↦ let same : i ≡ n = omega arith in rw same last
            ])
          ]
    ]

-- where P says what the answer true means
pub first_place-first : (n : ℕ) (test : ℕ → Bool) {P : ℕ → Type 0} (i : ℕ) → ((k : ℕ) → P k ↔ test k ≡ true) → IsFirst n P i → first_place n test ≡ Some i
first_place-first n test i means first =
    first_place-some n test i first.below ((means i).0 first.here)
    (λ k before. false_from_ne_true _ (λ passes. first.none_before k before ((means k).1 passes)))

pub first-first_place : (n : ℕ) (test : ℕ → Bool) {P : ℕ → Type 0} (i : ℕ) → ((k : ℕ) → P k ↔ test k ≡ true) → first_place n test ≡ Some i → IsFirst n P i
first-first_place n test i means is =
    elim (search n test) [
      | inl fails ↦ absurd (let none = first_place-none n test fails in grind (arith))
      | inr found ↦
          let other = first_place-some n test found.place found.below found.here found.before in
          let same : i ≡ found.place = grind (arith) in
          rw same record {
            below = found.below;
            here = (means _).1 found.here;
            none_before = λ k before holds. both_ways _ (found.before k before) ((means k).0 holds);
          }
    ]
