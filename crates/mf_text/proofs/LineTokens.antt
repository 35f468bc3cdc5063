-- The tokens of a line, one at a time.
use Rattle.std.proofs.Common.{◌≡◌, ◌≢◌, ℕ, zero, suc, ◌+◌, ◌-◌, ◌<◌, ◌≤◌, true, false, eqb, List, [], ◌∷◌, length}
use Rattle.std.proofs.Common.{get_or, take, drop, refl, sym, ap, subst, ◌∙◌, arith, length-append, length-drop}
use Rattle.std.proofs.lemmas.Int.{ints}
use Rattle.std.proofs.lemmas.Bool.{ne_eqb}
use Rattle.std.proofs.lemmas.List.{take_rest}
use Rattle.mf_text.specs.Limits.{percent_sign}
use Rattle.mf_text.specs.Tokens.{IsClear, is_blank, SizedToken, token_at, first_token, tokens_within, tokens_from}
use Rattle.mf_text.proofs.TokenTexts.{Front, Other, Text, begins, front, text_first, unknown_first}

-- ---- how many bytes a token takes

-- the token takes at least one byte, and at most n
pub record TakesSome (n : ℕ) (t : SizedToken) : Type 0 where
  pub some : 0 < t.bytes
  pub within : t.bytes ≤ n

pub first_takes_some : (b : ℕ) (bs : List ℕ) → TakesSome (suc (length bs)) (first_token (b ∷ bs))
first_takes_some b bs = by_front (front (b ∷ bs)) where
  by_front : Front (b ∷ bs) → TakesSome (suc (length bs)) (first_token (b ∷ bs))
  by_front (Text t text further parts is) =
      subst (TakesSome (suc (length bs))) (sym (ap first_token parts ∙ text_first t text further is))
      (record { some = (begins t text further is).some; within = omega (arith, ap length parts, length-append text further) })
  by_front (Other no_letter no_digit none) =
      subst (TakesSome (suc (length bs))) (sym (unknown_first (b ∷ bs) no_letter no_digit none)) (omega arith)

-- ---- a line from its front

-- fewer bytes are left after the first token
pub rest_shorter : (b : ℕ) (bs : List ℕ) → length (drop (first_token (b ∷ bs)).bytes (b ∷ bs)) ≤ length bs
rest_shorter b bs = omega (arith, first_takes_some b bs, length-drop (first_token (b ∷ bs)).bytes (b ∷ bs))

-- any number of steps that is at least the number of bytes finds the same tokens
tokens_within-same : (m n column : ℕ) (bs : List ℕ) → length bs ≤ m → length bs ≤ n → tokens_within m column bs ≡ tokens_within n column bs
unfolding tokens_within
tokens_within-same zero zero column bs p q = refl
tokens_within-same zero (suc n) column [] p q = refl
tokens_within-same zero (suc n) column (b ∷ bs) p q = absurd (omega arith)
tokens_within-same (suc m) zero column [] p q = refl
tokens_within-same (suc m) zero column (b ∷ bs) p q = absurd (omega arith)
tokens_within-same (suc m) (suc n) column [] p q = refl
tokens_within-same (suc m) (suc n) column (b ∷ bs) p q =
    let first = first_token (b ∷ bs) in
    let shorter = rest_shorter b bs in
    rw (
      tokens_within-same m n (column + 1) bs (omega arith) (omega arith),
      tokens_within-same m n (column + first.bytes) (drop first.bytes (b ∷ bs)) (omega arith) (omega arith),
    ) refl

pub tokens_of_blank : (column b : ℕ) (bs : List ℕ) → is_blank b ≡ true → tokens_from column (b ∷ bs) ≡ tokens_from (column + 1) bs
unfolding tokens_from tokens_within
tokens_of_blank column b bs blank = rw blank refl

pub tokens-step : (column b : ℕ) (bs : List ℕ) → is_blank b ≡ false → eqb b percent_sign ≡ false
    → tokens_from column (b ∷ bs) ≡ token_at column (first_token (b ∷ bs))
    ∷ tokens_from (column + (first_token (b ∷ bs)).bytes) (drop (first_token (b ∷ bs)).bytes (b ∷ bs))
unfolding tokens_from tokens_within
tokens-step column b bs clear token = grind (arith, ints, tokens_within-same, rest_shorter)

-- ---- the tokens that are left

pub tokens_at_end : (column : ℕ) (text : List ℕ) → length text < 1 → tokens_from column text ≡ []
unfolding tokens_from tokens_within
tokens_at_end column [] short = refl
tokens_at_end column (b ∷ bs) short = absurd (omega arith)

pub tokens_at_comment : (column : ℕ) (text : List ℕ) → 1 ≤ length text → get_or text 0 0 ≡ percent_sign → tokens_from column text ≡ []
unfolding tokens_from tokens_within
tokens_at_comment column [] long comment = absurd (omega arith)
tokens_at_comment column (b ∷ bs) long comment = rw comment refl

pub tokens_at_blank : (column : ℕ) (text : List ℕ) → 1 ≤ length text → is_blank (get_or text 0 0) ≡ true
    → tokens_from (column + 1) (take (length text - 1) (drop 1 text)) ≡ tokens_from column text
tokens_at_blank column [] long blank = absurd (omega arith)
tokens_at_blank column (b ∷ bs) long blank = rw (take_rest (b ∷ bs) 1) (sym (tokens_of_blank column b bs blank))

pub tokens_at_token : (column : ℕ) (text : List ℕ) → IsClear text → 1 ≤ length text → get_or text 0 0 ≢ percent_sign
    → tokens_from column text ≡ token_at column (first_token text) ∷ tokens_from (column + (first_token text).bytes) (drop (first_token text).bytes text)
tokens_at_token column [] clear long token = absurd (omega arith)
tokens_at_token column (b ∷ bs) clear long token = tokens-step column b bs clear (ne_eqb b percent_sign token)
