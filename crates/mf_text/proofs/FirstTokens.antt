-- The token at the front of bytes that do not begin with a blank, and what is ahead there.
use Rattle.std.proofs.Common.{◌≡◌, ℕ, ◌+◌, ◌<◌, true, List, [], ◌∷◌, drop, length, Option, None, Some, refl, sym, ap, ◌∙◌, arith}
use Rattle.std.proofs.lemmas.Int.{ints}
use Rattle.std.specs.Option.{option_map}
use Rattle.std.proofs.lemmas.Bool.{cases_Bool, eqb-true}
use Rattle.mf_text.specs.declared.tokens.Tokens.{Tokens}
use Rattle.mf_text.specs.Reads.{TakesToken, TakesValue, ahead, next_value, remaining_tokens}
use Rattle.mf_text.specs.Token.{Ahead, Token, Unknown, this_in}
use Rattle.mf_text.specs.Tokens.{Finds, FindsToken, IsClear, first_token, mark_among, token_at, tokens_from}
use Rattle.mf_text.proofs.LineTokens.{tokens_at_comment, tokens_at_end, tokens-step}
use Rattle.mf_text.proofs.Reading.{next_value_fewer, from_or_none, from_or}

-- the token at the front is the first that remains, unless none does
data IsAtFront (column : ℕ) (text : List ℕ) : Type 0 where
  Ended : tokens_from column text ≡ [] → (first_token text).token ≡ Unknown → IsAtFront column text
  Remains : tokens_from column text ≡ token_at column (first_token text) ∷ tokens_from (column + (first_token text).bytes) (drop (first_token text).bytes text)
      → IsAtFront column text

first : (column : ℕ) (text : List ℕ) → IsClear text → IsAtFront column text
unfolding first_token mark_among
first column [] clear = Ended (tokens_at_end column [] (omega arith)) refl
first column (b ∷ bs) clear = grind (arith, ints, cases_Bool, tokens_at_comment, eqb-true, tokens-step)

module _ (old : Tokens) (column : ℕ) (text : List ℕ) (same : remaining_tokens old ≡ tokens_from column text) (clear : IsClear text) where
  abbrev bytes : ℕ
  bytes = (first_token text).bytes

  -- what is ahead after the token at the front
  abbrev onward : Ahead
  onward = record { tokens = tokens_from (column + bytes) (drop bytes text); past = column + bytes }

  onward_is : (new : Tokens) (n : ℕ) → n ≡ bytes → new.unread.now ≡ drop n text → new.column ≡ column + n → onward ≡ ahead new
  onward_is new n is unread column_is = rw (column_is, unread, is) refl

  -- a value that the token at the front has, or lacks
  module _ {A : Type 0} (f : Token → Option A) (none : f Unknown ≡ None) where
    value_at : (v : Option A) → f (first_token text).token ≡ v → IsAtFront column text → next_value f (remaining_tokens old) ≡ option_map (λ a. (a, onward)) v
    value_at v is (Ended ended unknown) = ap (next_value f) (same ∙ ended) ∙ ap (option_map (λ a. (a, onward))) (sym none ∙ sym (ap f unknown) ∙ is)
    value_at v is (Remains remains) = ap (next_value f) (same ∙ remains) ∙ ap (option_map (λ a. (a, onward))) is

    pub takes_no_value : f (first_token text).token ≡ None → TakesValue f old old None
    takes_no_value is = (value_at None is (first column text clear), refl)

    pub takes_value : (a : A) (new : Tokens) (n : ℕ) → Finds f text (Some (a, n)) → new.unread.now ≡ drop n text → new.column ≡ column + n
        → TakesValue f old new (Some a)
    takes_value a new n (found, size, _) unread column_is =
        value_at (Some a) found (first column text clear) ∙ ap (λ after. Some (a, after)) (onward_is new n size unread column_is)

  -- a token that is at the front
  module _ (u : Token) (none : this_in u Unknown ≡ None) where
    pub takes_token : (new : Tokens) (n : ℕ) → FindsToken u text (Some n) → new.unread.now ≡ drop n text → new.column ≡ column + n → TakesToken u old new true
    takes_token = takes_value (this_in u) none tt

    pub leaves_fewer : (new : Tokens) (n : ℕ) → FindsToken u text (Some n) → new.unread.now ≡ drop n text → new.column ≡ column + n
        → length (remaining_tokens new) < length (remaining_tokens old)
    leaves_fewer new n found unread column_is = next_value_fewer (this_in u) tt (remaining_tokens old) (ahead new) (takes_token new n found unread column_is)

-- what the search needs where a given token is taken, or is not there
pub ruleset takes_this = (takes_no_value, takes_token, from_or, from_or_none)
