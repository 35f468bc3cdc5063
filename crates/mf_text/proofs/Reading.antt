-- What a line gives at its next token, and after phrases.
use Rattle.std.proofs.Common.{◌≡◌, ◌≢◌, ℕ, ◌-◌, ◌<◌, true, false, List, [], ◌∷◌, ◌++◌, length, map, Option, Some, None}
use Rattle.std.proofs.Common.{Result, Ok, Err, Bool, if◌then◌else◌, refl, sym, ap, ◌∙◌, append_assoc, arith}
use Rattle.std.proofs.lemmas.Int.{ints}
use Rattle.std.specs.Option.{option_map}
use Rattle.std.specs.Result.{IsErrAnd}
use Rattle.std.proofs.lemmas.Option.{none-some, same_Some}
use Rattle.mf_geom.proofs.FirstFaults.{form_fault-many}
use Rattle.mf_geom.specs.declared.point.Point.{Point}
use Rattle.mf_text.specs.declared.fault.SyntaxFault.{SyntaxFault}
use Rattle.mf_text.specs.declared.path.Path as paths
use Rattle.mf_text.specs.declared.token.Mark.TheVariants as mark
use Rattle.mf_text.specs.declared.token.Word.TheVariants as word
use Rattle.mf_text.specs.declared.tokens.Tokens.{Tokens}
use Rattle.mf_text.specs.Grammar.{Line, Path, path_value, Code, Name, Current, Register, Pair, pair_value, name_token}
use Rattle.mf_text.specs.Reads.{HasPoints, PassesPath, PassesPhrase, TakesToken, TakesValue, ahead, remaining_tokens, next_value}
use Rattle.mf_text.specs.Rests.{Kind, Of, This, Codes, Rest, Take, OrTake, Corners, One, Or, CodeNumber}
use Rattle.mf_text.specs.Rests.{Ends, rest_of_corner, path, follow, from, is_code_number, step, value}
use Rattle.mf_text.specs.Token.{Ahead, PlacedToken, Token, column_of, letter_in, name_in, this_in, value_in}
use Rattle.mf_text.specs.Token as token
use Rattle.mf_text.proofs.Rests.{name_is_this, name_of, this_only}

-- ---- the value of the next token

-- what holds where the first token has this value
at_first : {A : Type 0} (f : Token → Option A) (a : A) (P : List PlacedToken → Ahead → Type 0)
    → ((p : PlacedToken) (ps : List PlacedToken) → f p.token ≡ Some a → P (p ∷ ps) (record { tokens = ps; past = p.after }))
    → (ps : List PlacedToken) (after : Ahead) → next_value f ps ≡ Some (a, after) → P ps after
at_first f a P there [] after is = absurd (none-some (a, after) is)
at_first {A} f a P there (p ∷ ps) after is = grind (arith, ints, none-some, same_Some)

-- what a line gives where its next token has a value
passes : (r : Rest) (k : Kind) (next : Of k → Rest) → ((t : Token) (a : Of k) → value k t ≡ Some a → step r t ≡ Some (next a))
    → (old new : Tokens) (a : Of k) → TakesValue (value k) old new (Some a) → from r (ahead old) ≡ from (next a) (ahead new)
unfolding follow
passes r k next allows old new a is = grind (arith, ints, at_first)

-- what it gives where its next token has none
misses : (r : Rest) (k : Kind) (out : Ahead → Result Line ℕ)
    → ((past : ℕ) → from r (record { tokens = []; past = past }) ≡ out (record { tokens = []; past = past }))
    → ((p : PlacedToken) (ps : List PlacedToken) (past : ℕ) → value k p.token ≡ None
    → from r (record { tokens = p ∷ ps; past = past }) ≡ out (record { tokens = p ∷ ps; past = past }))
    → (old new : Tokens) → TakesValue (value k) old new None → from r (ahead old) ≡ out (ahead new)
misses r k out ended goes_on old new (none, same) = grind (arith, ints, none-some)

-- the line goes wrong at its next token
abbrev stuck : Ahead → Result Line ℕ
stuck ahead = Err (column_of ahead.tokens ahead.past)

module _ (k : Kind) (next : Of k → Rest) where
  pub from_take : (old new : Tokens) (a : Of k) → TakesValue (value k) old new (Some a) → from (Take k next) (ahead old) ≡ from (next a) (ahead new)
  from_take = passes (Take k next) k next (λ t a is. rw is refl)

  pub from_take_none : (old new : Tokens) → TakesValue (value k) old new None
      → from (Take k next) (ahead old) ≡ Err (column_of (remaining_tokens new) new.column)
  unfolding follow
  from_take_none = misses (Take k next) k stuck (λ _. refl) (λ p ps past none. rw (none, follow) refl)

  pub from_or_take : (other : Rest) (old new : Tokens) (a : Of k) → TakesValue (value k) old new (Some a)
      → from (OrTake k next other) (ahead old) ≡ from (next a) (ahead new)
  from_or_take other = passes (OrTake k next other) k next (λ t a is. rw is refl)

  pub from_or_take_none : (other : Rest) (old new : Tokens) → TakesValue (value k) old new None
      → from (OrTake k next other) (ahead old) ≡ from other (ahead new)
  unfolding follow
  from_or_take_none other = misses (OrTake k next other) k (from other) (λ _. refl) (λ p ps past none. rw (none, follow) refl)

module _ (u : Token) (this : Rest) where
  pub from_one : (old new : Tokens) → TakesToken u old new true → from (One u this) (ahead old) ≡ from this (ahead new)
  from_one old new = passes (One u this) (This u) (λ _. this) (λ t a is. rw is refl) old new tt

  pub from_one_none : (old new : Tokens) → TakesToken u old new false → from (One u this) (ahead old) ≡ Err (column_of (remaining_tokens new) new.column)
  unfolding follow
  from_one_none = misses (One u this) (This u) stuck (λ _. refl) (λ p ps past none. rw (none, follow) refl)

  pub from_or : (other : Rest) (old new : Tokens) → TakesToken u old new true → from (Or u this other) (ahead old) ≡ from this (ahead new)
  from_or other old new = passes (Or u this other) (This u) (λ _. this) (λ t a is. rw is refl) old new tt

  pub from_or_none : (other : Rest) (old new : Tokens) → TakesToken u old new false → from (Or u this other) (ahead old) ≡ from other (ahead new)
  unfolding follow
  from_or_none other = misses (Or u this other) (This u) (from other) (λ _. refl) (λ p ps past none. rw (none, follow) refl)

-- fewer tokens remain after one
pub next_value_fewer : {A : Type 0} (f : Token → Option A) (a : A) (ps : List PlacedToken) (after : Ahead) → next_value f ps ≡ Some (a, after)
    → length after.tokens < length ps
next_value_fewer f a ps after is = at_first f a (λ qs on. length on.tokens < length qs) (λ p qs value. omega arith) ps after is

-- where each token with the value a also has the value b, taking a takes b
next_value_as : {A B : Type 0} (f : Token → Option A) (g : Token → Option B) (a : A) (b : B) → ((t : Token) → f t ≡ Some a → g t ≡ Some b)
    → (ps : List PlacedToken) (after : Ahead) → next_value f ps ≡ Some (a, after) → next_value g ps ≡ Some (b, after)
next_value_as f g a b same ps after is = grind (arith, ints, at_first)

-- ---- names

letter_name : (t : Token) (n : ℕ) → letter_in t ≡ Some n → name_in t ≡ Some (Register n)
letter_name (token.Letter m) n is = ap (λ k. Some (Register k)) (same_Some m n is)
letter_name t n is = absurd (none-some n is)

pub next_letter_is_name : (ps : List PlacedToken) (n : ℕ) (after : Ahead) → next_value letter_in ps ≡ Some (n, after)
    → next_value name_in ps ≡ Some (Register n, after)
next_letter_is_name ps n after is = next_value_as letter_in name_in n (Register n) (λ t. letter_name t n) ps after is

pub next_current_is_name : (ps : List PlacedToken) (after : Ahead) → next_value (this_in (token.Word word.CurrentPicture)) ps ≡ Some (tt, after)
    → next_value name_in ps ≡ Some (Current, after)
next_current_is_name =
    next_value_as (this_in (token.Word word.CurrentPicture)) name_in tt Current (λ t is. ap name_in (this_only (token.Word word.CurrentPicture) t is))

no_name : (t : Token) → this_in (token.Word word.CurrentPicture) t ≡ None → letter_in t ≡ None → name_in t ≡ None
no_name (token.Word word.CurrentPicture) other none = absurd (none-some tt (sym other))
no_name (token.Letter n) other none = absurd (none-some n (sym none))
no_name t other none = refl

pub no_next_name : (ps : List PlacedToken) → next_value (this_in (token.Word word.CurrentPicture)) ps ≡ None → next_value letter_in ps ≡ None
    → next_value name_in ps ≡ None
no_next_name [] other none = refl
no_next_name (p ∷ ps) other none = grind (arith, ints, no_name, none-some)

-- a given name is the next token exactly where it is the name that the token is
pub next_name_is_this : (name : Name) (ps : List PlacedToken) (after : Ahead) → next_value name_in ps ≡ Some (name, after)
    → next_value (this_in (name_token name)) ps ≡ Some (tt, after)
next_name_is_this name ps after is = next_value_as name_in (this_in (name_token name)) name tt (λ t. name_is_this t name) ps after is

pub next_name_is_other : (name : Name) (old after : Tokens) (r : Option Name) → TakesValue name_in old after r
    → (r ≡ Some name → ⊥) → TakesValue (this_in (name_token name)) old old None
next_name_is_other name old after r took other = grind (arith, ints, none-some, same_Some, next_value_as, this_only, name_of)

-- what the search needs where a name is taken, or a given one
pub ruleset takes_name = (next_letter_is_name, next_current_is_name, no_next_name, from_or_take, from_or_take_none)

pub ruleset takes_same_name = (from_one, from_one_none, next_name_is_this, next_name_is_other)

-- ---- the end of a line

pub from_ends : (line : Line) (past : ℕ) (ps : List PlacedToken) → ps ≡ [] → from (Ends line) (record { tokens = ps; past = past }) ≡ Ok line
unfolding follow
from_ends line past ps none = ap (λ qs. from (Ends line) (record { tokens = qs; past = past })) none

pub from_ends_wrong : (line : Line) (past : ℕ) (ps : List PlacedToken) → ps ≢ []
    → from (Ends line) (record { tokens = ps; past = past }) ≡ Err (column_of ps past)
unfolding follow
from_ends_wrong line past [] some = absurd (some refl)
from_ends_wrong line past (p ∷ ps) some = refl

-- ---- the number of a code after its `-`

-- a number is reported at the `-`, and any other token where it is
abbrev on_number : Ahead → Option (ℕ × Ahead) → Result Line ℕ
on_number ahead None = stuck ahead
on_number ahead (Some n) = Err (ahead.past - 1)

module _ (next : Code → Rest) (old same : Tokens) where
  pub from_code_number : (code : Code) → TakesValue (value (Codes true)) old same (Some code)
      → from (CodeNumber next) (ahead old) ≡ from (next code) (ahead same)
  from_code_number = passes (CodeNumber next) (Codes true) next (λ t a is. rw is refl) old same

  from_code_number_none : TakesValue (value (Codes true)) old same None
      → from (CodeNumber next) (ahead old) ≡ on_number (ahead same) (next_value value_in (remaining_tokens same))
  unfolding follow
  from_code_number_none =
      misses (CodeNumber next) (Codes true) (λ on. on_number on (next_value value_in on.tokens)) (λ _. refl)
      (λ p ps past none. rw (none, follow) (by_token p ps past p.token)) old same where
        by_token : (p : PlacedToken) (ps : List PlacedToken) (past : ℕ) (t : Token) → Err (if is_code_number (CodeNumber next) t then past - 1 else p.column)
            ≡ on_number (record { tokens = p ∷ ps; past = past }) (option_map {U = ℕ × Ahead} (λ n. (n, record { tokens = ps; past = p.after })) (value_in t))
        by_token p ps past (token.Number n) = refl
        by_token p ps past t = refl

  pub from_bad_code : (after : Tokens) (n : ℕ) → TakesValue (value (Codes true)) old same None → TakesValue value_in same after (Some n)
      → from (CodeNumber next) (ahead old) ≡ Err (same.column - 1)
  from_bad_code after n none found = from_code_number_none none ∙ ap (on_number (ahead same)) found

  pub from_no_code : (after : Tokens) → TakesValue (value (Codes true)) old same None → TakesValue value_in same after None
      → from (CodeNumber next) (ahead old) ≡ Err (column_of (remaining_tokens same) same.column)
  from_no_code after none lacking = from_code_number_none none ∙ ap (on_number (ahead same)) lacking.0

-- ---- the corners of a path

-- one more corner, or `cycle`, where the path has these corners after those that were passed
abbrev pub corners_after : (Pair → List Pair → Path) → (Path → Rest) → Pair → Rest
corners_after path_of next p = Corners (λ ps. next (path_of p ps))

-- some corners of a path were passed and kept, with these points, and the `(` of one more was passed
pub record IsInPath (old now : Tokens) (kept : paths.Path) : Type 0 where
  pub points : List Point
  pub has : HasPoints kept points
  -- the path, by its corners from here on
  pub path_of : Pair → List Pair → Path
  pub value_is : (p : Pair) (ps : List Pair) → path_value (path_of p ps) ≡ points ++ pair_value p ∷ map pair_value ps
  pub read : (next : Path → Rest) → from (path next) (ahead old) ≡ from (rest_of_corner (corners_after path_of next)) (ahead now)

corners_or : (next : List Pair → Rest) (past : ℕ) (ps : List PlacedToken) → from (Corners next) (record { tokens = ps; past = past })
    ≡ from (Or (token.Mark mark.Open) (rest_of_corner (λ p. Corners (λ qs. next (p ∷ qs)))) (One (token.Word word.Cycle) (next [])))
    (record { tokens = ps; past = past })
unfolding follow
corners_or next past [] = refl
corners_or next past (p ∷ ps) = refl

-- what a line gives after one more corner of a path: at the `(` of the next one, or at the `cycle` after the last one
pub path_goes_on : (old now : Tokens) (kept : paths.Path) (so_far : IsInPath old now kept) (p : Pair) (between after : Tokens) (passes : Bool)
    → PassesPhrase rest_of_corner now between (Ok p)
    → ((this other : Rest) → from (Or (token.Mark mark.Open) this other) (ahead between) ≡ from (if passes then this else other) (ahead after))
    → (more : Bool) → passes ≡ more → (next : Path → Rest) → from (path next) (ahead old)
    ≡ from (if more then rest_of_corner (corners_after (λ q qs. so_far.path_of p (q ∷ qs)) next)
    else One (token.Word word.Cycle) (next (so_far.path_of p []))) (ahead after)
path_goes_on old now kept so_far p between after passes corner read more is next =
    so_far.read next ∙ corner (corners_after so_far.path_of next)
    ∙ corners_or (λ ps. next (so_far.path_of p ps)) between.column (remaining_tokens between) ∙ rw (sym is) (read _ _)

pub passes_no_path : (before after : Tokens) (r : Result paths.Path SyntaxFault) (fault : SyntaxFault) → IsErrAnd r (λ y. y ≡ fault)
    → ((next : Path → Rest) → from (path next) (ahead before) ≡ Err fault.column) → PassesPath before after r
passes_no_path before after (Ok kept) fault none wrong = absurd none
passes_no_path before after (Err e) fault same wrong = λ next. wrong next ∙ ap (λ (f : SyntaxFault). Err f.column) (sym same)

pub one_longer : (points : List Point) (v w : Point) (ws : List Point) → v ≡ w → points ++ w ∷ ws ≡ (points ++ v ∷ []) ++ ws
one_longer points v w ws is = rw is (sym (append_assoc points (w ∷ []) ws))

-- what the search needs where a path has more points than a cycle may have
pub ruleset many_points = (form_fault-many)
