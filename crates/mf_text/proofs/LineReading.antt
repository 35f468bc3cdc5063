-- What tokens give: they are a line, or go wrong where no line continues them.
use Rattle.std.proofs.Common.{◌≡◌, ◌⊎◌, ◌&&◌, inl, inr, ℕ, zero, suc, ◌-◌, ◌<◌, ◌≤◌, Bool, true, false, List, [], ◌∷◌, ◌++◌, eqb}
use Rattle.std.proofs.Common.{get_or, length, take, Option, Some, None, Ok, Err, ok_or, if◌then◌else◌, refl, sym, ap, subst, ◌∙◌, arith}
use Rattle.std.proofs.lemmas.Int.{ints}
use Rattle.std.proofs.lemmas.Bool.{and_parts, eqb-true, false≢true}
use Rattle.std.proofs.lemmas.Option.{none-some, same_Some}
use Rattle.mf_text.specs.declared.token.Mark.TheVariants as mark
use Rattle.mf_text.specs.Token as token
use Rattle.mf_text.specs.declared.token.Word.TheVariants as word
use Rattle.mf_text.specs.Token.{Ahead, PlacedToken, Token, ahead_after, token_column, column_of}
use Rattle.mf_text.specs.Grammar.{Line, spell_line}
use Rattle.mf_text.specs.Lines.{line_ahead}
use Rattle.mf_text.specs.Rests.{Rest, follow, from, is_code_number, step, line}
use Rattle.mf_text.specs.Syntax.{IsLinePrefix, IsSyntaxFault, IsWrongAt, is_negative_code, report_place}
use Rattle.mf_text.specs.Tokens.{without_columns, tokens}
use Rattle.mf_text.specs.TokenTexts.{AreTokens, IsTokenText}
use Rattle.mf_text.proofs.Cuts.{are_tokens}
use Rattle.mf_text.proofs.Rests.{CanGoOn, is_code_number_at, line_to, rest_ends, reads}
use Rattle.mf_text.proofs.Sound.{is_coded, spell_line_is, spells_line}
use Rattle.mf_text.proofs.TokenTexts.{mark_length}

-- ---- lines are what is read

pub read_is_line : (ts : List Token) (l : Line) → reads (Some line) ts ≡ Some l → ts ≡ spell_line l
read_is_line ts l is = sym (spell_line_is ts [] line l spells_line is)

pub line_is_read : (ts : List Token) (l : Line) → ts ≡ spell_line l → reads (Some line) ts ≡ Some l
line_is_read ts l is = let some = line_to l in ap (reads (Some line)) (is ∙ spell_line_is some.tokens [] line l spells_line some.read) ∙ some.read

-- a list of tokens is at most one line
pub same_line : (l m : Line) → spell_line l ≡ spell_line m → l ≡ m
same_line l m same = same_Some l m (sym (line_is_read (spell_line l) l refl) ∙ line_is_read (spell_line l) m same)

goes_on_or_not : (r : Option Rest) (ts : List Token) → CanGoOn r ts ⊎ (CanGoOn r ts → ⊥)
unfolding reads
goes_on_or_not None ts = inr (λ on. none-some on.1.0 on.1.1)
goes_on_or_not (Some r) [] = inl (rest_ends r)
goes_on_or_not (Some r) (t ∷ ts) = goes_on_or_not (step r t) ts

is_line_prefix : (ts : List Token) → CanGoOn (Some line) ts → IsLinePrefix ts
is_line_prefix ts on = record { further = on.0; line = record { tree = on.1.0; spelled = read_is_line (ts ++ on.0) on.1.0 on.1.1 } }

prefix_goes_on : (ts : List Token) → IsLinePrefix ts → CanGoOn (Some line) ts
prefix_goes_on ts prefix = (prefix.further, (prefix.line.tree, line_is_read (ts ++ prefix.further) prefix.line.tree prefix.line.spelled))

pub line_prefix_or_not : (ts : List Token) → IsLinePrefix ts ⊎ (IsLinePrefix ts → ⊥)
line_prefix_or_not ts =
    elim (goes_on_or_not (Some line) ts) [
      | inl on ↦ inl (is_line_prefix ts on)
      | inr ends_here ↦ inr (λ prefix. ends_here (prefix_goes_on ts prefix))
    ]

-- ---- where tokens go wrong

record Wrong (r : Option Rest) (ts : List Token) (k : ℕ) : Type 0 where
  within : k ≤ length ts
  before : CanGoOn r (take k ts)
  wrong : k < length ts → CanGoOn r (take (suc k) ts) → ⊥
  unended : k ≡ length ts → (l : Line) → reads r ts ≡ Some l → ⊥

-- the column that is reported of the next token
abbrev report_column : Bool → Ahead → ℕ
report_column is_coded ahead = if is_coded then ahead.past - 1 else column_of ahead.tokens ahead.past

-- the tokens that must be this rest go wrong, which is reported at this column
record Stops (r : Rest) (past : ℕ) (ps : List PlacedToken) (column : ℕ) : Type 0 where
  place : ℕ
  at : Wrong (Some r) (without_columns ps) place
  column_is : column ≡ report_column (is_code_number_at (Some r) (without_columns ps) place) (ahead_after place ps past)

later : (r : Rest) (t : Token) (ts : List Token) (k : ℕ) → Wrong (step r t) ts k → Wrong (Some r) (t ∷ ts) (suc k)
unfolding reads
later r t ts k wrong = grind (arith, ints)

at_token : (r : Rest) (past : ℕ) (t : PlacedToken) (ps : List PlacedToken) (column : ℕ) (q : Option Rest) → step r t.token ≡ q
    → follow (ok_or q (report_column (is_code_number r t.token) (record { tokens = t ∷ ps; past = past }))) t.after ps ≡ Err column
    → ((s : Rest) → follow (Ok s) t.after ps ≡ Err column → Stops s t.after ps column) → Stops r past (t ∷ ps) column
unfolding reads is_code_number_at follow
at_token r past t ps column None is wrong after_it = grind (arith, ints, rest_ends, none-some, reads)
at_token r past t ps column (Some s) is wrong after_it = let stops = after_it s wrong in record {
  place = suc stops.place;
  at = later r t.token (without_columns ps) stops.place (subst (λ q. Wrong q (without_columns ps) stops.place) (sym is) stops.at);
  column_is = stops.column_is ∙ ap (λ q. report_column (is_code_number_at q (without_columns ps) stops.place) (ahead_after stops.place ps t.after)) (sym is);
}

stops : (r : Rest) (past : ℕ) (ps : List PlacedToken) (column : ℕ) → follow (Ok r) past ps ≡ Err column → Stops r past ps column
unfolding follow reads is_code_number_at
stops r past [] column is = grind (arith, ints, rest_ends, none-some)
stops r past (t ∷ ps) column is = at_token r past t ps column (step r t.token) refl is (λ s. stops s t.after ps column)

-- ---- a number after `code -` is reported at the `-`

negative_shows : (ts us : List Token) (l : Line) → is_negative_code ts ≡ true → reads (Some line) (take 4 ts ++ us) ≡ Some l
    → is_code_number_at (Some line) ts 4 ≡ true
unfolding reads is_code_number_at
negative_shows (token.Word word.Shipout ∷ token.Word word.NullPicture ∷ token.Word word.Code ∷ token.Mark mark.Minus ∷ token.Number n ∷ ts) us l is read = refl
negative_shows (token.Word word.Shipout ∷ token.Word word.CurrentPicture ∷ token.Word word.Code ∷ token.Mark mark.Minus ∷ token.Number n ∷ ts) us l is read =
    refl
negative_shows (token.Word word.Shipout ∷ token.Letter letter ∷ token.Word word.Code ∷ token.Mark mark.Minus ∷ token.Number n ∷ ts) us l is read = refl
negative_shows (token.Word word.Shipout ∷ s ∷ token.Word word.Code ∷ token.Mark mark.Minus ∷ token.Number n ∷ ts) us l is read = absurd (none-some l read)
negative_shows ts us l is read = absurd (false≢true is)

fourth_is_minus : (ts : List Token) → is_negative_code ts ≡ true → get_or ts 3 token.Unknown ≡ token.Mark mark.Minus
fourth_is_minus (token.Word word.Shipout ∷ s ∷ token.Word word.Code ∷ token.Mark mark.Minus ∷ token.Number n ∷ ts) is = refl
fourth_is_minus ts is = absurd (false≢true is)

-- a `-` is one byte
minus_ends : (k column past : ℕ) (bytes : List ℕ) (ps : List PlacedToken) → AreTokens column bytes ps
    → get_or (without_columns ps) k token.Unknown ≡ token.Mark mark.Minus
    → (ahead_after (suc k) ps past).past - 1 ≡ column_of (ahead_after k ps past).tokens (ahead_after k ps past).past
minus_ends k column past bytes [] cut is = absurd (let no = is in cc)
minus_ends zero column past bytes (p ∷ ps) (cut, later) is =
    let one = mark_length mark.Minus cut.text cut.further (subst (λ t. IsTokenText t cut.text cut.further) is cut.token) in
    omega (arith, cut.after_is, one)
minus_ends (suc k) column past bytes (p ∷ ps) (cut, later) is = minus_ends k p.after p.after cut.further ps later is

module _ (bytes : List ℕ) (column : ℕ) (found : Stops line 1 (tokens bytes) column) where
  abbrev ahead : Ahead
  ahead = line_ahead bytes

  abbrev ts : List Token
  ts = without_columns ahead.tokens

  abbrev is_shown : Bool
  is_shown = is_code_number_at (Some line) ts found.place

  -- the tokens go wrong at this place
  wrong_at : IsWrongAt ts found.place
  wrong_at = let at = found.at in record {
    within = at.within;
    before = is_line_prefix (take found.place ts) at.before;
    wrong = λ more prefix. at.wrong more (prefix_goes_on (take (suc found.place) ts) prefix);
    unended = λ whole line. at.unended whole line.tree (line_is_read ts line.tree line.spelled);
  }

  abbrev chosen : Bool → ℕ
  chosen shows = report_column shows (ahead_after found.place ahead.tokens 1)

  shows_before : is_shown ≡ true → column ≡ token_column ahead (report_place ts found.place)
  shows_before shows =
      let coded = is_coded ts [] line found.place spells_line shows in
      let fourth : found.place ≡ 4 = omega (arith, coded.1) in
      let third : report_place ts found.place ≡ 3 = rw (coded.0, fourth) refl in
      found.column_is ∙ ap chosen shows ∙ ap (λ k. (ahead_after k ahead.tokens 1).past - 1) fourth
      ∙ minus_ends 3 1 1 bytes ahead.tokens (are_tokens bytes) (fourth_is_minus ts coded.0) ∙ ap (token_column ahead) (sym third)

  shows_there : is_shown ≡ false → (bad : Bool) → (is_negative_code ts && eqb found.place 4) ≡ bad → column ≡ token_column ahead (report_place ts found.place)
  shows_there plain false good = found.column_is ∙ ap chosen plain ∙ ap (λ b. token_column ahead (if b then 3 else found.place)) (sym good)
  shows_there plain true bad =
      let parts = and_parts (is_negative_code ts) (eqb found.place 4) bad in
      let fourth = eqb-true found.place 4 parts.1 in
      let before = subst (λ k. CanGoOn (Some line) (take k ts)) fourth found.at.before in
      absurd (false≢true (sym plain ∙ ap (is_code_number_at (Some line) ts) fourth ∙ negative_shows ts before.0 before.1.0 parts.0 before.1.1))

  by_shown : (shows : Bool) → is_shown ≡ shows → column ≡ token_column ahead (report_place ts found.place)
  by_shown true shows = shows_before shows
  by_shown false plain = shows_there plain (is_negative_code ts && eqb found.place 4) refl

  syntax_fault : IsSyntaxFault ahead column
  syntax_fault = record { place = found.place; at = wrong_at; column_is = by_shown is_shown refl }

pub goes_wrong : (bytes : List ℕ) (column : ℕ) → from line (line_ahead bytes) ≡ Err column → IsSyntaxFault (line_ahead bytes) column
goes_wrong bytes column is = syntax_fault bytes column (stops line 1 (tokens bytes) column is)

-- ---- tokens that are followed to the end of a line are read as that line

follows : (r : Rest) (past : ℕ) (ps : List PlacedToken) (l : Line) → follow (Ok r) past ps ≡ Ok l → reads (Some r) (without_columns ps) ≡ Some l
unfolding follow reads
follows r past [] l is = grind (arith, ints)
follows r past (t ∷ ts) l is =
    let later : (s : Rest) → follow (Ok s) t.after ts ≡ Ok l → reads (Some s) (without_columns ts) ≡ Some l = λ s. follows s t.after ts l in
    grind (arith, ints)

pub is_line : (ahead : Ahead) (l : Line) → from line ahead ≡ Ok l → without_columns ahead.tokens ≡ spell_line l
is_line ahead l is = read_is_line (without_columns ahead.tokens) l (follows line ahead.past ahead.tokens l is)
