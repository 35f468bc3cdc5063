-- Words, marks, letters and numbers at the front of bytes, as the reader finds them.
use Rattle.std.proofs.Common.{◌≡◌, ◌-◌, ◌<◌, ◌≤◌, ℕ, true, false, eqb, List, [], ◌∷◌, ◌++◌, None}
use Rattle.std.proofs.Common.{Some, length, length-append, get_or, take, drop, refl, sym, ap, subst, ◌∙◌, arith}
use Rattle.std.specs.Char.{is_ascii_alphabetic, is_ascii_digit}
use Rattle.std.specs.List.{prefix_len, starts_with}
use Rattle.std.proofs.Math.Seq.{drop-append_seam}
use Rattle.std.proofs.lemmas.Bool.{false_from_ne_true, false≢true, le-leb}
use Rattle.std.proofs.lemmas.Bool.Decides.{nat_tests}
use Rattle.std.proofs.lemmas.List.{take_rest}
use Rattle.std.proofs.lemmas.List.Elements.{All-cons, All-nil}
use Rattle.mf_text.specs.Limits.{letter_a, letter_z, most_digits}
use Rattle.mf_text.specs.Token as token
use Rattle.mf_text.specs.Token.{letter_in, value_in}
use Rattle.mf_text.specs.Tokens.{Finds, FindsToken, SizedToken, first_token, first_is, is_longer, mark_text, word_text, word_token, this_in, Mark, Token, Word}
use Rattle.mf_text.specs.TokenTexts.{AMark, IsTokenText, Letters}
use Rattle.mf_text.proofs.TokenTexts.{HasSingleLetter, HasTextOf, first_has_text, same_token, starts_with-append, starts_with-drop, text_first}
use Rattle.mf_text.proofs.TokenTexts.{token_is, word_letters}

-- ---- a word or a mark

no_token : (t : Token) (bs : List ℕ) → (HasTextOf t bs → ⊥) → this_in t (first_token bs).token ≡ None
no_token t bs never = rw (false_from_ne_true _ (λ is. never (subst (λ u. HasTextOf u bs) (token_is (first_token bs).token t is) (first_has_text bs)))) refl

finds_token : (t : Token) (bs text : List ℕ) → bs ≡ text ++ drop (length text) bs → IsTokenText t text (drop (length text) bs)
    → FindsToken t bs (Some (length text))
finds_token t bs text parts is =
    let first = ap first_token parts ∙ text_first t text (drop (length text) bs) is in
    let within : length text ≤ length bs = omega (arith, ap length parts, length-append text (drop (length text) bs)) in
    (ap (λ (f : SizedToken). this_in t f.token) first ∙ rw (same_token t) refl, sym (ap (λ (f : SizedToken). f.bytes) first), within)

-- whether a word is found, where these letters are its text
module _ (w : Word) (bs ls : List ℕ) (is : ls ≡ word_text w) where
  pub no_word : starts_with eqb bs ls ≡ false → this_in (token.Word w) (first_token bs).token ≡ None
  no_word lacks =
      no_token (token.Word w) bs (λ at. false≢true (sym lacks ∙ starts_with-append bs ls at.0 (at.1.0 ∙ ap (λ text. text ++ at.0) (sym is))))

  pub longer_word : first_is is_ascii_alphabetic (take (length bs - length ls) (drop (length ls) bs)) ≡ true
      → this_in (token.Word w) (first_token bs).token ≡ None
  longer_word longer =
      no_token (token.Word w) bs (λ at.
      let rest_is = ap (drop (length ls)) (at.1.0 ∙ ap (λ text. text ++ at.0) (sym is)) ∙ drop-append_seam ls at.0 in
      false≢true (sym at.1.1 ∙ ap (first_is is_ascii_alphabetic) (sym (take_rest bs (length ls) ∙ rest_is)) ∙ longer))

  pub finds_word : starts_with eqb bs ls ≡ true → first_is is_ascii_alphabetic (take (length bs - length ls) (drop (length ls) bs)) ≡ false
      → FindsToken (token.Word w) bs (Some (length ls))
  finds_word begun ends =
      finds_token (token.Word w) bs ls (starts_with-drop bs ls begun)
      (subst (λ text. IsTokenText (token.Word w) text (drop (length ls) bs)) (sym is)
      (word_letters w (drop (length ls) bs) (ap (first_is is_ascii_alphabetic) (sym (take_rest bs (length ls))) ∙ ends)))

-- whether a mark is found, where this is its text
module _ (m : Mark) (bs text : List ℕ) (is : text ≡ mark_text m) where
  pub no_mark : starts_with eqb bs text ≡ false → this_in (token.Mark m) (first_token bs).token ≡ None
  no_mark lacks = no_token (token.Mark m) bs (λ at. false≢true (sym lacks ∙ ap (starts_with eqb bs) is ∙ at.0))

  pub longer_mark : is_longer m bs ≡ true → this_in (token.Mark m) (first_token bs).token ≡ None
  longer_mark longer = no_token (token.Mark m) bs (λ at. false≢true (sym at.1 ∙ longer))

  pub finds_mark : starts_with eqb bs text ≡ true → is_longer m bs ≡ false → FindsToken (token.Mark m) bs (Some (length text))
  finds_mark begun short =
      let parts = starts_with-drop bs text begun in
      finds_token (token.Mark m) bs text parts (AMark m is (ap (is_longer m) (sym parts) ∙ short) refl)

-- ---- a letter

no_letter : (bs : List ℕ) → ((n : ℕ) → HasSingleLetter n bs → ⊥) → letter_in (first_token bs).token ≡ None
no_letter bs never = by_token (first_token bs).token (first_has_text bs) where
  by_token : (t : Token) → HasTextOf t bs → letter_in t ≡ None
  by_token (token.Letter n) is = absurd (never n is)
  by_token t is = refl

pub no_small_letter : (bs : List ℕ) → (1 ≤ length bs → letter_a ≤ get_or bs 0 0 → get_or bs 0 0 ≤ letter_z → ⊥) → letter_in (first_token bs).token ≡ None
no_small_letter bs never = no_letter bs (λ n is. never is.some is.least is.greatest)

pub longer_letters : (bs : List ℕ) → 1 ≤ length bs → first_is is_ascii_alphabetic (take (length bs - 1) (drop 1 bs)) ≡ true
    → letter_in (first_token bs).token ≡ None
longer_letters bs some longer = no_letter bs (λ n is. false≢true (sym is.longest ∙ ap (first_is is_ascii_alphabetic) (sym (take_rest bs 1)) ∙ longer))

pub finds_letter : (bs : List ℕ) → 1 ≤ length bs → letter_a ≤ get_or bs 0 0 → get_or bs 0 0 ≤ letter_z
    → first_is is_ascii_alphabetic (take (length bs - 1) (drop 1 bs)) ≡ false
    → Finds letter_in bs (Some (get_or bs 0 0 - letter_a, 1))
unfolding word_token
finds_letter [] some least greatest ends = absurd (omega arith)
finds_letter (b ∷ bs) some least greatest ends =
    let letter : is_ascii_alphabetic b ≡ true = grind (arith, nat_tests) in
    let first = text_first (token.Letter (b - letter_a)) (b ∷ []) bs (Letters (record {
      some = omega arith;
      all = All-cons (λ c. is_ascii_alphabetic c ≡ true) b [] letter (All-nil (λ c. is_ascii_alphabetic c ≡ true));
      longest = ap (first_is is_ascii_alphabetic) (sym (take_rest (b ∷ bs) 1)) ∙ ends;
    }) (rw (le-leb letter_a b least, le-leb b letter_z greatest) refl)) in
    (ap (λ (f : SizedToken). letter_in f.token) first, sym (ap (λ (f : SizedToken). f.bytes) first), some)

-- ---- a number

-- a number is found where at least one digit and at most nine are at the front
pub no_number : (bs : List ℕ) → (0 < prefix_len is_ascii_digit bs → prefix_len is_ascii_digit bs ≤ most_digits → ⊥)
    → value_in (first_token bs).token ≡ None
no_number bs never = by_token (first_token bs).token (first_has_text bs) where
  by_token : (t : Token) → HasTextOf t bs → value_in t ≡ None
  by_token (token.Number n) is = absurd (never is.0 is.1)
  by_token t is = refl
