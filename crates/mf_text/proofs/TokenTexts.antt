-- The token at the front of bytes, and the text that it has there.
use Rattle.std.proofs.Common.{◌≡◌, ◌⊎◌, inl, inr, ℕ, suc, ◌+◌, ◌-◌, ◌<◌, ◌≤◌, Bool, true, false, not, bytes_eq, eqb, leb, List, [], ◌∷◌}
use Rattle.std.proofs.Common.{◌++◌, Option, None, Some, length, get_or, drop, refl, sym, ap, subst, ◌∙◌, arith, rules}
use Rattle.std.proofs.lemmas.Int.{ints}
use Rattle.std.specs.Char.{is_ascii_alphabetic, is_ascii_digit}
use Rattle.std.specs.List.{All, list_all, prefix_len, starts_with, take_while}
use Rattle.std.specs.Option.{option_map_or}
use Rattle.std.proofs.lemmas.Bool.{and_parts, cases_Bool, cases_lt, cond_both, eqb-true, false_from_ne_true}
use Rattle.std.proofs.lemmas.Bool.{false≢true, leb-true, lt-ltb, ne_eqb, true_from_ne_false}
use Rattle.std.proofs.lemmas.Bool.Decides.{Decides-eqb, nat_tests}
use Rattle.std.proofs.lemmas.List.{take-append-drop}
use Rattle.std.proofs.lemmas.List.Elements.{All-head, All-nil, All-tail}
use Rattle.std.proofs.lemmas.List.Folds.{length-prefix_len}
use Rattle.std.proofs.lemmas.List.Sums.{take_while-cons}
use Rattle.std.proofs.lemmas.Option.{none-some, same_Some}
use Rattle.std.proofs.lemmas.Slice.Eq.{bytes_eq-Decides, starts_is}
use Rattle.mf_text.specs.declared.token.Mark.TheVariants as mark
use Rattle.mf_text.specs.declared.token.Word.TheVariants as word
use Rattle.mf_text.specs.Limits.{letter_a, letter_z, most_digits, percent_sign, space, tab}
use Rattle.mf_text.specs.Token as token
use Rattle.mf_text.specs.Tokens.{SizedToken, first_token, first_is, is_blank, is_letter, is_longer, mark_among, mark_text, marks}
use Rattle.mf_text.specs.Tokens.{number_token, word_among, word_text, word_token, words, is_token, Mark, Token, Word}
use Rattle.mf_text.specs.TokenTexts.{AMark, Digits, IsLongestSequence, IsTokenText, Letters, OtherByte}

pub same_token : (t : Token) → is_token t t ≡ true
same_token t = search rules

pub token_is : (t u : Token) → is_token t u ≡ true → t ≡ u
token_is t u same = search rules

-- ---- sequences of bytes of one kind

-- bytes of one kind that no other of them follows are the sequence at the front
sequence_text : (p : ℕ → Bool) (text further : List ℕ) → All (λ b. p b ≡ true) text → first_is p further ≡ false → take_while p (text ++ further) ≡ text
sequence_text p [] [] all ends = refl
sequence_text p [] (b ∷ bs) all ends = take_while-cons p b bs ∙ rw ends refl
sequence_text p (b ∷ bs) further all ends = grind (arith, ints, take_while-cons, All-head, All-tail, sequence_text p bs further (All-tail (λ c. p c ≡ true) b bs all) ends)

pub sequence_count : (p : ℕ → Bool) (text further : List ℕ) → IsLongestSequence p text further → prefix_len p (text ++ further) ≡ length text
sequence_count p text further sequence = sym (length-prefix_len p (text ++ further)) ∙ ap length (sequence_text p text further sequence.all sequence.longest)

-- the sequence at the front has bytes of its kind, and no other of them follows
front_sequence : (p : ℕ → Bool) (bs : List ℕ) → All (λ b. p b ≡ true) (take_while p bs) × (first_is p (drop (prefix_len p bs) bs) ≡ false)
front_sequence p [] = (All-nil (λ c. p c ≡ true), refl)
front_sequence p (b ∷ bs) =
    let later = front_sequence p bs in
    let longer : 1 + prefix_len p bs ≡ suc (prefix_len p bs) = omega arith in
    grind (arith, ints, cond_both)

pub sequence : (p : ℕ → Bool) (bs : List ℕ) → 0 < prefix_len p bs → IsLongestSequence p (take_while p bs) (drop (prefix_len p bs) bs)
sequence p bs some = let found = front_sequence p bs in record { some = omega (arith, some, length-prefix_len p bs); all = found.0; longest = found.1 }

-- where the sequence at the front is empty, no byte of its kind is there
no_sequence : (p : ℕ → Bool) (bs : List ℕ) → prefix_len p bs ≤ 0 → first_is p bs ≡ false
no_sequence p [] none = refl
no_sequence p (b ∷ bs) none = cond_both (p b) (1 + prefix_len p bs) 0 (λ n. n ≤ 0 → p b ≡ false) (λ _ some. absurd (omega arith)) (λ is _. is) none

-- ---- the token of a text

letters_first : (bs : List ℕ) → 0 < prefix_len is_ascii_alphabetic bs
    → first_token bs ≡ record { token = word_token (take_while is_ascii_alphabetic bs); bytes = length (take_while is_ascii_alphabetic bs) }
unfolding first_token
letters_first bs some = rw (lt-ltb 0 _ (sequence is_ascii_alphabetic bs some).some) refl

pub digits_first : (bs : List ℕ) → 0 < prefix_len is_ascii_digit bs
    → first_token bs ≡ record { token = number_token (take_while is_ascii_digit bs); bytes = length (take_while is_ascii_digit bs) }
unfolding first_token
digits_first [] some = absurd (omega arith)
digits_first (b ∷ bs) some = grind (arith, ints, sequence is_ascii_digit (b ∷ bs) some, true_from_ne_false, nat_tests, lt-ltb)

-- the text of a mark is found as that mark, unless a longer mark is there
mark_first : (m : Mark) (further : List ℕ) → is_longer m (mark_text m ++ further) ≡ false
    → first_token (mark_text m ++ further) ≡ record { token = token.Mark m; bytes = length (mark_text m) }
unfolding first_token mark_among
mark_first mark.Minus further short = grind (arith, ints)
mark_first m further short = refl

-- where neither a letter, a digit nor a mark is at the front, the token there is unknown
pub unknown_first : (bs : List ℕ) → first_is is_ascii_alphabetic bs ≡ false → first_is is_ascii_digit bs ≡ false
    → ((m : Mark) → starts_with eqb bs (mark_text m) ≡ false) → first_token bs ≡ record { token = token.Unknown; bytes = 1 }
unfolding first_token mark_among
unknown_first [] no_letter no_digit none = refl
unknown_first (b ∷ bs) no_letter no_digit none =
    rw (no_letter, no_digit, none mark.Becomes, none mark.Close, none mark.Comma, none mark.Join, none mark.Minus, none mark.Open, none mark.Semicolon) refl

-- a text at the front is that of the token there
pub text_first : (t : Token) (text further : List ℕ) → IsTokenText t text further → first_token (text ++ further) ≡ record { token = t; bytes = length text }
text_first t text further (Letters sequence is) = grind (arith, ints, sequence, sequence_count, sequence_text, letters_first, is)
text_first t text further (Digits sequence is) = grind (arith, ints, sequence, sequence_count, sequence_text, digits_first, is)
text_first t text further (AMark m written longest is) = rw (is, written) (mark_first m further (subst (λ ts. is_longer m (ts ++ further) ≡ false) written longest))
text_first t text further (OtherByte other is) = rw (is, other.one) (unknown_first (other.byte ∷ further) other.no_letter other.no_digit other.no_mark)

-- ---- the text of a token

pub starts_with-drop : (bs text : List ℕ) → starts_with eqb bs text ≡ true → bs ≡ text ++ drop (length text) bs
starts_with-drop bs text is = (starts_is Decides-eqb bs text (starts_with eqb bs text) refl).0 is

pub starts_with-append : (bs text further : List ℕ) → bs ≡ text ++ further → starts_with eqb bs text ≡ true
starts_with-append bs text further is = (starts_is Decides-eqb bs text (starts_with eqb bs text) refl).1 further is

mark_or_none : (bs : List ℕ) (entries : List (List ℕ × Mark))
    → ((m : Mark) × (starts_with eqb bs (mark_text m) ≡ true)) ⊎ (list_all (λ e. not (starts_with eqb bs (mark_text e.1))) entries ≡ true)
mark_or_none bs [] = inr refl
mark_or_none bs (entry ∷ entries) =
    elim (cases_Bool (starts_with eqb bs (mark_text entry.1))) [
      | inl begun ↦ inl (entry.1, begun)
      | inr other ↦ elim (mark_or_none bs entries) [
        | inl some ↦ inl some
        | inr none ↦ inr (rw other none)
      ]
    ]

none_among : (bs : List ℕ) (m : Mark) → list_all (λ e. not (starts_with eqb bs (mark_text e.1))) marks ≡ true → starts_with eqb bs (mark_text m) ≡ false
none_among bs mark.Becomes none = grind arith
none_among bs m none = grind arith

-- the token at the front has this text; or there is none, but a blank, the start of a comment or another byte
pub data Front (bs : List ℕ) : Type 0 where
  Text : (t : Token) (text further : List ℕ) → bs ≡ text ++ further → IsTokenText t text further → Front bs
  Other : first_is is_ascii_alphabetic bs ≡ false → first_is is_ascii_digit bs ≡ false → ((m : Mark) → starts_with eqb bs (mark_text m) ≡ false) → Front bs

front_sequence_text : (p : ℕ → Bool) (t : Token) (bs : List ℕ) → IsTokenText t (take_while p bs) (drop (prefix_len p bs) bs) → Front bs
front_sequence_text p t bs is = Text t _ _ (sym (take-append-drop (prefix_len p bs) bs)) is

front_mark : (bs : List ℕ) (m : Mark) → starts_with eqb bs (mark_text m) ≡ true → is_longer m bs ≡ false → Front bs
front_mark bs m begun short =
    let parts = starts_with-drop bs (mark_text m) begun in
    Text (token.Mark m) (mark_text m) _ parts (AMark m refl (ap (is_longer m) (sym parts) ∙ short) refl)

-- the text of this mark is there, or that of a longer one
mark_there : (bs : List ℕ) (m : Mark) → starts_with eqb bs (mark_text m) ≡ true → (longer : Bool) → is_longer m bs ≡ longer → Front bs
mark_there bs m begun false short = front_mark bs m begun short
mark_there bs mark.Minus begun true longer = front_mark bs mark.Join longer refl
mark_there bs m begun true longer = absurd (false≢true longer)

pub front : (bs : List ℕ) → Front bs
front bs =
    elim (cases_lt 0 (prefix_len is_ascii_alphabetic bs)) [
      | inl letter ↦ front_sequence_text is_ascii_alphabetic _ bs (Letters (sequence is_ascii_alphabetic bs letter) refl)
      | inr no_letter ↦ elim (cases_lt 0 (prefix_len is_ascii_digit bs)) [
        | inl digit ↦ front_sequence_text is_ascii_digit _ bs (Digits (sequence is_ascii_digit bs digit) refl)
        | inr no_digit ↦ elim (mark_or_none bs marks) [
          | inl some ↦ mark_there bs some.0 some.1 (is_longer some.0 bs) refl
          | inr none ↦ Other (no_sequence is_ascii_alphabetic bs no_letter) (no_sequence is_ascii_digit bs no_digit) (λ m. none_among bs m none)
        ]
      ]
    ]

-- ---- the first byte of a token

-- the text has a byte, and its first one is no blank and begins no comment
pub record BeginsToken (text : List ℕ) : Type 0 where
  pub clear : first_is is_blank text ≡ false
  pub no_comment : first_is (λ b. eqb b percent_sign) text ≡ false
  pub some : 0 < length text

other_byte : (p : ℕ → Bool) (b c : ℕ) → p b ≡ true → p c ≡ false → eqb b c ≡ false
other_byte p b c is none = false_from_ne_true _ (λ same. false≢true (sym none ∙ ap p (sym (eqb-true b c same)) ∙ is))

sequence_begins : (p : ℕ → Bool) (text further : List ℕ) → p space ≡ false → p tab ≡ false → p percent_sign ≡ false → IsLongestSequence p text further → BeginsToken text
sequence_begins p [] further no_space no_tab no_percent sequence = absurd (omega (arith, sequence.some))
sequence_begins p (b ∷ bs) further no_space no_tab no_percent sequence = grind (arith, ints, All-head, sequence, other_byte)

mark_begins : (m : Mark) → BeginsToken (mark_text m)
mark_begins mark.Becomes = record { clear = refl; no_comment = refl; some = omega arith }
mark_begins m = record { clear = refl; no_comment = refl; some = omega arith }

pub begins : (t : Token) (text further : List ℕ) → IsTokenText t text further → BeginsToken text
begins t text further (Letters sequence is) = sequence_begins is_ascii_alphabetic text further refl refl refl sequence
begins t text further (Digits sequence is) = sequence_begins is_ascii_digit text further refl refl refl sequence
begins t text further (AMark m written longest is) = subst BeginsToken (sym written) (mark_begins m)
begins t text further (OtherByte other is) =
    subst BeginsToken (sym other.one) (record { clear = other.no_blank; no_comment = ne_eqb other.byte percent_sign other.no_comment; some = omega arith })

-- ---- what a token says of the bytes that it is at the front of

-- a word is written with at least one letter, and no earlier word of the table is written in the same way
record IsWrittenWord (w : Word) : Type 0 where
  letters : list_all is_ascii_alphabetic (word_text w) ≡ true
  some : 0 < length (word_text w)
  word : word_token (word_text w) ≡ token.Word w

is_written_word : (w : Word) → IsWrittenWord w
unfolding word_token word_among
is_written_word word.Addto = record { letters = refl; some = omega arith; word = refl }
is_written_word w = record { letters = refl; some = omega arith; word = refl }

-- the text of a word, which no other letter follows
pub word_letters : (w : Word) (further : List ℕ) → first_is is_ascii_alphabetic further ≡ false → IsTokenText (token.Word w) (word_text w) further
word_letters w further ends = grind (arith, ints, is_written_word w)

same_bytes : (xs ys : List ℕ) → bytes_eq xs ys ≡ true → xs ≡ ys
same_bytes xs ys same = search (rules, bytes_eq-Decides)

-- where each entry of a table has the text of its word, a word that is found has its text
word_among-text : (entries : List (List ℕ × Word)) (w : Word) (ls : List ℕ)
    → list_all (λ e. bytes_eq e.0 (word_text e.1)) entries ≡ true → word_among entries ls ≡ Some w
    → ls ≡ word_text w
unfolding word_among
word_among-text [] w ls all is = absurd (none-some w is)
word_among-text (entry ∷ entries) w ls all is =
    let parts = and_parts (bytes_eq entry.0 (word_text entry.1)) (list_all (λ e. bytes_eq e.0 (word_text e.1)) entries) all in
    cond_both (bytes_eq ls entry.0) (Some entry.1) (word_among entries ls) (λ o. o ≡ Some w → ls ≡ word_text w)
    (λ same found. same_bytes ls entry.0 same ∙ same_bytes entry.0 (word_text entry.1) parts.0 ∙ ap word_text (same_Some entry.1 w found))
    (λ _. word_among-text entries w ls parts.1) is

-- a single letter `a`..`z` is at the front, with this number
pub record HasSingleLetter (n : ℕ) (bs : List ℕ) : Type 0 where
  pub some : 1 ≤ length bs
  pub least : letter_a ≤ get_or bs 0 0
  pub greatest : get_or bs 0 0 ≤ letter_z
  pub number : n ≡ get_or bs 0 0 - letter_a
  pub longest : first_is is_ascii_alphabetic (drop 1 bs) ≡ false

-- what is at the front where this token is
abbrev pub HasTextOf : Token → List ℕ → Type 0
HasTextOf (token.Word w) bs = (further : List ℕ) × ((bs ≡ word_text w ++ further) × (first_is is_ascii_alphabetic further ≡ false))
HasTextOf (token.Letter n) bs = HasSingleLetter n bs
HasTextOf (token.Number n) bs = (0 < prefix_len is_ascii_digit bs) × (prefix_len is_ascii_digit bs ≤ most_digits)
HasTextOf (token.Mark m) bs = (starts_with eqb bs (mark_text m) ≡ true) × (is_longer m bs ≡ false)
HasTextOf token.Unknown bs = Unit {0}

letters_have_text : (text further : List ℕ) → first_is is_ascii_alphabetic further ≡ false → HasTextOf (word_token text) (text ++ further)
unfolding word_token
letters_have_text text further ends =
    cond_both (is_letter text) _ _ (λ t. HasTextOf t (text ++ further)) (single text) (λ _. known (word_among words text) refl) where
      single : (ls : List ℕ) → is_letter ls ≡ true → HasSingleLetter (get_or ls 0 0 - letter_a) (ls ++ further)
      single (b ∷ []) is = grind (arith, ints, and_parts (leb letter_a b) (leb b letter_z) is, leb-true)
      single ls is = absurd (false≢true is)

      known : (o : Option Word) → word_among words text ≡ o → HasTextOf (option_map_or token.Word o token.Unknown) (text ++ further)
      known None is = tt
      known (Some w) is = (further, (ap (λ ls. ls ++ further) (word_among-text words w text refl is), ends))

digits_have_text : (text further : List ℕ) → IsLongestSequence is_ascii_digit text further → HasTextOf (number_token text) (text ++ further)
unfolding number_token
digits_have_text text further sequence = grind (arith, ints, sequence_count, sequence, cond_both, leb-true)

pub has_text_of : (t : Token) (text further : List ℕ) → IsTokenText t text further → HasTextOf t (text ++ further)
has_text_of t text further (Letters sequence is) = subst (λ u. HasTextOf u (text ++ further)) (sym is) (letters_have_text text further sequence.longest)
has_text_of t text further (Digits sequence is) = subst (λ u. HasTextOf u (text ++ further)) (sym is) (digits_have_text text further sequence)
has_text_of t text further (AMark m written longest is) = grind (arith, ints, starts_with-append, written)
has_text_of t text further (OtherByte other is) = subst (λ u. HasTextOf u (text ++ further)) (sym is) tt

pub mark_length : (m : Mark) (text further : List ℕ) → IsTokenText (token.Mark m) text further → length text ≡ length (mark_text m)
mark_length m text further is =
    let found = has_text_of (token.Mark m) text further is in
    grind (arith, ints, starts_with-drop (text ++ further) (mark_text m) found.0, text_first (token.Mark m) text further is, mark_first)

pub first_has_text : (bs : List ℕ) → HasTextOf (first_token bs).token bs
first_has_text bs = by_front (front bs) where
  by_front : Front bs → HasTextOf (first_token bs).token bs
  by_front (Text t text further parts is) =
      subst (λ xs. HasTextOf (first_token xs).token xs) (sym parts)
      (subst (λ (f : SizedToken). HasTextOf f.token (text ++ further)) (sym (text_first t text further is)) (has_text_of t text further is))
  by_front (Other no_letter no_digit none) = subst (λ (f : SizedToken). HasTextOf f.token bs) (sym (unknown_first bs no_letter no_digit none)) tt
