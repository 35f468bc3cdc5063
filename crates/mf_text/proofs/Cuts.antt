-- The tokens of a line are its bytes, each cut as long as possible, and no other list of tokens is cut from it so.
use Rattle.std.proofs.Common.{◌≡◌, ℕ, zero, suc, ◌+◌, ◌≤◌, true, false, eqb, List, [], ◌∷◌, ◌++◌, length, drop, refl, sym, ap, subst, ◌∙◌, arith}
use Rattle.std.proofs.lemmas.Int.{ints}
use Rattle.std.specs.List.{All}
use Rattle.std.proofs.Math.Seq.{drop-append_seam}
use Rattle.std.proofs.lemmas.Bool.{cond_both, eqb-true, false≢true}
use Rattle.std.proofs.lemmas.List.Elements.{All-cons, All-head, All-nil, All-tail}
use Rattle.mf_text.specs.Limits.{percent_sign}
use Rattle.mf_text.specs.Token as token
use Rattle.mf_text.specs.Tokens.{SizedToken, first_token, token_at, tokens_from, tokens_within, is_blank, PlacedToken, Token}
use Rattle.mf_text.specs.TokenTexts.{AreTokens, IsEnd, IsTokenText}
use Rattle.mf_text.proofs.LineTokens.{rest_shorter, tokens-step, tokens_at_comment}
use Rattle.mf_text.proofs.TokenTexts.{BeginsToken, Front, Other, Text, begins, front, text_first}

-- ---- a line is cut into its tokens

abbrev blank_byte : ℕ → Type 0
blank_byte b = is_blank b ≡ true

more-blank : (column b : ℕ) (bs : List ℕ) (ps : List PlacedToken) → is_blank b ≡ true → AreTokens (column + 1) bs ps → AreTokens column (b ∷ bs) ps
more-blank column b bs [] blank end = record {
  blanks = b ∷ end.blanks;
  further = end.further;
  parts = ap (λ cs. b ∷ cs) end.parts;
  blank = All-cons blank_byte b end.blanks blank end.blank;
  end = end.end;
}
more-blank column b bs (p ∷ ps) blank (cut, later) = (
  record {
    blanks = b ∷ cut.blanks;
    text = cut.text;
    further = cut.further;
    parts = ap (λ cs. b ∷ cs) cut.parts;
    blank = All-cons blank_byte b cut.blanks blank cut.blank;
    column_is = omega (arith, cut.column_is);
    after_is = cut.after_is;
    token = cut.token;
  },
  later,
)

no_more : (column : ℕ) (further : List ℕ) → IsEnd further → AreTokens column further []
no_more column further end = record { blanks = []; further = further; parts = refl; blank = All-nil blank_byte; end = end }

one-token : (column : ℕ) (bs : List ℕ) (ps : List PlacedToken) (t : Token) (text further : List ℕ) → bs ≡ text ++ further → IsTokenText t text further
    → AreTokens (column + (first_token bs).bytes) (drop (first_token bs).bytes bs) ps → AreTokens column bs (token_at column (first_token bs) ∷ ps)
one-token column bs ps t text further parts is later =
    let rest_is : further ≡ drop (length text) bs = sym (ap (drop (length text)) parts ∙ drop-append_seam text further) in
    subst (λ (f : SizedToken). AreTokens (column + f.bytes) (drop f.bytes bs) ps → AreTokens column bs (token_at column f ∷ ps))
    (sym (ap first_token parts ∙ text_first t text further is))
    (λ after. (
      record {
        blanks = [];
        text = text;
        further = drop (length text) bs;
        parts = parts ∙ ap (λ ys. text ++ ys) rest_is;
        blank = All-nil blank_byte;
        column_is = omega arith;
        after_is = refl;
        token = subst (IsTokenText t text) rest_is is;
      },
      after,
    )) later

-- a byte that is no blank and begins no comment begins a token
first-token : (column b : ℕ) (bs : List ℕ) (ps : List PlacedToken) → is_blank b ≡ false → eqb b percent_sign ≡ false → Front (b ∷ bs)
    → AreTokens (column + (first_token (b ∷ bs)).bytes) (drop (first_token (b ∷ bs)).bytes (b ∷ bs)) ps
    → AreTokens column (b ∷ bs) (token_at column (first_token (b ∷ bs)) ∷ ps)
first-token column b bs ps blank comment (Text t text further parts is) = one-token column (b ∷ bs) ps t text further parts is
first-token column b bs ps blank comment (Other no_letter no_digit none) =
    one-token column (b ∷ bs) ps token.Unknown (b ∷ []) bs refl (grind (arith, ints, false≢true))

cut-within : (n column : ℕ) (bs : List ℕ) → length bs ≤ n → AreTokens column bs (tokens_within n column bs)
unfolding tokens_within
cut-within zero column [] short = no_more column [] tt
cut-within zero column (b ∷ bs) short = absurd (omega arith)
cut-within (suc n) column [] short = no_more column [] tt
cut-within (suc n) column (b ∷ bs) short =
    cond_both (is_blank b) _ _ (AreTokens column (b ∷ bs)) (λ blank. more-blank column b bs _ blank (cut-within n (column + 1) bs (omega arith)))
    (λ clear. cond_both (eqb b percent_sign) _ _ (AreTokens column (b ∷ bs)) (λ comment. no_more column (b ∷ bs) (eqb-true b percent_sign comment))
    (λ token. first-token column b bs _ clear token (front (b ∷ bs)) (cut-within n _ _ (omega (arith, rest_shorter b bs)))))

-- the tokens of a line are its bytes, cut in this way
pub are_tokens : (line : List ℕ) → AreTokens 1 line (tokens_from 1 line)
unfolding tokens_from
are_tokens line = cut-within (length line) 1 line (omega arith)

-- ---- in one way only

tokens_from-blanks : (column : ℕ) (blanks further : List ℕ) → All blank_byte blanks
    → tokens_from column (blanks ++ further) ≡ tokens_from (column + length blanks) further
unfolding tokens_from tokens_within
tokens_from-blanks column [] further all = ap (λ n. tokens_from n further) (omega arith)
tokens_from-blanks column (b ∷ bs) further all = grind (arith, ints, All-tail, All-head, tokens_from-blanks (column + 1) bs further (All-tail blank_byte b bs all))

tokens_from-end : (column : ℕ) (further : List ℕ) → IsEnd further → tokens_from column further ≡ []
unfolding tokens_from tokens_within
tokens_from-end column [] end = refl
tokens_from-end column (b ∷ bs) end = tokens_at_comment column (b ∷ bs) (omega arith) end

tokens_from-text : (p : PlacedToken) (text further : List ℕ) → IsTokenText p.token text further → BeginsToken text → p.after ≡ p.column + length text
    → tokens_from p.column (text ++ further) ≡ p ∷ tokens_from p.after further
tokens_from-text p [] further is begun after = absurd (omega (arith, begun.some))
tokens_from-text p (b ∷ bs) further is begun after =
    tokens-step p.column b (bs ++ further) begun.clear begun.no_comment ∙ rw (text_first p.token (b ∷ bs) further is, drop-append_seam (b ∷ bs) further, sym after) refl

-- bytes are cut into these tokens alone
pub one_cut : (column : ℕ) (bs : List ℕ) (ps : List PlacedToken) → AreTokens column bs ps → ps ≡ tokens_from column bs
one_cut column bs [] end = grind (arith, ints, tokens_from-blanks, tokens_from-end)
one_cut column bs (p ∷ ps) (cut, later) =
    let xs : List ℕ = cut.text ++ cut.further in
    ap (λ (qs : List PlacedToken). p ∷ qs) (one_cut p.after cut.further ps later)
    ∙ sym (tokens_from-text p cut.text cut.further cut.token (begins p.token cut.text cut.further cut.token) cut.after_is) ∙ ap (λ n. tokens_from n xs) cut.column_is
    ∙ sym (tokens_from-blanks column cut.blanks xs cut.blank) ∙ sym (ap (tokens_from column) cut.parts)
