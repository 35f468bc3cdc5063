use Rattle.std.proofs.Common.{◌≡◌, ◌+◌, ◌-◌, ◌≤◌, ◌++◌, ℕ, List, Result, Ok, Err, length, take, min, sym, ap, ◌∙◌, arith}
use Rattle.std.specs.Prelude.{OnOk, is_ok, if◌then◌else◌}
use Rattle.std.proofs.Math.Seq.{take-append-add}
use Rattle.std.proofs.lemmas.List.{take_min}
use Rattle.mf_desk.specs.declared.line_buffer.TheConstants.{MAX_KEPT}
use Rattle.mf_desk.proofs.line_buffer.LineBuffer.extend.Goals as goal

-- as many more bytes as there is room for
kept_more : (n : ℕ) (xs ys : List ℕ) → length xs ≤ n → xs ++ take (min (n - length xs) (length ys)) ys ≡ take n (xs ++ ys)
kept_more n xs ys fits =
    let room : length xs + (n - length xs) ≡ n = omega arith in
    ap (λ front. xs ++ front) (take_min (n - length xs) ys) ∙ sym (take-append-add xs ys (n - length xs)) ∙ ap (λ m. take m (xs ++ ys)) room

-- what a successful call adds
added : {T E : Type 0} {more new kept : List ℕ} (r : Result T E) (old : List ℕ) → new ≡ (if is_ok r then more else old) → more ≡ kept → OnOk r (new ≡ kept)
added (Ok done) old is more_is = is ∙ more_is
added (Err fault) old is more_is = tt

pub returns-clause-added : goal.returns-clause-added
returns-clause-added c =
    let line = c.self.inside.kept.items in
    let bytes = c.args.bytes.now in
    let kept : c.len-room.result ≡ length line = omega arith in
    let count_is : c.min-count.result ≡ min (MAX_KEPT - length line) (length bytes) = c.min-count.ensures ∙ ap (λ n. min (MAX_KEPT - n) (length bytes)) kept in
    added c.extend_from_slice.result _ c.extend_from_slice.ensures.items
    (ap (λ count. line ++ take count bytes) count_is ∙ kept_more MAX_KEPT line bytes c.self.invariant ∙ ap (λ all. take MAX_KEPT (all ++ bytes)) c.self.view_is)
