-- Texts that are written piece by piece: with what is ahead, the text so far is whole.
use Rattle.std.proofs.Common.{◌≡◌, ℕ, List, [], ◌++◌, sym, ◌∙◌, append_assoc}
use Rattle.std.proofs.lemmas.List.{append-nil}

pub piece_more : (text piece rest ahead new whole : List ℕ) → new ≡ text ++ piece → ahead ≡ piece ++ rest → text ++ ahead ≡ whole → new ++ rest ≡ whole
piece_more text piece rest ahead new whole written next so_far = rw (written, append_assoc text piece rest, ← next) so_far

pub pieces_all : (text ahead whole : List ℕ) → ahead ≡ [] → text ++ ahead ≡ whole → text ≡ whole
pieces_all text ahead whole none so_far = sym (append-nil text) ∙ rw none at so_far
