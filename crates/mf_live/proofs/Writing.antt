-- The steps of a writer keep the rule of its book.
use Rattle.std.proofs.Common.{◌≡◌, ◌≢◌, ◌==◌, ◌<◌, ℕ, zero, suc, Bool, true, false, List, [], ◌∷◌, ◌++◌, All, length, set, None, inl, refl, ap, sym, ◌∙◌, subst, arith}
use Rattle.std.proofs.lemmas.Bool.Decides.{nat_tests}
use Rattle.std.proofs.lemmas.List.{append-nil, get_or-set_same, get_or-set_other, length-set}
use Rattle.std.proofs.lemmas.List.Elements.{All-head, All-tail, All-push, All-weaker}
use mathlib.Core.List.{IsPrefix}
use prog.Atomic.{either}
use Rattle.logbook.specs.Pages.{Cell, cell, keeps, gives, adds, Nib, no_nib, may_write, View, Moves}
use Rattle.mf_live.specs.declared.event.Line.{Line}
use Rattle.mf_live.specs.Books.{greatest_limit, first_pen, pen_after, pens_of, IsHome, IsLawfulBook, Makes, Adds, Confirms, WritesAfter}
use Rattle.mf_live.specs.Events.{event_of, events_of}
use Rattle.mf_live.specs.World.{May, new_world, world_after}
use Rattle.mf_live.proofs.Histories.{Happen-line}

abbrev pub nothing_shown : List Line → List Line
nothing_shown lines = []

abbrev pub any_move : List Line → List Line → ℕ → Type 0
any_move before after answer = Unit {0}

-- what a step makes of the word: it is not 0 from then on
abbrev pub marked : ℕ → ℕ
marked n = either (n == 0) 1 n

either-some : (b : Bool) (n : ℕ) → (b ≡ false → n ≢ 0) → either b 1 n ≢ 0
either-some true n some same = absurd (omega (arith, same))
either-some false n some same = some refl same

marked-some : (n : ℕ) → marked n ≢ 0
marked-some n = either-some (n == 0) n (λ other same. absurd (grind (arith, nat_tests)))

inside : (cells : List Cell) → IsHome cells 0 → 0 < length cells
inside [] home = absurd (cc home)
inside (c ∷ cs) home = omega arith

-- a cell that is at home stays there when another comes home
home-set : (cells : List Cell) (j key v : ℕ) → IsHome cells key → IsHome (set cells j (v, true)) key
home-set [] j key v home = home
home-set (c ∷ cs) zero zero v home = refl
home-set (c ∷ cs) zero (suc key) v home = home
home-set (c ∷ cs) (suc j) zero v home = home
home-set (c ∷ cs) (suc j) (suc key) v home = home-set cs j key v home

-- a cell that is added is not at home, like one past the end
cell-added : (cells : List Cell) (key : ℕ) → cell (cells ++ (0, false) ∷ []) key ≡ cell cells key
cell-added [] zero = refl
cell-added [] (suc key) = refl
cell-added (c ∷ cs) zero = refl
cell-added (c ∷ cs) (suc key) = cell-added cs key

-- lines after which a pen writes that is not used up are all lines
none_after : (cells : List Cell) (n key : ℕ) (lines rest : List Line) → All (IsHome cells) (pens_of n (lines ++ rest)) → key ≡ pen_after n lines
    → (cell cells key).1 ≡ false → rest ≡ []
none_after cells n key [] [] used next away = refl
none_after cells n key [] (l ∷ ls) used next away =
    absurd (cc (sym (subst (IsHome cells) (sym next) (All-head (IsHome cells) n (pens_of l.next ls) used)) ∙ away))
none_after cells n key (l ∷ ls) rest used next away =
    none_after cells l.next key ls rest (All-tail (IsHome cells) n (pens_of l.next (ls ++ rest)) used) next away

all_lines : (cells : List Cell) (key : ℕ) (some lines : List Line) → All (IsHome cells) (pens_of first_pen lines) → IsPrefix some lines
    → WritesAfter key some → (cell cells key).1 ≡ false → some ≡ lines
all_lines cells key some lines used prefix next away =
    let none : prefix.0 ≡ [] = none_after cells first_pen key some prefix.0 (subst (λ ls. All (IsHome cells) (pens_of first_pen ls)) (sym prefix.1) used) next away in
    sym (append-nil some) ∙ ap (λ rest. some ++ rest) (sym none) ∙ prefix.1

-- the last line says which pen writes next
pub pen_after-push : (n : ℕ) (lines : List Line) (l : Line) → pen_after n (lines ++ l ∷ []) ≡ l.next
pen_after-push n [] l = refl
pen_after-push n (m ∷ ms) l = pen_after-push m.next ms l

pens_of-push : (n : ℕ) (lines : List Line) (l : Line) → pens_of n (lines ++ l ∷ []) ≡ pens_of n lines ++ pen_after n lines ∷ []
pens_of-push n [] l = refl
pens_of-push n (m ∷ ms) l = ap (λ keys. n ∷ keys) (pens_of-push m.next ms l)

abbrev pub plain_view : List Line → Nib → View Line ℕ
plain_view seen p = (seen, (p, None))

-- the cells after a step: the first one is the changed word, and what was at home stays there
record Follow (cells new : List Cell) : Type 0 where
  first : cell new 0 ≡ (marked (cell cells 0).0, true)
  stays : (key : ℕ) → IsHome cells key → IsHome new key

abbrev changed : List Cell → List Cell
changed cells = set cells 0 (marked (cell cells 0).0, true)

follow : (cells : List Cell) → IsHome cells 0 → Follow cells (changed cells)
follow cells home =
    let n = marked (cell cells 0).0 in
    record { first = get_or-set_same cells 0 (n, true) (0, false) (inside cells home); stays = λ key. home-set cells 0 key n }

rule_with : (cells new : List Cell) (lines : List Line) → IsLawfulBook cells lines → Follow cells new → IsLawfulBook new lines
rule_with cells new lines kept follows = record {
  word = ap (λ (c : Cell). c.1) follows.first;
  first = λ none. absurd (marked-some (cell cells 0).0 (sym (ap (λ (c : Cell). c.0) follows.first) ∙ none));
  used = All-weaker (IsHome cells) (IsHome new) follows.stays (pens_of first_pen lines) kept.used;
  lawful = kept.lawful;
}

-- a pen may be made at any time
pub make_moves : (seen : List Line) → Moves IsLawfulBook nothing_shown any_move 0 (plain_view seen no_nib) marked (λ found w. Makes found w)
make_moves seen cells lines kept prefix away =
    let new = changed cells ++ (0, false) ∷ [] in
    let old = follow cells kept.word in
    let follows : Follow cells new = record {
      first = cell-added (changed cells) 0 ∙ old.first;
      stays = λ key home. subst (λ (c : Cell). c.1 ≡ true) (sym (cell-added (changed cells) key)) (old.stays key home);
    } in
    (inside cells kept.word, kept.word, (adds, [], None, tt, rw (append-nil lines) (rule_with cells new lines kept follows), inl (refl, refl), (refl, kept.first)))

module _ (seen : List Line) (p : Nib) (right : p.right ≡ may_write) where
  -- the pen that writes after what was seen adds a line to it
  module _ (next : WritesAfter p.key seen) (l : Line) (may : May greatest_limit (world_after new_world (events_of seen)) (event_of l.event)) where
    pub add_moves : Moves IsLawfulBook nothing_shown any_move 0 (plain_view seen p) marked (λ found w. Adds l (plain_view seen p) w)
    add_moves cells lines kept prefix away =
        let out = away right in
        let same : seen ≡ lines = all_lines cells p.key seen lines kept.used prefix next out.1 in
        let new = set (changed cells) p.key (p.value, true) in
        let old = follow cells kept.word in
        let apart : 0 ≢ p.key = λ first. absurd (cc (sym kept.word ∙ subst (λ key. (cell cells key).1 ≡ false) (sym first) out.1)) in
        let follows : Follow cells new = record {
          first = get_or-set_other (changed cells) p.key 0 (p.value, true) (0, false) apart ∙ old.first;
          stays = λ key home. home-set (changed cells) p.key key p.value (old.stays key home);
        } in
        let inside_new : p.key < length (changed cells) = omega (arith, out.0, length-set cells 0 (marked (cell cells 0).0, true)) in
        let here : IsHome new p.key = ap (λ (c : Cell). c.1) (get_or-set_same (changed cells) p.key (p.value, true) (0, false) inside_new) in
        let before = rule_with cells new lines kept follows in
        let after : IsLawfulBook new (lines ++ l ∷ []) = record {
          word = before.word;
          first = before.first;
          used = subst (All (IsHome new)) (sym (pens_of-push first_pen lines l))
              (All-push (IsHome new) (pens_of first_pen lines) (pen_after first_pen lines) before.used (subst (IsHome new) (next ∙ ap (pen_after first_pen) same) here));
          lawful = Happen-line lines l kept.lawful (subst (λ ls. May greatest_limit (world_after new_world (events_of ls)) (event_of l.event)) same may);
        } in
        (inside cells kept.word, kept.word, (gives, l ∷ [], None, right, after, inl (refl, refl), ap (λ ls. ls ++ l ∷ []) (sym same)))

  -- whoever has a pen is told which lines are all lines
  pub confirm_moves : Moves IsLawfulBook nothing_shown any_move 0 (plain_view seen p) marked (λ found w. Confirms (plain_view seen p) w)
  confirm_moves cells lines kept prefix away =
      let after : IsLawfulBook (changed cells) (lines ++ []) = rw (append-nil lines) (rule_with cells (changed cells) lines kept (follow cells kept.word)) in
      let used : All (IsHome cells) (pens_of first_pen (lines ++ [])) = rw (append-nil lines) kept.used in
      (inside cells kept.word, kept.word, (keeps, [], None, tt, after, inl (refl, refl), (refl, λ some before next. all_lines cells p.key some (lines ++ []) used before next (away right).1)))
