use Rattle.std.proofs.Common.{◌≡◌, ◌++◌, ◌∙◌, ◌+◌, ◌<◌, ℕ, List, [], ap, append_assoc, drop, flat_map, length, slice_index_or, sym}
use Rattle.std.proofs.KnownBytes.{Appends-trans}
use Rattle.std.proofs.lemmas.List.{at_drop_more}
use Rattle.std.specs.Borrow.{Bor}
use Rattle.mf_cli_options.proofs.Messages.{front-after}
use Rattle.mf_cli_options.proofs.statuses.write_texts.Goals as goal

abbrev nothing : Bor (List ℕ)
nothing = record { ref_ptr = (0, 0); now = [] }

first-left : (texts : List (Bor (List ℕ))) (i : ℕ) → i < length texts → flat_map (λ text. text.now) (drop i texts)
    ≡ (slice_index_or texts i nothing).now ++ flat_map (λ text. text.now) (drop (i + 1) texts)
first-left texts i = at_drop_more (flat_map (λ text. text.now)) texts i nothing

pub returns-then-not-write_text : goal.returns-then-not-write_text
returns-then-not-write_text g c =
    let (front, whole, out) = c.loop-text.invariant in
    let left = first-left c.args.texts.now c.loop-text.text-index c.loop-text-test.true in
    front-after _ _ _ front _ _ (whole ∙ ap (λ rest. front ++ rest) left) out c.write_text.ensures.front

pub loop-text-preserved : goal.loop-text-preserved
loop-text-preserved g c =
    let (front, whole, out) = c.loop-text.invariant in
    let left = first-left c.args.texts.now c.loop-text.text-index c.loop-text-test.true in
    let text = (slice_index_or c.args.texts.now c.loop-text.text-index nothing).now in (
      front ++ text,
      whole ∙ ap (λ rest. front ++ rest) left ∙ sym (append_assoc front text _),
      Appends-trans _ _ _ front text out (c.write_text.ensures.all c.if-not-write_text.false),
    )
