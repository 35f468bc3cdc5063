use Rattle.std.proofs.Common.{eqb, length, length-append, drop, drop_of_length-le, sym, ap, ◌∙◌, arith}
use Rattle.std.specs.List.{starts_with}
use Rattle.std.proofs.lemmas.Bool.{eq-eqb, false_from_ne_true, ne_eqb}
use Rattle.std.proofs.lemmas.List.{drop_more}
use Rattle.mf_text.proofs.TokenTexts.{starts_with-drop}
use Rattle.mf_text.proofs.tokens.front.begins_with.Goals as goal
use Rattle.std.proofs.lemmas.Int.{ints}

pub returns-then-text-written-clause-value : goal.returns-then-text-written-clause-value
returns-then-text-written-clause-value c =
    let text = c.args.text.now in
    let written = c.args.written.now in
    grind (arith, ints, length-append written (drop (length written) text), false_from_ne_true, starts_with-drop)

pub returns-then-text-place-clause-value : goal.returns-then-text-place-clause-value
returns-then-text-place-clause-value c = grind (arith, ints, ne_eqb, drop_more)

pub loop-place-preserved : goal.loop-place-preserved
loop-place-preserved c = grind (arith, ints, eq-eqb, drop_more)

pub returns-clause-value : goal.returns-clause-value
returns-clause-value c = sym (c.loop-place.invariant ∙ ap (starts_with eqb _) (drop_of_length-le c.args.written.now (omega arith)))
