-- Each line of bytes has an answer: a command, or a refusal.
use Rattle.std.proofs.Common.{◌≡◌, ◌≢◌, ◌⊎◌, inl, inr, ℕ, ℤ, pos, List, Option, Some, None, Result, Ok, Err, length, refl, arith}
use lib.IntN.{ℤ_discrete}
use Rattle.std.specs.List.{list_all}
use Rattle.std.proofs.lemmas.Bool.{cases_Bool, cases_lt}
use Rattle.std.proofs.lemmas.Int.{ints, by_lt_z}
use Rattle.std.proofs.lemmas.Option.{none-some}
use Rattle.mf_geom.proofs.FirstFaults.{is_cycle, no_form_fault}
use Rattle.mf_geom.specs.Faults.{form_fault}
use Rattle.mf_geom.specs.declared.cycle.CycleFault.{CycleFault}
use Rattle.mf_geom.specs.declared.point.Point.{Point}
use Rattle.mf_ops.specs.ContourWeight.{IsContourWeight}
use Rattle.mf_ops.specs.Cull.{IsLawfulCull}
use Rattle.mf_ops.specs.Moves.{IsFactor, degrees}
use Rattle.mf_ops.specs.declared.cull.CullRule.{CullRule}
use Rattle.mf_ops.specs.declared.cull.CullRule.TheVariants.{Keeping, Dropping}
use Rattle.mf_ops.specs.declared.quarter.TurnCount.{TurnCount}
use Rattle.mf_ops.specs.declared.quarter.TurnCount.TheVariants.{Once, Twice, Thrice}
use Rattle.mf_text.specs.declared.command.Command.TheVariants as command
use Rattle.mf_text.specs.declared.fault.TextFault.TheVariants as faults
use Rattle.mf_text.specs.Grammar.{Line, Name}
use Rattle.mf_text.specs.Lines.{is_text_byte, IsText, line_ahead, longest_line, Gives, IsRefused}
use Rattle.mf_text.specs.Meaning.{Value, Points, AWeight, ACull, AScale, Angle, Meaning, Is, If, Turns, HasRefusal, IsLawfulValue, IsUnlawful, Means}
use Rattle.mf_text.specs.Meaning.{Refuses, meaning, Command, TextFault}
use Rattle.mf_text.specs.Rests.{from, line}
use Rattle.mf_text.specs.Syntax.{IsLine}
use Rattle.mf_text.specs.Tokens.{without_columns, tokens}
use Rattle.mf_text.proofs.LineAnswers.{of_values}
use Rattle.mf_text.proofs.LineReading.{goes_wrong, is_line}

-- ---- values are lawful or not

weight_or_not : (w : ℤ) → IsContourWeight w ⊎ (IsContourWeight w → ⊥)
weight_or_not w = elim (ℤ_discrete w (pos 0)) [
  | yes zero ↦ inr (λ is. is.nonzero zero)
  | no nonzero ↦ grind (arith, ints, by_lt_z)
]

factor_or_not : (f : ℤ) → IsFactor f ⊎ (IsFactor f → ⊥)
factor_or_not f = elim (ℤ_discrete f (pos 0)) [
  | yes zero ↦ inr (λ is. is.nonzero zero)
  | no nonzero ↦ grind (arith, ints, by_lt_z)
]

cull_or_not : (rule : CullRule) → IsLawfulCull rule ⊎ (IsLawfulCull rule → ⊥)
cull_or_not (Keeping a b w) = grind (arith, ints, by_lt_z)
cull_or_not (Dropping a b w) = grind (arith, ints, by_lt_z)

no_turn : (angle : ℤ) → (degrees Once ≡ angle → ⊥) → (degrees Twice ≡ angle → ⊥) → (degrees Thrice ≡ angle → ⊥)
    → (quarter : TurnCount) → degrees quarter ≡ angle → ⊥
no_turn angle once twice thrice Once is = once is
no_turn angle once twice thrice Twice is = twice is
no_turn angle once twice thrice Thrice is = thrice is

turn_or_not : (angle : ℤ) → IsLawfulValue (Angle angle) ⊎ (IsLawfulValue (Angle angle) → ⊥)
turn_or_not angle =
    elim (ℤ_discrete (degrees Once) angle) [
      | yes is ↦ inl (Once, is)
      | no once ↦ elim (ℤ_discrete (degrees Twice) angle) [
        | yes is ↦ inl (Twice, is)
        | no twice ↦ elim (ℤ_discrete (degrees Thrice) angle) [
          | yes is ↦ inl (Thrice, is)
          | no thrice ↦ inr (λ turn. no_turn angle once twice thrice turn.0 turn.1)
        ]
      ]
    ]

abbrev IsChecked : Value → Type 0
IsChecked value = IsLawfulValue value ⊎ ((fault : TextFault) × IsUnlawful value fault)

cycle_or_not : (points : List Point) (found : Option CycleFault) → form_fault points ≡ found → IsChecked (Points points)
cycle_or_not points None is = inl (is_cycle points is)
cycle_or_not points (Some cause) is = inr (faults.Cycle cause, grind (arith, ints, none-some, no_form_fault))

or_refused : (value : Value) (fault : TextFault) → HasRefusal value fault → IsLawfulValue value ⊎ (IsLawfulValue value → ⊥) → IsChecked value
or_refused value fault is (inl lawful) = inl lawful
or_refused value fault is (inr never) = inr (fault, record { unlawful = never; is = is })

lawful_or_not : (value : Value) → IsChecked value
lawful_or_not (Points points) = cycle_or_not points (form_fault points) refl
lawful_or_not (AWeight weight) = or_refused (AWeight weight) faults.BadWeight refl (weight_or_not weight)
lawful_or_not (ACull rule) = or_refused (ACull rule) faults.BadCull refl (cull_or_not rule)
lawful_or_not (AScale factors) = or_refused (AScale factors) faults.BadScale refl (grind (arith, ints, factor_or_not))
lawful_or_not (Angle angle) = or_refused (Angle angle) faults.BadTurn refl (turn_or_not angle)

-- ---- forms have a command or a refusal

-- a command, or a refusal
abbrev MeansSomething : Meaning → Type 0
MeansSomething m = ((given : Command) × Means m given) ⊎ ((fault : TextFault) × Refuses m fault)

if_means_something : (value : Value) (after : Meaning) → IsChecked value → MeansSomething after → MeansSomething (If value after)
if_means_something value after (inl lawful) (inl (given, is)) = inl (given, (lawful, is))
if_means_something value after (inl lawful) (inr (fault, is)) = inr (fault, inr (lawful, is))
if_means_something value after (inr (fault, is)) later = inr (fault, inl is)

turn_means_something : (name : Name) (angle : ℤ) → IsChecked (Angle angle) → MeansSomething (Turns name angle)
turn_means_something name angle (inl (quarter, is)) = inl (command.Quarter name quarter, (quarter, is, refl))
turn_means_something name angle (inr refused) = inr refused

means_something : (m : Meaning) → MeansSomething m
means_something (Is made) = inl (made, refl)
means_something (If value after) = if_means_something value after (lawful_or_not value) (means_something after)
means_something (Turns name angle) = turn_means_something name angle (lawful_or_not (Angle angle))

-- ---- lines have an answer

abbrev HasAnswer : List ℕ → Type 0
HasAnswer bytes = ((given : Command) × Gives bytes given) ⊎ ((fault : TextFault) × (fault ≢ faults.OutOfMemory) × IsRefused bytes fault)

line_has_answer : (bytes : List ℕ) → IsText bytes → (line : IsLine (without_columns (tokens bytes))) → MeansSomething (meaning line.tree.form) → HasAnswer bytes
line_has_answer bytes text line (inl (given, is)) = inl (given, record { line = line.tree; line_is = record { text = text; spelled = line.spelled }; so = is })
line_has_answer bytes text line (inr (fault, is)) =
    let (other, refused) = of_values (meaning line.tree.form) fault is in
    inr (fault, other, refused bytes (record { line = line.tree; line_is = record { text = text; spelled = line.spelled }; so = is }))

text_has_answer : (bytes : List ℕ) → IsText bytes → (o : Result Line ℕ) → from line (line_ahead bytes) ≡ o → HasAnswer bytes
text_has_answer bytes text (Ok l) is =
    line_has_answer bytes text (record { tree = l; spelled = is_line (line_ahead bytes) l is }) (means_something (meaning l.form))
text_has_answer bytes text (Err column) is = inr (faults.Syntax column, (λ e. cc), (text, goes_wrong bytes column is))

pub some_answer : (bytes : List ℕ) → HasAnswer bytes
some_answer bytes =
    elim (cases_lt longest_line (length bytes)) [
      | inl long ↦ inr (faults.LineTooLong, (λ e. cc), long)
      | inr short ↦ elim (cases_Bool (list_all is_text_byte bytes)) [
        | inl text ↦ (let is : IsText bytes = record { short = short; text = text } in text_has_answer bytes is (from line (line_ahead bytes)) refl)
        | inr other ↦ inr (faults.NotAscii, (λ e. cc), (short, other))
      ]
    ]
