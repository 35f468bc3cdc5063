use Rattle.std.proofs.Common.{refl}
use Rattle.std.proofs.lemmas.Result.{err_from_is_err_and}
use Rattle.mf_rows.specs.declared.sign.Sign.TheVariants.{Plus, Minus}
use Rattle.mf_rows.proofs.PicturePiles.{unlawful_as}
use Rattle.mf_ops.specs.declared.op.Op.TheVariants.{Also}
use Rattle.mf_rows.specs.Sums.{difference_at, sum_at}
use Rattle.mf_ops.proofs.Faults.{makes_anyway, op_fault-sum_fault, stays_anyway}
use Rattle.mf_ops.proofs.add.add.Goals as goal

pub returns-in_err-add-in-Plus-clause-refused : goal.returns-in_err-add-in-Plus-clause-refused
unfolding sum_at
returns-in_err-add-in-Plus-clause-refused c =
    let ds = c.args.picture.now in
    let es = c.args.other.now in
    let passed_on = err_from_is_err_and c.from_residual.result c.from_residual.ensures.1 in
    rw (c.in-Plus.is, passed_on.1, passed_on.2) (op_fault-sum_fault ds (Also es Plus) _ (stays_anyway ds (Also es Plus) refl refl)
    (λ other. unlawful_as (c.in_err-add-in-Plus.ensures.too_large other) (λ inside. refl)))

pub returns-in_err-subtract-in-Minus-clause-refused : goal.returns-in_err-subtract-in-Minus-clause-refused
unfolding difference_at
returns-in_err-subtract-in-Minus-clause-refused c =
    let ds = c.args.picture.now in
    let es = c.args.other.now in
    let passed_on = err_from_is_err_and c.from_residual-in_err-subtract-in-Minus.result c.from_residual-in_err-subtract-in-Minus.ensures.1 in
    rw (c.in-Minus.is, passed_on.1, passed_on.2) (op_fault-sum_fault ds (Also es Minus) _ (stays_anyway ds (Also es Minus) refl refl)
    (λ other. unlawful_as (c.in_err-subtract-in-Minus.ensures.too_large other) (λ inside. refl)))

pub returns-in_ok-add-in-Plus : goal.returns-in_ok-add-in-Plus
unfolding sum_at
returns-in_ok-add-in-Plus c =
    let ds = c.args.picture.now in
    let es = c.args.other.now in
    let made = makes_anyway ds (Also es Plus) _ refl refl c.in_ok-add-in-Plus.ensures.lawful c.in_ok-add-in-Plus.ensures.weights in
    rw c.in-Plus.is record { step = made.0; accepted = made.1; unchanged = tt; refused = tt; blank = λ blank. refl }

pub returns-in_ok-subtract-in-Minus : goal.returns-in_ok-subtract-in-Minus
unfolding difference_at
returns-in_ok-subtract-in-Minus c =
    let ds = c.args.picture.now in
    let es = c.args.other.now in
    let made = makes_anyway ds (Also es Minus) _ refl refl c.in_ok-subtract-in-Minus.ensures.lawful c.in_ok-subtract-in-Minus.ensures.weights in
    rw c.in-Minus.is record { step = made.0; accepted = made.1; unchanged = tt; refused = tt; blank = λ blank. refl }
