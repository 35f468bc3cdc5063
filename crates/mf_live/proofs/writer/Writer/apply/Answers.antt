use Rattle.std.proofs.Common.{◌≡◌, ◌++◌, ◌∷◌, [], ◌<◌, ◌≤◌, ℕ, Ok, Err, Result, false, ap, ◌∙◌, arith}
use Rattle.std.specs.Result.{MatchResult}
use Rattle.mf_ops.specs.declared.op.Op.{Op}
use Rattle.mf_ops.specs.declared.op.OpFault.{OpFault}
use Rattle.mf_live.specs.declared.holder.Holder.{Holder}
use Rattle.mf_live.specs.Entries.{entry, revision_at, next_label, is_closed, Operation}
use Rattle.mf_live.specs.Holders.{accepted_list}
use Rattle.mf_live.specs.Writers.{published_list}
use Rattle.mf_live.proofs.Ending.{open-push, revision-push}
use Rattle.mf_live.proofs.writer.Writer.apply.Goals as goal

-- a picture that has room for an operation stays open and within its limit, whether the operation is accepted or not
stays : (old new : Holder) (n : ℕ) (op : Op) (limit : ℕ) (r : Result (Unit {0}) OpFault)
    → MatchResult r (λ _. accepted_list new ≡ accepted_list old ++ entry n (Operation op) ∷ []) (λ _. accepted_list new ≡ accepted_list old)
    → is_closed (accepted_list old) ≡ false → old.revision < limit → (is_closed (accepted_list new) ≡ false) × (new.revision ≤ limit)
stays old new n op limit (Ok done) more is_open room = (open-push old new n op more is_open, omega (arith, revision-push old new n op more))
stays old new n op limit (Err fault) same is_open room = (ap is_closed same ∙ is_open, omega (arith, new.numbered, old.numbered, ap revision_at same))

pub invariant_of-self : goal.invariant_of-self
invariant_of-self c =
    let old = c.args.self.now.holder in
    let room : old.revision < c.args.self.now.max_ops = omega (arith, c.args.self.now.few, c.if-self.false) in
    let both = stays old c.accept.new.self
    (next_label (published_list c.args.self.now)) c.args.op c.args.self.now.max_ops c.accept.result c.accept.ensures.accepted c.args.self.now.open room in
    record { «open» = both.0; few = both.1 }
