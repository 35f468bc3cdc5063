use Rattle.std.proofs.Common.{◌≡◌, ◌<◌, ◌++◌, Option, [], List, ℕ, length, take, inl, refl, sym, ap, ◌∙◌, subst, append-nil, arith}
use Rattle.std.proofs.KnownBytes.{Consumes-nil, Consumes-trans, Consumes-kept}
use Rattle.std.proofs.lemmas.Result.{on_ok_weaker, IfErr-weaker}
use Rattle.std.specs.Io.KnownBytes.{Consumes, IsAtEnd}
use Rattle.mf_desk.specs.Faults.{Stops}
use Rattle.mf_desk.specs.Streams.{Gets, MakesPassage}
use Rattle.mf_desk_session.specs.Sessions.{limits}
use Rattle.mf_base.proofs.Faults.{IfErr-raised}
use Rattle.mf_desk.proofs.AfterBytes.{Breaks-flush, Breaks-nothing, IsAfter-flushed, nothing-written}
use Rattle.mf_desk.proofs.progress.Progress.read_all.Goals as goal

-- a read that gives no byte
Consumes-none : (unread left rest : Option (List ℕ)) (read chunk : List ℕ) (n : ℕ) → Consumes unread left read → n ≡ 0
    → Consumes left rest (take n chunk) → Consumes unread rest read
Consumes-none unread left rest read chunk n before none more =
    subst (Consumes unread rest) (ap (λ m. read ++ take m chunk) none ∙ append-nil read) (Consumes-trans unread left rest read _ before more)

pub reads-init : goal.reads-init
reads-init g c = (omega (arith, nothing-written _ c.requires), ([], Consumes-nil _, c.requires _), refl, refl)

pub returns-in_default-clause-fault : goal.returns-in_default-clause-fault
returns-in_default-clause-fault g c = rw c.into.ensures ([], Consumes-nil _, Breaks-nothing _ _ _)

pub returns-in_err-flush-clause-fault : goal.returns-in_err-flush-clause-fault
returns-in_err-flush-clause-fault g c =
    let (read, consumed, after) = c.reads.invariant.1 in
    IfErr-raised c.from_residual.result _ c.from_residual.ensures.1
    (rw (← c.reads.invariant.2) (
      read,
      consumed,
      Breaks-flush _ _ read after.lines (inl (sym (append-nil _))) refl c.flush.ensures.kept c.in_err-flush.ensures.fault,
    ))

pub returns-in-Err-clause-fault : goal.returns-in-Err-clause-fault
returns-in-Err-clause-fault g c =
    let (read, consumed, before) = c.reads.invariant.1 in
    let done = (IsAfter-flushed _ _ _ read c.reads.self c.flush.ensures.kept before).lines.done in
    rw (c.into-in-Err.ensures, ← c.reads.invariant.2) (
      read,
      Consumes-kept _ _ _ read consumed c.in-Err.ensures.bytes,
      (done.text, done.out, record { last = done.last; performed = done.performed }),
    )

pub returns-in-Ok-eq0-clause-end : goal.returns-in-Ok-eq0-clause-end
returns-in-Ok-eq0-clause-end g c =
    let has_room : 0 < length c.read.new.buf = omega (arith, c.read.auto.buf, c.reads.auto.chunk, c.as_mut_slice-chunk.ensures.len, c.in-Ok.ensures.len) in
    on_ok_weaker c.end_script.result (λ _. c.in-Ok-eq0.ensures.bytes.1 c.in-Ok-eq0.field-0-test has_room) c.end_script.ensures.done

pub returns-in-Ok-eq0-clause-short : goal.returns-in-Ok-eq0-clause-short
returns-in-Ok-eq0-clause-short g c = on_ok_weaker c.end_script.result (λ few. omega (arith, few, c.reads.invariant.0)) c.end_script.ensures.at_most

pub returns-in-Ok-eq0-clause-through : goal.returns-in-Ok-eq0-clause-through
returns-in-Ok-eq0-clause-through g c =
    let (read, consumed, before) = c.reads.invariant.1 in
    let after = IsAfter-flushed _ _ _ read c.reads.self c.flush.ensures.kept before in
    let all_read = Consumes-none _ _ _ read c.read.new.buf _ consumed c.in-Ok-eq0.field-0-test c.in-Ok-eq0.ensures.bytes.0 in
    on_ok_weaker c.end_script.result (λ done. (read, all_read, done _ read after)) c.end_script.ensures.done

pub returns-in-Ok-eq0-clause-fault : goal.returns-in-Ok-eq0-clause-fault
returns-in-Ok-eq0-clause-fault g c =
    let has_room : 0 < length c.read.new.buf = omega (arith, c.read.auto.buf, c.reads.auto.chunk, c.as_mut_slice-chunk.ensures.len, c.in-Ok.ensures.len) in
    let at_end : IsAtEnd (g.R.Read.remaining c.read.new.self) = c.in-Ok-eq0.ensures.bytes.1 c.in-Ok-eq0.field-0-test has_room in
    let (read, consumed, before) = c.reads.invariant.1 in
    let after = IsAfter-flushed _ _ _ read c.reads.self c.flush.ensures.kept before in
    let all_read = Consumes-none _ _ _ read c.read.new.buf _ consumed c.in-Ok-eq0.field-0-test c.in-Ok-eq0.ensures.bytes.0 in
    IfErr-weaker c.end_script.result _ _ (λ fault cut_short. rw (← c.reads.invariant.2) (read, all_read, cut_short _ _ read at_end after))
    c.end_script.ensures.fault

pub returns-in_err-take-in-Ok-read-clause-fault : goal.returns-in_err-take-in-Ok-read-clause-fault
returns-in_err-take-in-Ok-read-clause-fault g c =
    let (read, consumed, before) = c.reads.invariant.1 in
    let after = IsAfter-flushed _ _ _ read c.reads.self c.flush.ensures.kept before in
    let held = g.W.Write.contents c.args.writer.now in
    let later = g.W.Write.contents c.take.new.writer in
    let left = g.R.Read.remaining c.read.new.self in
    let bytes = read ++ take c.in-Ok-read.count c.read.new.buf in
    IfErr-raised c.from_residual-in_err-take-in-Ok-read.result _ c.from_residual-in_err-take-in-Ok-read.ensures.1
    (rw (← c.reads.invariant.2) (
      bytes,
      Consumes-trans _ _ _ read _ consumed c.in-Ok-read.ensures.bytes.0,
      subst (λ all. Gets held later (MakesPassage (Stops (limits c.reads.self.performer.session) c.in_err-take-in-Ok-read.field-0.0) left all)) (append-nil bytes)
          (c.in_err-take-in-Ok-read.ensures.fault.stops held _ read [] after),
    ))

pub reads-preserved : goal.reads-preserved
reads-preserved g c =
    let (read, consumed, before) = c.reads.invariant.1 in
    let after = IsAfter-flushed _ _ _ read c.reads.self c.flush.ensures.kept before in (
      omega (arith, c.in-Ok-read.ensures.bound, c.in_ok-take-in-Ok-read.ensures.at_most, c.read.auto.buf, c.reads.auto.chunk, c.as_mut_slice-chunk.ensures.len, c.in-Ok.ensures.len),
      (read ++ take c.in-Ok-read.count c.read.new.buf, Consumes-trans _ _ _ read _ consumed c.in-Ok-read.ensures.bytes.0, c.in_ok-take-in-Ok-read.ensures.after.goes_on _ read after),
      c.take.ensures.limits ∙ c.reads.invariant.2,
      c.take.ensures.identity ∙ c.reads.invariant.3,
    )

-- an interrupted read gives no byte
pub reads-preserved-then-eq : goal.reads-preserved-then-eq
reads-preserved-then-eq g c =
    let (read, consumed, before) = c.reads.invariant.1 in (
      omega (arith, c.reads.invariant.0),
      (read, Consumes-kept _ _ _ read consumed c.in-Err.ensures.bytes, IsAfter-flushed _ _ _ read c.reads.self c.flush.ensures.kept before),
      c.reads.invariant.2,
      c.reads.invariant.3,
    )

pub returns-clause-fault : goal.returns-clause-fault
returns-clause-fault g c =
    let (read, consumed, after) = c.reads.invariant.1 in
    let done = after.lines.done in
    rw (c.into-2.ensures, ← c.reads.invariant.2) (read, consumed, (done.text, done.out, record { last = done.last; performed = done.performed }))
