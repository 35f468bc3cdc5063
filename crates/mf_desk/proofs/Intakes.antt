-- What a run does with bytes that follow one another.
use Rattle.std.proofs.Common.{◌≡◌, ℕ, List, ◌++◌, Option, append_assoc}
use Rattle.mf_desk.specs.declared.fault.RunFault.{RunFault}
use Rattle.mf_desk.specs.declared.fault.RunFault.TheVariants.{OutOfMemory}
use Rattle.mf_desk.specs.declared.observer.Stopped.{Stopped}
use Rattle.mf_desk.specs.declared.observer.Stopped.TheVariants.{Run}
use Rattle.mf_desk.specs.declared.progress.Progress.{Progress}
use Rattle.mf_desk.specs.Progress.{StopsDuring, GoesOn}
use Rattle.mf_desk_session.specs.Sessions.{limits}
use Rattle.mf_desk.proofs.AfterBytes.{Breaks-between}

-- a run that takes the first bytes and then the others takes all
pub GoesOn-next : {before now after : Progress} {xs ys bytes : List ℕ} {held holds later : Option (List ℕ)} → GoesOn before xs held holds now
    → GoesOn now ys holds later after → bytes ≡ xs ++ ys → GoesOn before bytes held later after
GoesOn-next {xs} {ys} goes_on next are = record {
  goes_on = λ first read is. rw (are, ← append_assoc read xs ys) (next.goes_on first (read ++ xs) (goes_on.goes_on first read is));
}

module _ {F : Type 0} {stopped : Stopped F} where
  -- a run that stops while it takes the first bytes stops while it takes all
  pub StopsDuring-first : {before : Progress} {xs bytes : List ℕ} {held later : Option (List ℕ)} (ys : List ℕ)
      → StopsDuring before xs held later stopped → bytes ≡ xs ++ ys → StopsDuring before bytes held later stopped
  StopsDuring-first {xs} ys stops are = record {
    stops = λ first left read more after.
        rw (are, ← append_assoc read xs ys, append_assoc (read ++ xs) ys more) (stops.stops first left read (ys ++ more) after);
  }

  -- a run that takes the first bytes, and stops while it takes the others
  pub StopsDuring-next : {before now : Progress} {xs ys bytes : List ℕ} {held holds later : Option (List ℕ)} → GoesOn before xs held holds now
      → limits now.performer.session ≡ limits before.performer.session → StopsDuring now ys holds later stopped → bytes ≡ xs ++ ys
      → StopsDuring before bytes held later stopped
  StopsDuring-next {xs} {ys} goes_on same stops are = record {
    stops = λ first left read more is.
        rw (are, ← same, ← append_assoc read xs ys) (stops.stops first left (read ++ xs) more (goes_on.goes_on first read is));
  }

  -- memory is missing before a line of these bytes is performed
  pub StopsDuring-wanting : {fault : RunFault} (before : Progress) (bytes : List ℕ) (held : Option (List ℕ)) → stopped ≡ Run fault → fault ≡ OutOfMemory
      → StopsDuring before bytes held held stopped
  StopsDuring-wanting before bytes held is wanting = record {
    stops = λ first left read more after. rw (is, wanting) (Breaks-between first held read before after left bytes more);
  }
