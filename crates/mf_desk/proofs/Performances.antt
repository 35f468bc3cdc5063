-- What a run answers, whether its script has ended or not.
use Rattle.std.proofs.Common.{◌≡◌, ◌⊎◌, ◌<◌, ℕ, List, [], All, Option, length, ⊎_elim, inl, inr, refl, subst, arith}
use Rattle.std.specs.Io.KnownBytes.{IsAtEnd}
use Rattle.std.proofs.KnownBytes.{Appends-nil, Consumes-nil}
use Rattle.mf_gf.specs.Files.{Character, IsLongFile, file_if_any}
use Rattle.mf_gf.specs.Keeping.{Keeps, max_bytes_of}
use Rattle.mf_desk.specs.declared.ended_run.EndedRun.{EndedRun}
use Rattle.mf_desk.specs.declared.fault.RunFault.{RunFault}
use Rattle.mf_desk.specs.declared.fault.RunFault.TheVariants.{OutOfMemory, NoPlace, FileTooLong, ReadFault, WriteFault}
use Rattle.mf_desk.specs.declared.outcome.Outcome.{Outcome}
use Rattle.mf_desk.specs.declared.settings.Settings.{Settings}
use Rattle.mf_desk.specs.EndedRuns.{EndsWith, HasSeenLast}
use Rattle.mf_desk.specs.Faults.{Breaks}
use Rattle.mf_desk.specs.Performances.{Performs, TellsOfRun, task, run_limits}
use Rattle.mf_desk.specs.Streams.{Passage, Passes, Streams, streams}
use Rattle.mf_desk_session.specs.States.{Limits, least_bytes}
use Rattle.mf_desk_watch.specs.Watchers.{HasSeen}
use Rattle.mf_desk.proofs.AfterBytes.{Breaks-nothing}

module _ (settings : Settings) (viewers : ℕ) where
  Tells-breaks : (fault : RunFault) (p : Passage) → Breaks (run_limits settings) fault p → TellsOfRun settings viewers fault p
  Tells-breaks OutOfMemory p text = inl text
  Tells-breaks ReadFault p text = text
  Tells-breaks (WriteFault count) p (counted, rest, text) = (counted, rest, inl text)
  Tells-breaks fault p none = absurd none

  -- a fault of the script, its reader or its writer ends the run
  pub TellsOfRun-script : {l : Limits} (fault : RunFault) (s : Streams) → l ≡ run_limits settings → Passes s (Breaks l fault)
      → Passes s (TellsOfRun settings viewers fault)
  TellsOfRun-script fault s same (read, consumed, (written, out, breaks)) =
      let p : Passage = record { left = s.left; read = read; written = written } in
      (read, consumed, (written, out, Tells-breaks fault p (subst (λ m. Breaks m fault p) same breaks)))

  module _ (unread held : Option (List ℕ)) where
    -- nothing was read or written
    pub TellsOfRun-nothing : Passes (streams unread unread held held) (TellsOfRun settings viewers OutOfMemory)
    TellsOfRun-nothing =
        TellsOfRun-script OutOfMemory (streams unread unread held held) refl
        ([], Consumes-nil unread, Breaks-nothing (run_limits settings) unread held)

    -- there is no place for a viewer
    pub TellsOfRun-unwatched : 0 < viewers → Passes (streams unread unread held held) (TellsOfRun settings viewers NoPlace)
    TellsOfRun-unwatched some = ([], Consumes-nil unread, ([], Appends-nil held, (some, (refl, refl))))

    -- the run could not be started
    pub TellsOfRun-unstarted : (fault : RunFault) → (fault ≡ FileTooLong → settings.max_bytes < least_bytes)
        → (fault ≡ FileTooLong) ⊎ (fault ≡ OutOfMemory) → Passes (streams unread unread held held) (TellsOfRun settings viewers fault)
    TellsOfRun-unstarted fault small =
        ⊎_elim
        (λ long. rw long ([], Consumes-nil unread, ([], Appends-nil held, inr (small long, (refl, refl)))))
        (λ wanting. rw wanting TellsOfRun-nothing)

  module _ (s : Streams) (run : EndedRun) (ends : EndsWith (run_limits settings) viewers s run) where
    -- the font file is not made
    pub TellsOfRun-unfinished : (fault : RunFault) → IsAtEnd s.left
        → (fault ≡ FileTooLong → (characters : List Character) → Keeps run.file [] characters
        → IsLongFile (max_bytes_of run.file) settings.font [] characters)
        → (fault ≡ FileTooLong) ⊎ (fault ≡ OutOfMemory) → Passes s (TellsOfRun settings viewers fault)
    TellsOfRun-unfinished fault all_read too_long =
        let (read, consumed, (text, out, over)) = ends in
        let complete = over.complete in
        ⊎_elim
        (λ long.
        let is_long =
        subst (λ n. IsLongFile n settings.font [] complete.script.last.characters) over.max_bytes_is (too_long long complete.script.last.characters over.file) in
        rw long (read, consumed, (text, out, inl (all_read, complete, is_long))))
        (λ wanting. rw wanting (
          read,
          consumed,
          (text, out, inr (record { all_read = all_read; shown = viewers; none_or_all = inr refl; complete = complete })),
        ))

    -- the run ends well
    pub Performs-over : (looks : ℕ) (outcome : Outcome) → ((characters : List Character) → Keeps run.file [] characters
        → (IsLongFile (max_bytes_of run.file) settings.font [] characters → ⊥) × (outcome.gf ≡ file_if_any settings.font [] characters))
        → length outcome.seen.items ≡ viewers → All (HasSeenLast run looks) outcome.seen.items → Performs (task settings viewers looks) s outcome
    Performs-over looks outcome finished count seen =
        let (read, consumed, (text, out, over)) = ends in
        let complete = over.complete in
        let (fits, font) = finished complete.script.last.characters over.file in (
          read,
          consumed,
          record {
            text = text;
            complete = complete;
            out = out;
            fits = subst (λ n. IsLongFile n settings.font [] complete.script.last.characters → ⊥) over.max_bytes_is fits;
            font = font;
            count = count;
            seen = subst (λ L. All (λ v. HasSeen L looks v.items) outcome.seen.items) over.published seen;
          },
        )
