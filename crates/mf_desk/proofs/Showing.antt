-- The lines of the viewers, after the transcript of a script that has ended.
use Rattle.std.proofs.Common.{◌≡◌, ◌+◌, ◌<◌, ◌⊎◌, ℕ, List, ◌++◌, Option, length, ⊎_elim, inl, inr, refl, sym, ap, ◌∙◌, arith}
use Rattle.std.proofs.Common.{append-nil, append_assoc, length-append}
use Rattle.std.specs.Io.KnownBytes.{Appends, IsAtEnd}
use Rattle.std.proofs.KnownBytes.{Appends-trans}
use Rattle.mf_desk.specs.declared.ended_run.EndedRun.{EndedRun}
use Rattle.mf_desk.specs.declared.fault.RunFault.{RunFault}
use Rattle.mf_desk.specs.declared.fault.RunFault.TheVariants.{OutOfMemory, NoLook, WriteFault}
use Rattle.mf_desk.specs.declared.settings.Settings.{Settings}
use Rattle.mf_desk.specs.EndedRuns.{EndsWith, IsOver, IsSameEnd, ShowsLines, glance}
use Rattle.mf_desk.specs.Faults.{BreaksOff}
use Rattle.mf_desk.specs.Performances.{IsCompleteText, IsShownText, TellsOfRun, run_limits, viewer_lines}
use Rattle.mf_desk.specs.Streams.{Gets, Passes, streams}
use Rattle.mf_desk_session.specs.States.{Limits}
use Rattle.mf_desk_watch.specs.Watchers.{glance_at}
use Rattle.mf_desk.proofs.ViewerLines.{lines-nobody}

pub IsSameEnd-trans : {a b c : EndedRun} → IsSameEnd a b → IsSameEnd b c → IsSameEnd a c
IsSameEnd-trans first then = record {
  identity = then.identity ∙ first.identity;
  published = then.published ∙ first.published;
  file = then.file ∙ first.file;
}

-- after the transcript, the lines of some viewers
abbrev complete-with : (l : Limits) (n : ℕ) (read : List ℕ) (run : EndedRun) (text lines : List ℕ) (over : IsOver l 0 read run text)
    → lines ≡ viewer_lines n (glance run) → IsCompleteText l n read (text ++ lines)
complete-with l n read run text lines over are =
    let complete = over.complete in
    let whole : text ≡ complete.transcript =
    complete.is ∙ ap (λ none. complete.transcript ++ none) (lines-nobody _) ∙ append-nil complete.transcript in
    record {
      transcript = complete.transcript;
      script = complete.script;
      is = ap (λ t. t ++ lines) whole ∙ ap (λ more. complete.transcript ++ more) (are ∙ ap (λ L. viewer_lines n (glance_at L)) over.published);
    }

-- the lines of all viewers are written
pub ShowsLines-written : {run after : EndedRun} {lines : List ℕ} (viewers : ℕ) (holds later : Option (List ℕ)) → IsSameEnd run after
    → lines ≡ viewer_lines viewers (glance run) → Appends holds later lines → after.written ≡ run.written + length lines
    → ShowsLines viewers run holds later after
ShowsLines-written {run} {lines} viewers holds later same are more counted l unread left held (read, consumed, (text, out, over)) = (
  read,
  consumed,
  (
    text ++ lines,
    Appends-trans held holds later text lines out more,
    record {
      complete = complete-with l viewers read run text lines over are;
      published = same.published ∙ over.published;
      file = rw same.file over.file;
      max_bytes_is = rw same.file over.max_bytes_is;
      counted = omega (arith, counted, over.counted, length-append text lines);
    },
  ),
)

module _ (unread left held holds : Option (List ℕ)) (run : EndedRun) where
  module _ (settings : Settings) (viewers : ℕ) (all_read : IsAtEnd left) (ends : EndsWith (run_limits settings) 0 (streams unread left held holds) run) where
    -- a look fails before any of these lines is written
    pub TellsOfRun-unshown : (fault : RunFault) → (fault ≡ OutOfMemory) ⊎ ((fault ≡ NoLook) × (0 < viewers))
        → Passes (streams unread left held holds) (TellsOfRun settings viewers fault)
    TellsOfRun-unshown fault why =
        let (read, consumed, (text, out, over)) = ends in
        let none : IsShownText (run_limits settings) viewers left read text = record { all_read = all_read; shown = 0; none_or_all = inl refl; complete = over.complete } in
        ⊎_elim
        (λ wanting. rw wanting (read, consumed, (text, out, inr none)))
        (λ refused. rw (refused.0) (read, consumed, (text, out, (none, refused.1)))) why

    -- they are cut
    pub TellsOfRun-cut : (later : Option (List ℕ)) (lines : List ℕ) → lines ≡ viewer_lines viewers (glance run) → (fault : RunFault)
        → Gets holds later (BreaksOff (λ text. text ≡ lines) run.written fault) → Passes (streams unread left held later) (TellsOfRun settings viewers fault)
    TellsOfRun-cut later lines are OutOfMemory (front, more, none) =
        let (read, consumed, (text, out, over)) = ends in
        let complete = complete-with (run_limits settings) 0 read run text front over (none ∙ sym (lines-nobody (glance run))) in
        let shown : IsShownText (run_limits settings) viewers left read (text ++ front) =
        record { all_read = all_read; shown = 0; none_or_all = inl refl; complete = complete } in
        (read, consumed, (text ++ front, Appends-trans held holds later text front out more, inr shown))
    TellsOfRun-cut later lines are (WriteFault count) (front, more, (bytes, count_is, (counted, rest, whole))) =
        let (read, consumed, (text, out, over)) = ends in
        let all = complete-with (run_limits settings) viewers read run text (front ++ rest) over (whole ∙ are) in (
          read,
          consumed,
          (
            text ++ front,
            Appends-trans held holds later text front out more,
            (
              omega (arith, counted, count_is, over.counted, length-append text front),
              rest,
              inr (record { all_read = all_read; shown = viewers; none_or_all = inr refl; complete = rw (append_assoc text front rest) all }),
            ),
          ),
        )
    TellsOfRun-cut later lines are fault (front, more, none) = absurd none
