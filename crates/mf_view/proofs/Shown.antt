-- What is written where a performance ends, well or with a fault.
use Rattle.std.proofs.Common.{◌≡◌, ℕ, List, [], None, Option, Some, Result, Ok, Err, inl, inr, refl, sym, ap, subst, ◌∙◌, append-nil, arith}
use Rattle.std.specs.Prelude.{IfErr, IsOk, OnOk}
use Rattle.std.specs.Io.KnownBytes.{Appends, IsAtEnd}
use Rattle.std.proofs.KnownBytes.{Appends-nil, Consumes-nil}
use Rattle.std.specs.Str.Lines.{lines}
use Rattle.mf_base.specs.Messages.{Receipt, receipt}
use Rattle.mf_desk.specs.Ended.{ended_lines}
use Rattle.mf_desk.specs.EndedRuns.{EndsWith, IsSameEnd}
use Rattle.mf_desk.specs.Faults.{AreWholeLines, IsTextSoFar, Stops}
use Rattle.mf_desk.specs.Performances.{IsCompleteText, IsPerformance, Performs, run_limits, task, viewer_lines}
use Rattle.mf_desk.specs.Progress.{ReadsThrough}
use Rattle.mf_desk.specs.Streams.{Passage, Passes, Streams, streams}
use Rattle.mf_desk.specs.declared.ended_run.EndedRun.{EndedRun}
use Rattle.mf_desk.specs.declared.fault.RunFault.{RunFault}
use Rattle.mf_desk.specs.declared.fault.RunFault.TheVariants.{OutOfMemory, NoPlace, FileTooLong, ReadFault, WriteFault, NoLook}
use Rattle.mf_desk.specs.declared.observer.Stopped.{Stopped}
use Rattle.mf_desk.specs.declared.observer.Stopped.TheVariants as stopped
use Rattle.mf_desk.specs.declared.outcome.Outcome.{Outcome}
use Rattle.mf_desk.specs.declared.performer.Performer.{Performer}
use Rattle.mf_desk.specs.declared.settings.Settings.{Settings}
use Rattle.mf_gf.specs.Keeping.{Keeps, max_bytes_of}
use Rattle.mf_live.specs.Writers.{ended_published_list}
use Rattle.mf_desk_session.proofs.OneTranscript.{performs_once}
use Rattle.mf_desk_session.specs.Endings.{complete_list}
use Rattle.mf_desk_session.specs.Sessions.{limits}
use Rattle.mf_desk_session.specs.States.{Answer, Limits, start}
use Rattle.mf_desk_session.specs.Transcript.{IsTextOf}
use Rattle.mf_view.specs.Drawings.{DrawsMore, HasDrawn, ShowsLast}
use Rattle.mf_view.specs.Easels.{Manner}
use Rattle.mf_view.specs.Endings.{WithTranscript}
use Rattle.mf_view.specs.Performances.{Shows, TellsOfShow, fault_of_stop}
use Rattle.mf_view.specs.declared.easel.Easel.{Easel}
use Rattle.mf_view.specs.declared.fault.ProgramFault.{ProgramFault}

-- nothing was written
no-text : (l : Limits) (left : Option (List ℕ)) (read : List ℕ) → IsTextSoFar l left read []
no-text l left read = record {
  whole = ended_lines read;
  are = inl refl;
  last = start;
  first = record { done = []; more = ended_lines read; first = refl; performed = refl };
}

-- what all of the completely read lines print was written
all-text : (l : Limits) (left : Option (List ℕ)) (read text : List ℕ) (whole : List (List ℕ)) → AreWholeLines left read whole → IsTextOf l whole text
    → IsTextSoFar l left read text
all-text l left read text whole are of = record {
  whole = whole;
  are = are;
  last = of.last;
  first = record { done = whole; more = []; first = sym (append-nil whole); performed = of.performed };
}

-- the transcript was written, and there is no viewer
complete-text : (l : Limits) (left : Option (List ℕ)) (read text : List ℕ) → IsAtEnd left → IsCompleteText l 0 read text → IsTextSoFar l left read text
unfolding viewer_lines
complete-text l left read text end complete =
    subst (IsTextSoFar l left read) (sym (complete.is ∙ append-nil complete.transcript))
    (all-text l left read complete.transcript (lines read) (inr (end, refl)) complete.script)

-- each fault may come after a text that is not cut
told : (l : Limits) (fault : ProgramFault) (p : Passage) → IsTextSoFar l p.left p.read p.written → TellsOfShow l fault p
told l fault p text = grind (arith, append-nil)

-- a fault of the script, its reader or its transcript, or of the observer
stop-told : (l : Limits) (stop : Stopped ProgramFault) (p : Passage) → Stops l stop p → TellsOfShow l (fault_of_stop stop) p
stop-told l (stopped.Observer fault) p text = told l fault p text
stop-told l (stopped.Run OutOfMemory) p text = text
stop-told l (stopped.Run ReadFault) p text = all-text l p.left p.read p.written (ended_lines p.read) (inl refl) text
stop-told l (stopped.Run (WriteFault count)) p (_, rest, text) = (rest, text)
stop-told l (stopped.Run NoPlace) p none = absurd none
stop-told l (stopped.Run FileTooLong) p none = absurd none
stop-told l (stopped.Run NoLook) p none = absurd none

module _ (s : Streams) where
  pub stop_is_told : (l : Limits) (stop : Stopped ProgramFault) → Passes s (Stops l stop) → Passes s (TellsOfShow l (fault_of_stop stop))
  stop_is_told l stop (read, consumed, (written, out, stops)) = (read, consumed, (written, out, stop-told l stop _ stops))

  -- a fault comes after the end of the script
  pub end_is_told : (l : Limits) (fault : ProgramFault) (performer : Performer) → limits performer.session ≡ l → IsAtEnd s.left → ReadsThrough s performer
      → Passes s (TellsOfShow l fault)
  end_is_told l fault performer same end (read, consumed, through) =
      let text = all-text (limits performer.session) s.left read through.done.text (lines read) (inr (end, refl))
      (record { last = through.done.last; performed = through.done.performed }) in
      (read, consumed, (through.done.text, through.done.out, told l fault _ (subst (λ l. IsTextSoFar l s.left read through.done.text) same text)))

  -- a fault comes after the last frame
  pub shown_is_told : (settings : Settings) (manner : Manner) (screen : Receipt) (outcome : Outcome) (fault : ProgramFault)
      → Shows settings manner screen s outcome → Passes s (TellsOfShow (run_limits settings) fault)
  shown_is_told settings manner screen outcome fault (read, consumed, is) = (
    read,
    consumed,
    (
      is.performed.text,
      is.performed.out,
      told (run_limits settings) fault _ (complete-text (run_limits settings) s.left read is.performed.text is.all_read is.performed.complete),
    ),
  )

  -- the last picture is told of
  pub ends_same : (before after : EndedRun) → IsSameEnd before after → after.written ≡ before.written → (l : Limits) → EndsWith l 0 s before → EndsWith l 0 s after
  ends_same before after same written l (read, consumed, (text, out, over)) = (
    read,
    consumed,
    (
      text,
      out,
      record {
        complete = over.complete;
        published = same.published ∙ over.published;
        file = subst (λ f. Keeps f [] over.complete.script.last.characters) (sym same.file) over.file;
        max_bytes_is = ap max_bytes_of same.file ∙ over.max_bytes_is;
        counted = written ∙ over.counted;
      },
    ),
  )

  -- a run ends well, and its last picture is on the screen
  pub shown_at_end : (settings : Settings) (manner : Manner) (screen : Receipt) (outcome : Outcome) (run : EndedRun)
      → ((s : Streams) → EndsWith (run_limits settings) 0 s run → Performs (task settings 0 0) s outcome)
      → ShowsLast manner (ended_published_list run.ended) screen → IsAtEnd s.left → EndsWith (run_limits settings) 0 s run
      → Shows settings manner screen s outcome
  shown_at_end settings manner screen outcome run concludes shown end (read, consumed, (text, out, over)) =
      let known = streams (Some read) (Some []) (Some []) (Some text) in
      let (same_read, reads, done) = concludes known (read, sym (append-nil read), (text, refl, over)) in
      let is_read : same_read ≡ read = sym (reads ∙ append-nil same_read) in
      let performed = subst (IsPerformance (task settings 0 0) outcome known) is_read done in
      let last = performs_once (run_limits settings) start (lines read) _ _ over.complete.script.performed performed.complete.script.performed in (
        read,
        consumed,
        record {
          all_read = end;
          performed = record {
            text = performed.text;
            complete = performed.complete;
            out = subst (Appends s.held s.holds) performed.out out;
            fits = performed.fits;
            font = performed.font;
            count = performed.count;
            seen = performed.seen;
          };
          shown = subst (λ L. ShowsLast manner L screen) (over.published ∙ ap (λ (a : Answer). complete_list a.next.pictures) last) shown;
        },
      )

-- a result that comes after the end of the script
pub end_is_told_by : {T : Type 0} (r : Result T ProgramFault) (l : Limits) (performer : Performer) → limits performer.session ≡ l
    → IfErr r (λ fault. (s : Streams) → IsAtEnd s.left → ReadsThrough s performer → Passes s (TellsOfShow l fault))
end_is_told_by (Ok done) l performer same = tt
end_is_told_by (Err fault) l performer same = λ s at_end through. end_is_told s l fault performer same at_end through

-- frames are drawn after the first one
pub drawn_beside : (first drawn : Result (Unit {0}) RunFault) (before now after : Easel) (held then holds : Option (List ℕ))
    → ((h : Option (List ℕ)) → HasDrawn before (receipt h h)) → OnOk first (DrawsMore before now (receipt held then))
    → OnOk drawn (IsOk first × DrawsMore now after (receipt then holds)) → OnOk drawn (HasDrawn after (receipt held holds))
drawn_beside first (Err fault) before now after held then holds blank draws more = tt
drawn_beside (Ok done) (Ok drawn) before now after held then holds blank draws (is, more) = more held (draws held (blank held))
drawn_beside (Err fault) (Ok drawn) before now after held then holds blank draws (is, more) = cc

-- nothing was read or written
pub nothing_is_told : (unread held : Option (List ℕ)) (l : Limits) (fault : ProgramFault) → Passes (streams unread unread held held) (TellsOfShow l fault)
nothing_is_told unread held l fault = ([], Consumes-nil unread, ([], Appends-nil held, told l fault _ (no-text l unread [])))

-- the same, wherever the transcript is asked for
pub nothing_is_told_into : (transcript : Option (List ℕ)) (l : Limits) (fault : ProgramFault) (unread held : Option (List ℕ))
    → WithTranscript transcript (streams unread unread held held) (λ s. Passes s (TellsOfShow l fault))
nothing_is_told_into None l fault unread held = nothing_is_told unread held l fault
nothing_is_told_into (Some path) l fault unread held = (refl, None, None, nothing_is_told unread None l fault)

pub shown_is_told_into : (transcript : Option (List ℕ)) (fault : ProgramFault) (s : Streams) (settings : Settings) (manner : Manner) (screen : Receipt)
    (outcome : Outcome) → WithTranscript transcript s (λ s. Shows settings manner screen s outcome)
    → WithTranscript transcript s (λ s. Passes s (TellsOfShow (run_limits settings) fault))
shown_is_told_into None fault s settings manner screen outcome shown = shown_is_told s settings manner screen outcome fault shown
shown_is_told_into (Some path) fault s settings manner screen outcome (same, held, holds, shown) =
    (same, held, holds, shown_is_told (streams s.unread s.left held holds) settings manner screen outcome fault shown)

-- the same of a result
pub nothing_is_told_by : {T : Type 0} (r : Result T ProgramFault) (transcript : Option (List ℕ)) (l : Limits) (unread held : Option (List ℕ))
    → IfErr r (λ fault. WithTranscript transcript (streams unread unread held held) (λ s. Passes s (TellsOfShow l fault)))
nothing_is_told_by (Ok done) transcript l unread held = tt
nothing_is_told_by (Err fault) transcript l unread held = nothing_is_told_into transcript l fault unread held

-- a script is shown in the same manner
pub in_manner : (settings : Settings) (m n : Manner) (screen : Receipt) (outcome : Outcome) (s : Streams) → m ≡ n
    → Shows settings m screen s outcome → Shows settings n screen s outcome
in_manner settings m n screen outcome s is shows = subst (λ m. Shows settings m screen s outcome) is shows
