-- The end of a script.
use Rattle.std.proofs.Common.{◌≡◌, [], ◌∙◌, append-nil, arith, inr, sym}
use Rattle.std.specs.Io.KnownBytes.{IsAtEnd}
use Rattle.std.specs.Str.Lines.{lines}
use Rattle.mf_desk.specs.declared.ended_run.EndedRun.{EndedRun}
use Rattle.mf_desk.specs.declared.fault.RunFault.TheVariants.{OutOfMemory}
use Rattle.mf_desk.specs.declared.performer.Performer.{Performer}
use Rattle.mf_desk.specs.EndedRuns.{EndsWith}
use Rattle.mf_desk.specs.Faults.{Breaks}
use Rattle.mf_desk.specs.Progress.{ReadsThrough}
use Rattle.mf_desk.specs.Streams.{Passes, Streams}
use Rattle.mf_desk_session.specs.Endings.{HasEnded}
use Rattle.mf_desk_session.specs.Sessions.{limits}
use Rattle.mf_desk.proofs.AfterBytes.{first-text}
use Rattle.mf_desk.proofs.ViewerLines.{lines-nobody}

module _ (s : Streams) (performer : Performer) (reads : ReadsThrough s performer) where
  -- the picture is closed
  pub EndsWith-ended : (run : EndedRun) → HasEnded performer.session reads.2.done.last run.ended run.file → run.written ≡ performer.written
      → EndsWith (limits performer.session) 0 s run
  EndsWith-ended run ended written =
      let (read, consumed, through) = reads in (
        read,
        consumed,
        (
          through.done.text,
          through.done.out,
          record {
            complete = record {
              transcript = through.done.text;
              script = record { last = through.done.last; performed = through.done.performed };
              is = grind (arith, lines-nobody, append-nil);
            };
            published = ended.published;
            file = ended.file_is.keeps;
            max_bytes_is = ended.file_is.max_bytes_is;
            counted = written ∙ through.counted;
          },
        ),
      )

  -- an allocation fails while it is closed
  pub Breaks-unended : IsAtEnd s.left → Passes s (Breaks (limits performer.session) OutOfMemory)
  Breaks-unended all_read =
      let (read, consumed, through) = reads in
      let done = through.done in
      let first = first-text (limits performer.session) s.left read (lines read) [] done.text done.last (inr (all_read, sym (append-nil (lines read))))
      done.performed in
      (read, consumed, (done.text, done.out, first))
