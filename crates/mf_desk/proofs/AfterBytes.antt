-- A run after some bytes: what each read, and each line that is performed, makes of it.
use Rattle.std.proofs.Common.{◌≡◌, ◌≢◌, ℕ, true, false, ◌+◌, List, [], ◌∷◌, ◌++◌, Option, Some, eqb, length, take, refl, inl, inr, sym, ap, ◌∙◌, subst}
use Rattle.std.proofs.Common.{append_assoc, append-nil, arith, length-append}
use Rattle.std.specs.Io.KnownBytes.{IsAtEnd, Keeps}
use Rattle.std.specs.Prelude.{All}
use Rattle.std.specs.Str.Lines.{lines, strip_carriage_return}
use Rattle.std.proofs.KnownBytes.{Appends-kept, Appends-nil, Appends-trans}
use Rattle.std.proofs.lemmas.Bool.{ne_eqb, eqb-true, eqb-false}
use Rattle.std.proofs.lemmas.List.{nil_from_length}
use Rattle.mf_desk.specs.declared.fault.RunFault.{RunFault}
use Rattle.mf_desk.specs.declared.fault.RunFault.TheVariants.{OutOfMemory, WriteFault}
use Rattle.mf_desk.specs.declared.line_buffer.TheConstants.{MAX_KEPT}
use Rattle.mf_desk.specs.declared.observer.Stopped.{Stopped}
use Rattle.mf_desk.specs.declared.observer.Stopped.TheVariants.{Run, Observer}
use Rattle.mf_desk.specs.declared.performer.Performer.{Performer}
use Rattle.mf_desk.specs.declared.progress.Progress.{Progress}
use Rattle.mf_desk_session.specs.Answers.{Answers}
use Rattle.mf_desk.specs.Ended.{ended_of_parts, last_part, ended_lines, unended_line}
use Rattle.mf_desk.specs.Faults.{AreWholeLines, Breaks, IsTextSoFar, Stops, StopsAfter}
use Rattle.mf_desk.specs.Performer.{IsLineText, IsWritten}
use Rattle.mf_desk.specs.Progress.{HasCounted, HasReadNothing, IsAfter}
use Rattle.mf_desk.specs.Streams.{Gets, MakesPassage}
use Rattle.mf_desk_session.specs.Sessions.{HasPerformed, StandsFor, limits}
use Rattle.mf_desk_session.specs.States.{Answer, Limits, State, answer_with, answers_in_turn, start}
use Rattle.mf_desk_session.specs.Transcript.{Perform, due_lines}
use Rattle.mf_desk.proofs.Ended.{ended_lines-line_feed, unended_line-line_feed, ended_lines-unbroken, unended_line-unbroken, ended_lines-front, lines-last}
use Rattle.mf_desk.proofs.LongLines.{take-taken, Answers-kept, Answers-stripped}
use Rattle.mf_desk_session.proofs.Performing.{Perform-append, Perform-one}

-- the first of some completely read lines have been performed
pub first-text : (l : Limits) (left : Option (List ℕ)) (read : List ℕ) (done more : List (List ℕ)) (text : List ℕ) (last : State)
    → AreWholeLines left read (done ++ more) → Perform l start done (answer_with text last) → IsTextSoFar l left read text
first-text l left read done more text last are performed =
    record { whole = done ++ more; are = are; last = last; first = record { done = done; more = more; first = refl; performed = performed } }

-- nothing has been read
pub IsAfter-start : (held : Option (List ℕ)) (progress : Progress) → StandsFor progress.performer.session start
    → progress.performer.written ≡ 0 → progress.line ≡ [] → IsAfter held [] progress held
unfolding ended_of_parts last_part ended_lines unended_line
IsAfter-start held progress stands written line = record {
  lines = record {
    done = record { text = []; last = start; performed = refl; stands = stands; out = Appends-nil held };
    counted = written;
  };
  line = line;
}

-- a run that has read nothing has written nothing
pub nothing-written : (run : Progress) → HasReadNothing run → run.performer.written ≡ 0
nothing-written run start =
    let lines = (start (Some [])).lines in
    lines.counted ∙ ap length (sym lines.done.out)

-- a run that has taken these bytes
module _ (held holds : Option (List ℕ)) (read : List ℕ) (run : Progress) (after : IsAfter held read run holds) where
  abbrev bounds : Limits
  bounds = limits run.performer.session

  -- what has been performed by then
  abbrev so_far : HasPerformed (due_lines bounds start (ended_lines read)) run.performer.session held holds
  so_far = after.lines.done

  -- what it has answered
  abbrev answer_so_far : Answer
  answer_so_far = answer_with so_far.text so_far.last

  -- bytes without a line feed are read
  abbrev pub IsAfter-unbroken : (bytes : List ℕ) (new : Progress) → All (λ byte. byte ≢ 10) bytes → new.performer ≡ run.performer
      → new.line ≡ take MAX_KEPT (run.line ++ bytes) → IsAfter held (read ++ bytes) new holds
  IsAfter-unbroken bytes new unbroken same line = record {
    lines = record {
      done = record {
        text = so_far.text;
        last = so_far.last;
        performed = rw (same, ended_lines-unbroken read bytes unbroken) so_far.performed;
        stands = rw same so_far.stands;
        out = so_far.out;
      };
      counted = rw same after.lines.counted;
    };
    line = line ∙ ap (λ kept. take MAX_KEPT (kept ++ bytes)) after.line ∙ take-taken MAX_KEPT (unended_line read) bytes
        ∙ ap (take MAX_KEPT) (sym (unended_line-unbroken read bytes unbroken));
  }

  -- a line whose answer comes after the texts so far makes these the lines that have been performed
  abbrev Prolongs : List ℕ → List (List ℕ) → Type 0
  Prolongs line all = (a : Answer) → Answers bounds so_far.last line a → Perform bounds start all (answers_in_turn answer_so_far a)

  -- one more line has been performed, and its text written
  HasCounted-more : (later : Option (List ℕ)) (all : List (List ℕ)) (line : List ℕ) (new : Performer) → Prolongs line all
      → Gets holds later (IsWritten run.performer line new) → limits new.session ≡ bounds → HasCounted held all new later
  HasCounted-more later all line new prolongs (text, out, written) same =
      let answered = written.answered so_far.last so_far.stands in
      record {
        done = record {
          text = so_far.text ++ text;
          last = answered.next;
          performed = rw same (prolongs (answer_with text answered.next) answered.answer);
          stands = answered.stands;
          out = Appends-trans held holds later so_far.text text so_far.out out;
        };
        counted = written.counted ∙ ap (λ n. n + length text) after.lines.counted ∙ sym (length-append so_far.text text);
      }

  -- one more line has been performed than a line feed has ended
  Prolongs-next : (line : List ℕ) → Prolongs line (ended_lines read ++ line ∷ [])
  Prolongs-next line a answer =
      Perform-append bounds start (ended_lines read) (line ∷ []) answer_so_far a so_far.performed (Perform-one bounds so_far.last line a answer)

  -- an answer to this line is one to the complete line that a line feed ends
  abbrev StandsForEnded : List ℕ → Type 0
  StandsForEnded line = (a : Answer) → Answers bounds so_far.last line a → Answers bounds so_far.last (strip_carriage_return (unended_line read)) a

  -- the line that a line feed ends has been performed
  Prolongs-ended : (line : List ℕ) → StandsForEnded line → Prolongs line (ended_lines (read ++ 10 ∷ []))
  Prolongs-ended line whole a answer =
      subst (λ ls. Perform bounds start ls (answers_in_turn answer_so_far a)) (sym (ended_lines-line_feed read))
      (Prolongs-next (strip_carriage_return (unended_line read)) a (whole a answer))

  -- a line feed is read, and its line has been performed
  pub IsAfter-ended : (later : Option (List ℕ)) (line : List ℕ) (new : Progress) → StandsForEnded line
      → Gets holds later (IsWritten run.performer line new.performer)
      → limits new.performer.session ≡ bounds → new.line ≡ [] → IsAfter held (read ++ 10 ∷ []) new later
  IsAfter-ended later line new whole written same empty = record {
    lines = HasCounted-more later (ended_lines (read ++ 10 ∷ [])) line new.performer (Prolongs-ended line whole) written same;
    line = empty ∙ ap (take MAX_KEPT) (sym (unended_line-line_feed read));
  }

  -- the line that was kept may be cut
  pub StandsForEnded-kept : StandsForEnded (strip_carriage_return run.line)
  StandsForEnded-kept a answer =
      Answers-stripped bounds so_far.last (unended_line read) a
      (subst (λ line. Answers bounds so_far.last (strip_carriage_return line) a) after.line answer)

  -- an allocation fails between two lines
  pub Breaks-between : (left : Option (List ℕ)) (bytes more : List ℕ)
      → Gets held holds (MakesPassage (Breaks bounds OutOfMemory) left (read ++ bytes ++ more))
  Breaks-between left bytes more =
      let (others, before) = ended_lines-front read (bytes ++ more) in
      let first = ap ended_lines (append_assoc read bytes more) ∙ before in
      (so_far.text, so_far.out, first-text bounds left (read ++ bytes ++ more) (ended_lines read) others so_far.text so_far.last (inl first) so_far.performed)

  -- the run stops in the text of this line, or after it
  abbrev StopsLine : {F : Type 0} → List ℕ → Stopped F → Option (List ℕ) → Type 0
  StopsLine line stopped later = Gets holds later (StopsAfter (IsLineText run.performer line) run.performer.written stopped)

  -- the first completely read lines are the performed ones, and then the one in whose text, or after which, the run stops
  Stops-text : {F : Type 0} → (stopped : Stopped F) (left later : Option (List ℕ)) (bytes line : List ℕ) (others first following : List (List ℕ))
      → AreWholeLines left bytes (ended_lines read ++ others) → AreWholeLines left bytes (first ++ following) → Prolongs line first
      → StopsLine line stopped later → Gets held later (MakesPassage (Stops bounds stopped) left bytes)
  Stops-text (Run OutOfMemory) left later bytes line others first following before with_line performs stops =
      grind (arith, append-nil, Appends-trans, first-text, before, stops)
  Stops-text (Run (WriteFault count)) left later bytes line others first following before with_line performs stops =
      let (written, out, (more, count_is, (counted, rest, prints))) = stops in
      let (next, answer) = prints so_far.last so_far.stands in
      let all : Perform bounds start first (answer_with ((so_far.text ++ written) ++ rest) next) =
      rw (append_assoc so_far.text written rest) (performs (answer_with (written ++ rest) next) answer) in (
        so_far.text ++ written,
        Appends-trans held holds later so_far.text written so_far.out out,
        (
          omega (arith, counted, count_is, after.lines.counted, length-append so_far.text written),
          rest,
          first-text bounds left bytes first following _ next with_line all,
        ),
      )
  Stops-text (Run fault) left later bytes line others first following before with_line performs stops =
      let (written, out, none) = stops in absurd none
  Stops-text (Observer fault) left later bytes line others first following before with_line performs stops =
      let (text, out, prints) = stops in
      let (next, answer) = prints so_far.last so_far.stands in (
        so_far.text ++ text,
        Appends-trans held holds later so_far.text text so_far.out out,
        first-text bounds left bytes first following _ next with_line (performs (answer_with text next) answer),
      )

  -- the run stops in the text of a line that a line feed ends, or after it
  pub Stops-ended : {F : Type 0} → (stopped : Stopped F) (left later : Option (List ℕ)) (more line : List ℕ) → StandsForEnded line
      → StopsLine line stopped later → Gets held later (MakesPassage (Stops bounds stopped) left (read ++ 10 ∷ [] ++ more))
  Stops-ended stopped left later more line whole stops =
      let (others, before) = ended_lines-front read (10 ∷ more) in
      let (following, with_line) = ended_lines-front (read ++ 10 ∷ []) more in
      Stops-text stopped left later (read ++ 10 ∷ [] ++ more) line others (ended_lines (read ++ 10 ∷ [])) following
      (inl (ap ended_lines (append_assoc read (10 ∷ []) more) ∙ before)) (inl with_line) (Prolongs-ended line whole) stops

  -- there are bytes after the last line feed
  unended_line-some : eqb (length run.line) 0 ≡ false → eqb (length (unended_line read)) 0 ≡ false
  unended_line-some some = grind (arith, ne_eqb, eqb-false)

  -- the last line, which no line feed ends, has been performed
  Prolongs-last : eqb (length run.line) 0 ≡ false → Prolongs run.line (lines read)
  Prolongs-last some a answer =
      subst (λ ls. Perform bounds start ls (answers_in_turn answer_so_far a)) (sym (lines-last read (unended_line-some some)))
      (Prolongs-next (unended_line read) a
      (Answers-kept bounds so_far.last (unended_line read) a (subst (λ line. Answers bounds so_far.last line a) after.line answer)))

  pub Stops-last : {F : Type 0} → (stopped : Stopped F) (left later : Option (List ℕ)) → IsAtEnd left → eqb (length run.line) 0 ≡ false
      → StopsLine run.line stopped later → Gets held later (MakesPassage (Stops bounds stopped) left read)
  Stops-last stopped left later all_read some =
      Stops-text stopped left later read run.line (unended_line read ∷ []) (lines read) []
      (inr (all_read, lines-last read (unended_line-some some))) (inr (all_read, sym (append-nil _))) (Prolongs-last some)

  -- there is no byte after the last line feed
  pub unended_line-none : eqb (length run.line) 0 ≡ true → unended_line read ≡ []
  unended_line-none none = grind (arith, sym, eqb-true, nil_from_length)

  -- the last line ends with the script
  pub HasCounted-last : (later : Option (List ℕ)) (new : Performer) → eqb (length run.line) 0 ≡ false → limits new.session ≡ bounds
      → Gets holds later (IsWritten run.performer run.line new) → HasCounted held (lines read) new later
  HasCounted-last later new some same written = HasCounted-more later (lines read) run.line new (Prolongs-last some) written same

-- an allocation fails before anything is read
pub Breaks-nothing : (l : Limits) (left held : Option (List ℕ)) → Gets held held (MakesPassage (Breaks l OutOfMemory) left [])
Breaks-nothing l left held = ([], Appends-nil held, first-text l left [] [] (ended_lines []) [] start (inl refl) refl)

-- a line of which nothing was kept, so that all of it is in these bytes
module _ (held holds : Option (List ℕ)) (read bytes : List ℕ) (old : Progress) (after : IsAfter held read old holds)
    (none : eqb (length old.line) 0 ≡ true) (unbroken : All (λ byte. byte ≢ 10) bytes) where
  abbrev with_bytes : Progress
  with_bytes = record { performer = old.performer; line = take MAX_KEPT (old.line ++ bytes) }

  abbrev after_bytes : IsAfter held (read ++ bytes) with_bytes holds
  after_bytes = IsAfter-unbroken held holds read old after bytes with_bytes unbroken refl refl

  StandsForEnded-whole : StandsForEnded held holds (read ++ bytes) with_bytes after_bytes (strip_carriage_return bytes)
  StandsForEnded-whole a answer =
      let whole : unended_line (read ++ bytes) ≡ bytes =
      unended_line-unbroken read bytes unbroken ∙ ap (λ line. line ++ bytes) (unended_line-none held holds read old after none) in
      subst (λ line. Answers (limits old.performer.session) after.lines.done.last (strip_carriage_return line) a) (sym whole) answer

  pub IsAfter-whole : (later : Option (List ℕ)) (new : Progress)
      → Gets holds later (IsWritten old.performer (strip_carriage_return bytes) new.performer)
      → limits new.performer.session ≡ limits old.performer.session → new.line ≡ [] → IsAfter held (read ++ (bytes ++ 10 ∷ [])) new later
  IsAfter-whole later new written same empty =
      subst (λ all. IsAfter held all new later) (append_assoc read bytes (10 ∷ []))
      (IsAfter-ended held holds (read ++ bytes) with_bytes after_bytes later (strip_carriage_return bytes) new StandsForEnded-whole written same empty)

  pub Stops-whole : {F : Type 0} → (stopped : Stopped F) (left later : Option (List ℕ)) (more : List ℕ)
      → Gets holds later (StopsAfter (IsLineText old.performer (strip_carriage_return bytes)) old.performer.written stopped)
      → Gets held later (MakesPassage (Stops (limits old.performer.session) stopped) left (read ++ (bytes ++ 10 ∷ []) ++ more))
  Stops-whole stopped left later more stops =
      subst (λ front. Gets held later (MakesPassage (Stops (limits old.performer.session) stopped) left (front ++ more))) (append_assoc read bytes (10 ∷ []))
      (Stops-ended held holds (read ++ bytes) with_bytes after_bytes stopped left later more (strip_carriage_return bytes) StandsForEnded-whole stops)

-- the writer is flushed
pub HasCounted-flushed : (held holds later : Option (List ℕ)) (ls : List (List ℕ)) (performer : Performer) → Keeps holds later
    → HasCounted held ls performer holds → HasCounted held ls performer later
HasCounted-flushed held holds later ls performer same was = record {
  done = record {
    text = was.done.text;
    last = was.done.last;
    performed = was.done.performed;
    stands = was.done.stands;
    out = Appends-kept held holds later was.done.text was.done.out same;
  };
  counted = was.counted;
}

pub IsAfter-flushed : (held holds later : Option (List ℕ)) (read : List ℕ) (progress : Progress) → Keeps holds later
    → IsAfter held read progress holds → IsAfter held read progress later
IsAfter-flushed held holds later read progress same after =
    record { lines = HasCounted-flushed held holds later (ended_lines read) progress.performer same after.lines; line = after.line }

-- flushing the texts of these lines, which are all that were completely read, fails
pub Breaks-flush : {l : Limits} {held holds : Option (List ℕ)} {ls : List (List ℕ)} {performer : Performer} {fault : RunFault}
    (left later : Option (List ℕ)) (read : List ℕ) → HasCounted held ls performer holds → AreWholeLines left read (ls ++ [])
    → limits performer.session ≡ l → Keeps holds later → fault ≡ WriteFault performer.written → Gets held later (MakesPassage (Breaks l fault) left read)
Breaks-flush {l} {held} {holds} {ls} left later read was whole limits_are same is =
    let done = was.done in
    let performed : Perform l start ls (answer_with (done.text ++ []) done.last) =
    rw (append-nil done.text) (subst (λ m. Perform m start ls (answer_with done.text done.last)) limits_are done.performed) in
    subst (λ f. Gets held later (MakesPassage (Breaks l f) left read)) (sym is) (
      done.text,
      Appends-kept held holds later done.text done.out same,
      (sym was.counted, [], first-text l left read ls [] (done.text ++ []) done.last whole performed),
    )
