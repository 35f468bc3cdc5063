-- What may happen to a picture and to its viewers, and which of these events are written into its book.
use Rattle.std.specs.Prelude.{Bool, ℕ, List, [], ◌∷◌}
use Rattle.mf_ops.specs.declared.op.Op.{Op}
use Rattle.mf_live.specs.declared.event.Act.{Act}
use Rattle.mf_live.specs.declared.event.Act.TheVariants as act
use Rattle.mf_live.specs.declared.event.Line.{Line}
use Rattle.mf_live.specs.declared.event.WriterEvent.{WriterEvent}
use Rattle.mf_live.specs.declared.event.WriterEvent.TheVariants as writer

pub data Event : Type 0 where
  -- the writer accepts an operation
  Accept : Op → Event
  -- a call is refused
  Refuse : Event
  -- the writer sets the end mark
  Close : Event
  -- the writer publishes everything that it has accepted
  Publish : Event
  -- the writer goes away; the flag says whether it first publishes what it has accepted. A publish of which a notice tells is an event
  -- before, and the flag is false
  Discard : Bool → Event
  -- the viewer with this number looks
  Look : ℕ → Event
  -- a notice of what is published is made; one that a look makes tells what one made right after the publish that it shows would tell
  Tell : Event
  -- the viewer with the first number learns the notice with the second
  Learn : ℕ → ℕ → Event

-- a line of a book, as an event
abbrev pub event_of : WriterEvent → Event
event_of (writer.Accept op) = Accept op
event_of writer.Close = Close
event_of writer.Publish = Publish

-- what a writer does at a call
abbrev pub writer_event : Act → WriterEvent
writer_event (act.Accept op) = writer.Accept op.now
writer_event act.Close = writer.Close
writer_event act.Publish = writer.Publish

-- the events that these lines of a book tell
abbrev pub events_of : List Line → List Event
events_of [] = []
events_of (l ∷ ls) = event_of l.event ∷ events_of ls
