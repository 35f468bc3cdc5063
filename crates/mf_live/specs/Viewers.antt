-- What contracts say about viewers, looks and notices.
use Rattle.std.specs.Prelude.{◌≡◌, ℕ, List, []}
use Rattle.logbook.specs.Pages.{Book}
use Rattle.left_right.specs.Sides.{view}
use Rattle.mf_live.specs.declared.history.Knowledge.{Knowledge}
use Rattle.mf_live.specs.declared.look.Look.{Look}
use Rattle.mf_live.specs.declared.notice.Notice.{Notice}
use Rattle.mf_live.specs.declared.viewer.Viewer.{Viewer}
use Rattle.mf_live.specs.Books.{greatest_limit}
use Rattle.mf_live.specs.Entries.{Entry}
use Rattle.mf_live.specs.Events.{Event, events_of}
use Rattle.mf_live.specs.Prefixes.{IsWholePrefix, longer}
use Rattle.mf_live.specs.World.{Happen, new_world, accepted_list_of, published_list_of}

-- which picture a notice is of
abbrev pub notice_identity : Notice → Book
notice_identity n = n.knowledge.seen.book

-- the events of its picture that it knows
abbrev pub notice_events : Notice → List Event
notice_events n = events_of n.knowledge.seen.log

-- the list that a notice says is published
abbrev pub told_list : Notice → List Entry
told_list n = published_list_of (notice_events n)

-- which picture a viewer looks at
abbrev pub identity : Viewer → Book
identity v = notice_identity v.known

-- the number of its seat, by which viewers of a picture are told apart
abbrev pub seat : Viewer → ℕ
seat v = v.reader.place.id

-- the events of its picture that a viewer knew in its last look that was answered
abbrev pub looked_at_events : Viewer → List Event
looked_at_events v = events_of v.looked.seen.log

-- the list of the last look that was answered
abbrev pub looked_at_list : Viewer → List Entry
looked_at_list v = published_list_of (looked_at_events v)

-- the longest list that a viewer has learnt of
abbrev pub learnt_list : Viewer → List Entry
learnt_list v = told_list v.known

-- what a viewer has looked at or learnt of
abbrev pub seen_list : Viewer → List Entry
seen_list v = longer (looked_at_list v) (learnt_list v)

-- these events may all happen, in this order, and L is both what they have published and everything that they have accepted
pub record IsPublished (events : List Event) (L : List Entry) : Type 0 where
  pub happen : Happen greatest_limit new_world events
  pub is : published_list_of events ≡ L
  pub all : accepted_list_of events ≡ L

-- everything that the viewer has looked at or learnt of is a whole prefix of L
pub record Extends (v : Viewer) (L : List Entry) : Type 0 where
  pub looked : IsWholePrefix (looked_at_list v) L
  pub learnt : IsWholePrefix (learnt_list v) L
  pub seen : IsWholePrefix (seen_list v) L

-- a viewer has seen what it had seen before
pub record SeesTheSame (before after : Viewer) : Type 0 where
  pub looked : looked_at_list after ≡ looked_at_list before
  pub learnt : learnt_list after ≡ learnt_list before

-- which picture a look is of
abbrev pub look_identity : Look → Book
look_identity l = notice_identity l.known

-- the seat of its viewer
abbrev pub look_seat : Look → ℕ
look_seat l = l.reading.place.id

-- the longest list that its viewer has learnt of
abbrev pub look_learnt_list : Look → List Entry
look_learnt_list l = told_list l.known

-- the events of its picture that a look knows: all up to the publish that it shows
abbrev pub look_events : Look → List Event
look_events l = events_of (view l.reading.place).knowledge.seen.log

-- the list that a look shows
abbrev pub shown_list : Look → List Entry
shown_list l = published_list_of (look_events l)

-- a viewer of the picture with this knowledge that has seen nothing
pub record IsFresh (k : Knowledge) (v : Viewer) : Type 0 where
  pub identity : identity v ≡ k.seen.book
  pub looked : looked_at_list v ≡ []
  pub learnt : learnt_list v ≡ []
