-- What contracts say about what the writer of a picture holds.
use Rattle.std.specs.Prelude.{List}
use Rattle.logbook.specs.Pages.{Book}
use Rattle.mf_live.specs.declared.history.Knowledge.{Knowledge}
use Rattle.mf_live.specs.declared.holder.Holder.{Holder}
use Rattle.mf_live.specs.declared.version.Version.{Version}
use Rattle.mf_live.specs.Entries.{Entry}
use Rattle.mf_live.specs.Events.{Event, events_of}
use Rattle.mf_live.specs.World.{accepted_list_of, published_list_of}

-- the version that its copies show
abbrev pub version : Holder → Version
version h = h.swap.desk.shown.value

-- all of the picture's history
abbrev pub knowledge : Holder → Knowledge
knowledge h = h.history.known

-- which picture it is
abbrev pub identity : Holder → Book
identity h = (knowledge h).seen.book

-- the events that have happened to it
abbrev pub events : Holder → List Event
events h = events_of (knowledge h).seen.log

-- what these events have accepted, and what they have published
abbrev pub accepted_list : Holder → List Entry
accepted_list h = accepted_list_of (events h)

abbrev pub published_list : Holder → List Entry
published_list h = published_list_of (events h)
