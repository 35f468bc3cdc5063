-- The rule that ties what each seat knows to the version that is shown, and what a look and a publish promise.
use Rattle.std.specs.Prelude.{◌≡◌, true, false, ℕ, List, []}
use mathlib.Core.List.{IsPrefix}
use mathlib.Core.Option.{some}
use lib.ListN.{get_elem?}
use Rattle.logbook.specs.Pages.{Book}
use Rattle.mf_live.specs.declared.event.Line.{Line}
use Rattle.mf_live.specs.declared.history.Knowledge.{Knowledge}
use Rattle.mf_live.specs.declared.version.Version.{Version}
use Rattle.mf_live.specs.declared.view.View.{View}
use Rattle.mf_live.specs.Entries.{Entry}
use Rattle.mf_live.specs.Events.{events_of}
use Rattle.mf_live.specs.World.{published_list_of}

-- what a version knows of the history of its picture
abbrev pub knowledge_of : Version → Knowledge
knowledge_of x = x.notice.knowledge

-- which picture it is
abbrev pub book_of : Version → Book
book_of x = (knowledge_of x).seen.book

-- the lines of the book that it knows
abbrev pub lines_of : Version → List Line
lines_of x = (knowledge_of x).seen.log

-- the list that these have published, which the version shows
abbrev pub version_list : Version → List Entry
version_list x = published_list_of (events_of (lines_of x))

-- the knowledge is of the book b, and its lines are a prefix of these
pub record IsKnowledgeOf (b : Book) (lines : List Line) (k : Knowledge) : Type 0 where
  pub book : k.seen.book ≡ b
  pub prefix : IsPrefix k.seen.log lines

-- once a seat knows which picture it looks at, what it knows of the history is a prefix of what the shown version knows
abbrev pub Knows : Version → View → Type 0
Knows x v = v.identified ≡ true → IsKnowledgeOf (book_of x) (lines_of x) v.knowledge

-- the rule: this is so of each seat
pub record EachSeatKnows (x : Version) (views : List View) : Type 0 where
  pub each_seat : (seat : ℕ) (v : View) → get_elem? views seat ≡ some v → Knows x v

-- the knowledge of a seat that knows nothing yet
abbrev pub no_knowledge : Knowledge
no_knowledge = record { seen = record { marker = record {}; book = record { number = 0; log_name = 0; cells_name = 0 }; names = []; log = [] } }

-- the view of a seat that does not know which picture it is
abbrev pub newcomer : View
newcomer = record { identified = false; knowledge = no_knowledge }

-- the view of a seat that knows this much of a picture's history
abbrev pub view_knowing : Knowledge → View
view_knowing k = record { identified = true; knowledge = k }

-- the shown version y knows everything that the seat knew of the history; the seat then knows what y knows
pub record IsLook (v : View) (y : Version) (w : View) : Type 0 where
  pub knows : Knows y v
  pub is : w ≡ record { identified = v.identified; knowledge = knowledge_of y }

-- the writer knows what the version knows that it has just shown
abbrev pub IsShow : View → Version → Version → View → Type 0
IsShow v x y w = w ≡ view_knowing (knowledge_of y)
