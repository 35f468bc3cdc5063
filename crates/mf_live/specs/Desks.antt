-- What contracts say about a desk.
use Rattle.std.specs.Prelude.{ℕ, length}
use Rattle.logbook.specs.Pages.{Book}
use Rattle.mf_live.specs.declared.desk.Desk.{Desk}
use Rattle.mf_live.specs.Viewers.{notice_identity}

-- the greatest number of viewers that a desk is asked for
abbrev pub most_places : ℕ
most_places = 64

-- which picture its viewers look at
abbrev pub desk_identity : Desk → Book
desk_identity d = notice_identity d.known

-- how many viewers are left
abbrev pub remaining_viewers : Desk → ℕ
remaining_viewers d = length d.viewers.items
