-- What viewers have seen, and the records that they keep of it.
use Rattle.std.specs.Prelude.{◌≡◌, ◌⊎◌, ◌≤◌, ◌+◌, ℕ, All, List, Vec, [], ◌∷◌, ◌++◌, length, vec_capacity}
use Rattle.std.specs.declared.alloc.Global.{Global}
use Rattle.logbook.specs.Pages.{Book}
use Rattle.mf_live.specs.Entries.{Entry, picture_at, revision_at}
use Rattle.mf_live.specs.Prefixes.{IsWholePrefix}
use Rattle.mf_live.specs.Viewers as viewers
use Rattle.mf_live.specs.declared.viewer.Viewer.{Viewer}
use Rattle.mf_rows.specs.Dots.{total_of}
use Rattle.mf_desk_watch.specs.declared.glance.Glance.{Glance}
use Rattle.mf_desk_watch.specs.declared.watcher.Watcher.{Watcher}

-- the glance that a look at a list gives
abbrev pub glance_at : List Entry → Glance
glance_at L = record { revision = revision_at L; total = total_of (picture_at L) }

-- the glance is at a whole prefix of this list
pub record IsGlance (whole : List Entry) (g : Glance) : Type 0 where
  pub list : List Entry
  pub prefix : IsWholePrefix list whole
  pub is : g ≡ glance_at list

-- the revisions never fall, from `low` on
abbrev pub NeverFall : ℕ → List Glance → Type 0
NeverFall low [] = Unit {0}
NeverFall low (g ∷ gs) = (low ≤ g.revision) × NeverFall g.revision gs

-- the record of this many looks, each at a whole prefix of this list, with revisions that never fall
pub record AreGlances (whole : List Entry) (looks : ℕ) (glances : List Glance) : Type 0 where
  pub counted : length glances ≡ looks
  pub each : All (IsGlance whole) glances
  pub never_fall : NeverFall 0 glances

-- the record of this many looks and one more, the last of them at the complete list
pub record HasSeen (whole : List Entry) (looks : ℕ) (glances : List Glance) : Type 0 where
  pub are : AreGlances whole (looks + 1) glances
  pub earlier : List Glance
  pub last : glances ≡ earlier ++ glance_at whole ∷ []

-- the viewer with which it looks
abbrev pub viewer_of : Watcher → Viewer
viewer_of w = w.viewer

-- what it saw in each look, in order
abbrev pub record_of : Watcher → Vec Glance Global
record_of w = w.seen

-- which picture it looks at
abbrev pub identity : Watcher → Book
identity w = viewers.identity (viewer_of w)

-- the seat of its viewer
abbrev pub seat : Watcher → ℕ
seat w = viewers.seat (viewer_of w)

-- it has the record of this many looks, each at a whole prefix of what its viewer has seen
abbrev pub IsRecord : ℕ → Watcher → Type 0
IsRecord looks w = AreGlances (viewers.seen_list (viewer_of w)) looks (record_of w).items

-- it has room for the record of this many more looks
abbrev pub HasRoomFor : ℕ → Watcher → Type 0
HasRoomFor more w = length (record_of w).items + more ≤ vec_capacity (record_of w)

-- the last of these glances, if there is one, is at this list
abbrev pub IsLastIn : List Entry → List Glance → Type 0
IsLastIn list glances = (glances ≡ []) ⊎ ((earlier : List Glance) × (glances ≡ earlier ++ glance_at list ∷ []))

-- a viewer of this picture, with the record of this many looks, the last of which is its last answered look, and with room for this many
-- more
pub record IsWatcher (picture : Book) (looks more : ℕ) (w : Watcher) : Type 0 where
  pub identity_is : identity w ≡ picture
  pub record_is : IsRecord looks w
  pub last_is : IsLastIn (viewers.looked_at_list (viewer_of w)) (record_of w).items
  pub room : HasRoomFor more w
