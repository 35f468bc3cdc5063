-- What contracts say about taking a sheet.
use Rattle.std.specs.Prelude.{◌≡◌, List}
use Rattle.logbook.specs.Pages.{Book}
use Rattle.mf_live.specs.declared.sheet.Sheet.{Sheet}
use Rattle.mf_live.specs.declared.sheet.SheetFault.{SheetFault}
use Rattle.mf_live.specs.declared.sheet.SheetFault.TheVariants.{NoLook, OutOfMemory}
use Rattle.mf_live.specs.declared.viewer.Viewer.{Viewer}
use Rattle.mf_live.specs.Entries.{Entry}
use Rattle.mf_live.specs.Prefixes.{IsWholePrefix, longer}
use Rattle.mf_live.specs.Viewers.{Extends, IsPublished, SeesTheSame, identity, learnt_list, looked_at_list, looked_at_events, notice_identity, seen_list, told_list}

-- of which picture a sheet is, and the list that it shows
abbrev pub sheet_identity : Sheet → Book
sheet_identity s = notice_identity s.notice

abbrev pub sheet_list : Sheet → List Entry
sheet_list s = told_list s.notice

-- a viewer has looked at a list of which everything that it had seen is a whole prefix. It has seen that list, which the events that it
-- knows have published, and has learnt nothing more
pub record HasLooked (before after : Viewer) : Type 0 where
  pub extends : Extends before (looked_at_list after)
  pub learnt : learnt_list after ≡ learnt_list before
  pub seen : seen_list after ≡ looked_at_list after
  pub published : IsPublished (looked_at_events after) (looked_at_list after)

-- a sheet has what its look showed
pub record IsTaken (before after : Viewer) (sheet : Sheet) : Type 0 where
  pub look : HasLooked before after
  pub identity : sheet_identity sheet ≡ identity after
  pub list : sheet_list sheet ≡ looked_at_list after

-- where there is no sheet, the viewer has not looked, or an allocation failed after it had
abbrev pub IsNotTaken : Viewer → Viewer → SheetFault → Type 0
IsNotTaken before after NoLook = SeesTheSame before after
IsNotTaken before after OutOfMemory = HasLooked before after

-- a viewer has learnt of a list, and has not looked; whatever it looks at from then on includes that list and what it had seen
pub record HasLearnt (before : Viewer) (whole : List Entry) (after : Viewer) : Type 0 where
  pub looked : looked_at_list after ≡ looked_at_list before
  pub learnt : learnt_list after ≡ longer (learnt_list before) whole
  pub keeps : (L : List Entry) → Extends after L → Extends before L × IsWholePrefix whole L

-- a viewer has looked at a list that the events that it knows have published, and that list is all that it has seen
pub record HasLookedAt (whole : List Entry) (after : Viewer) : Type 0 where
  pub looked : looked_at_list after ≡ whole
  pub seen : seen_list after ≡ whole
  pub published : IsPublished (looked_at_events after) whole

-- a viewer has looked at the complete list, of which everything that it had seen before is a whole prefix
abbrev pub HasLookedLast : Viewer → List Entry → Viewer → Type 0
HasLookedLast before whole after = Extends before whole × HasLookedAt whole after

-- where there is no sheet of the complete list, the viewer has only learnt of the list, or an allocation failed after it had
-- looked at the list
abbrev pub IsLastNotTaken : Viewer → List Entry → Viewer → SheetFault → Type 0
IsLastNotTaken before whole after NoLook = HasLearnt before whole after
IsLastNotTaken before whole after OutOfMemory = HasLookedLast before whole after
