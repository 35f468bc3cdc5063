use Rattle.std.proofs.Common.{◌≡◌, true, List, ◌∙◌, subst, arith}
use Rattle.std.proofs.lemmas.Result.{MatchResult-weaker}
use Rattle.mf_live.specs.declared.sheet.SheetFault.{SheetFault}
use Rattle.mf_live.specs.declared.sheet.SheetFault.TheVariants.{NoLook, OutOfMemory as NoMemory}
use Rattle.mf_live.specs.declared.viewer.Viewer.{Viewer}
use Rattle.mf_live.specs.Entries.{Entry, is_closed}
use Rattle.mf_live.specs.Sheets.{HasLearnt, HasLooked, HasLookedLast, IsLastNotTaken, IsNotTaken}
use Rattle.mf_live.specs.Viewers.{Extends, IsPublished, looked_at_events, looked_at_list, told_list}
use Rattle.mf_live.proofs.Looking.{HasLearnt-same, published-ends, whole-closed}
use Rattle.mf_live.proofs.viewer.Viewer.last_sheet.Goals.{After-learn}
use Rattle.mf_live.proofs.viewer.Viewer.last_sheet.Goals as goal

module _ {first second : Viewer} {told : List Entry} (after : Viewer) (learns : HasLearnt first told second) (closed : is_closed told ≡ true) where
  -- a viewer that has learnt of the end, and then looked, has looked at the complete list
  looks_at_last : HasLooked second after → HasLookedLast first told after
  looks_at_last look =
      let both = learns.keeps (looked_at_list after) look.extends in
      let is = whole-closed told (looked_at_list after) both.1 (published-ends _ _ look.published) closed in (
        subst (Extends first) is both.0,
        record { looked = is; seen = look.seen ∙ is; published = subst (IsPublished (looked_at_events after)) is look.published },
      )

  not_taken : (fault : SheetFault) → IsNotTaken second after fault → IsLastNotTaken first told after fault
  not_taken NoLook same = HasLearnt-same first second after told learns same
  not_taken NoMemory look = looks_at_last look

-- the viewer has learnt of the end
learns : (c : After-learn) → HasLearnt c.args.self.now (told_list c.args.notice) c.learn.new.self
learns c = grind (arith)

pub returns-clause-sheet : goal.returns-clause-sheet
returns-clause-sheet c =
    let learns = learns (goal.at.returns-clause-sheet c).After-learn in
    MatchResult-weaker c.sheet.result c.sheet.ensures.taken (λ sheet taken. (
      taken.identity ∙ c.sheet.ensures.identity ∙ c.learn.ensures.identity,
      taken.list ∙ (looks_at_last _ learns c.requires.closed taken.look).1.looked,
    )) (λ _ _. tt)

pub returns-clause-extends : goal.returns-clause-extends
returns-clause-extends c =
    let learns = learns (goal.at.returns-clause-extends c).After-learn in
    MatchResult-weaker c.sheet.result c.sheet.ensures.taken (λ sheet taken. (looks_at_last _ learns c.requires.closed taken.look).0) (λ _ _. tt)

pub returns-clause-not_taken : goal.returns-clause-not_taken
returns-clause-not_taken c =
    let learns = learns (goal.at.returns-clause-not_taken c).After-learn in
    MatchResult-weaker c.sheet.result c.sheet.ensures.taken (λ _ _. tt) (not_taken _ learns c.requires.closed)

pub returns-clause-looked : goal.returns-clause-looked
returns-clause-looked c =
    let learns = learns (goal.at.returns-clause-looked c).After-learn in
    MatchResult-weaker c.sheet.result c.sheet.ensures.taken (λ sheet taken. (looks_at_last _ learns c.requires.closed taken.look).1) (λ _ _. tt)
