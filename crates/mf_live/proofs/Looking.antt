-- What is learnt and what is looked at, where both come from prefixes of one history.
use Rattle.std.proofs.Common.{◌≡◌, ◌≤◌, ◌∙◌, true, List, ◌++◌, length, inl, inr, refl, ap, sym, subst, arith}
use Rattle.std.proofs.lemmas.Bool.{cases_lt}
use Rattle.std.proofs.lemmas.List.{append-nil}
use mathlib.Core.List.{IsPrefix}
use Rattle.left_right.specs.Sides.{view}
use Rattle.mf_live.specs.declared.event.Line.{Line}
use Rattle.mf_live.specs.declared.notice.Notice.{Notice}
use Rattle.mf_live.specs.declared.version.Version.{Version}
use Rattle.mf_live.specs.declared.view.View.{View}
use Rattle.mf_live.specs.declared.viewer.Viewer.{Viewer}
use Rattle.mf_live.specs.Books.{greatest_limit}
use Rattle.mf_live.specs.Entries.{Entry, is_closed, is_nothing_after_end}
use Rattle.mf_live.specs.Events.{Event, events_of}
use Rattle.mf_live.specs.Prefixes.{IsWholePrefix, longer}
use Rattle.mf_live.specs.Rule.{IsLook, lines_of, version_list}
use Rattle.mf_live.specs.Sheets.{HasLearnt}
use Rattle.mf_live.specs.Viewers.{Extends, IsPublished, SeesTheSame, learnt_list, looked_at_list, notice_events, seen_list, told_list}
use Rattle.mf_live.specs.World.{Happen, new_world, published_list_of}
use Rattle.mf_live.proofs.EntryLists.{nothing_follows}
use Rattle.mf_live.proofs.Histories.{events_of-append, prefix_from}
use Rattle.mf_live.proofs.ListPrefixes.{prefix-shorter, prefix-trans}
use Rattle.mf_live.proofs.WholePrefixes.{whole-longer, whole-same, whole-self}
use Rattle.mf_live.proofs.Worlds.{lawful-after, published_list_grows}
use Rattle.std.proofs.lemmas.Int.{ints}

-- what a prefix of some lines has published is a whole prefix of what all of them have
pub published_prefix : (xs ys : List Line) → Happen greatest_limit new_world (events_of ys) → IsPrefix xs ys
    → IsWholePrefix (published_list_of (events_of xs)) (published_list_of (events_of ys))
published_prefix xs ys happen prefix =
    let all : events_of ys ≡ events_of xs ++ events_of prefix.0 = ap events_of (sym prefix.1) ∙ events_of-append xs prefix.0 in
    rw all (published_list_grows greatest_limit (events_of xs) (events_of prefix.0) (subst (Happen greatest_limit new_world) all happen))

-- of two notices that know prefixes of the same lines, the list with fewer entries is a whole prefix of the other
pub one_history : (m n : Notice) (lines : List Line) → IsPrefix m.knowledge.seen.log lines → IsPrefix n.knowledge.seen.log lines → m.entries ≤ n.entries
    → IsWholePrefix (told_list m) (told_list n)
one_history m n lines one other few = elim (cases_lt (length n.knowledge.seen.log) (length m.knowledge.seen.log)) [
  | inl shorter ↦
      let back = published_prefix n.knowledge.seen.log m.knowledge.seen.log m.lawful (prefix-shorter n.knowledge.seen.log m.knowledge.seen.log lines other one (omega (arith, shorter))) in
      rw (sym (whole-same (told_list n) (told_list m) back (omega (arith, few, m.counted, n.counted)))) (whole-self (told_list n))
  | inr long ↦
      published_prefix m.knowledge.seen.log n.knowledge.seen.log n.lawful (prefix-shorter m.knowledge.seen.log n.knowledge.seen.log lines one other long)
]

-- what a notice says was published by the events that it knows
pub is_published : (n : Notice) → IsPublished (notice_events n) (told_list n)
is_published n = record { happen = n.lawful; is = refl; all = n.whole }

-- nothing follows the end mark in what was published
pub published-ends : (events : List Event) (L : List Entry) → IsPublished events L → is_nothing_after_end L ≡ true
published-ends events L published =
    subst (λ (L : List Entry). is_nothing_after_end L ≡ true) published.all (lawful-after greatest_limit events published.happen).ended

-- a list extends what a viewer has seen where it extends what the viewer has looked at, and what it has learnt
pub extends_both : (v : Viewer) (L : List Entry) → IsWholePrefix (looked_at_list v) L → IsWholePrefix (learnt_list v) L → Extends v L
extends_both v L looked learnt = record { looked = looked; learnt = learnt; seen = whole-longer (looked_at_list v) (learnt_list v) L looked learnt }

-- a look extends what its viewer has seen, where the version's list extends what the viewer has learnt
pub Extends-look : (v : Viewer) (x : Version) (w : View) → IsLook (view v.reader.place) x w → IsWholePrefix (told_list v.known) (version_list x)
    → Extends v (version_list x)
Extends-look v x w looks learnt =
    let known = (looks.knows v.identified).prefix in
    let before = prefix-trans v.looked.seen.log _ (lines_of x) (prefix_from v.looked.seen.log _ v.kept) known in
    extends_both v (version_list x) (published_prefix v.looked.seen.log (lines_of x) x.notice.lawful before) learnt

seen_list-same : (before after : Viewer) → SeesTheSame before after → seen_list after ≡ seen_list before
seen_list-same before after same = ap (λ M. longer M (learnt_list after)) same.looked ∙ ap (longer (looked_at_list before)) same.learnt

-- a viewer that has learnt of a list, and sees what it saw then, has only learnt of the list
pub HasLearnt-same : (first second after : Viewer) (told : List Entry) → HasLearnt first told second → SeesTheSame second after → HasLearnt first told after
HasLearnt-same first second after told learns same = grind (arith, ints, seen_list-same second after same)

-- a list that has a closed list as a whole prefix is that closed list
pub whole-closed : (S L : List Entry) → IsWholePrefix S L → is_nothing_after_end L ≡ true → is_closed S ≡ true → L ≡ S
whole-closed S L whole ends closed = grind (arith, nothing_follows, append-nil)
