-- Each step keeps the rule that ties what each seat knows to the version that is shown.
use Rattle.std.proofs.Common.{◌≡◌, ◌≢◌, ℕ, false, List, [], ◌∷◌, ◌++◌, set, refl, sym, subst, ◌∙◌, ⊎_elim, arith}
use Rattle.std.proofs.lemmas.Bool.{false≢true}
use mathlib.Core.List.{IsPrefix}
use mathlib.Core.Option.{some}
use lib.ListN.{get_elem?}
use Rattle.atomic_table.proofs.Lists.{at_set, at_snoc}
use Rattle.crossbeam_utils.specs.Register.{Admits, Turns, TurnsAt, Forks, Merges}
use Rattle.mf_live.specs.declared.version.Version.{Version}
use Rattle.mf_live.specs.declared.view.View.{View}
use Rattle.mf_live.specs.Rule.{EachSeatKnows, Knows, IsLook, IsShow, newcomer, view_knowing, knowledge_of, book_of, lines_of}
use Rattle.mf_live.proofs.ListPrefixes.{prefix-self, prefix-trans}
use Rattle.std.proofs.lemmas.Int.{ints}

-- a seat that knows what the version knows
knows_itself : (x : Version) (v : View) → v.knowledge ≡ knowledge_of x → Knows x v
knows_itself x v same identified = rw same (record { book = refl; prefix = prefix-self (lines_of x) })

-- the rule asks nothing of a seat that does not know which picture it is
knows_nothing : (x : Version) (v : View) → v.identified ≡ false → Knows x v
knows_nothing x v unidentified identified = absurd (false≢true (sym unidentified ∙ identified))

-- one seat gets another view, and the others know of y what they knew of x
EachSeatKnows-step : (x y : Version) (views : List View) (seat : ℕ) (w : View) → ((v : View) → Knows x v → Knows y v) → EachSeatKnows x views → Knows y w
    → EachSeatKnows y (set views seat w)
EachSeatKnows-step x y views seat w still kept here = record {
  each_seat = λ other v at. ⊎_elim (λ (this : (other ≡ seat) × (w ≡ v)). subst (Knows y) this.1 here)
      (λ (that : (other ≢ seat) × (get_elem? views other ≡ some v)). still v (kept.each_seat other v that.1)) (at_set views seat other w v at);
}

-- one seat gets another view, and the version stays
EachSeatKnows-set : (x : Version) (views : List View) (seat : ℕ) (w : View) → EachSeatKnows x views → Knows x w → EachSeatKnows x (set views seat w)
EachSeatKnows-set x views seat w = EachSeatKnows-step x x views seat w (λ v knows. knows)

-- a seat is added
EachSeatKnows-push : (x : Version) (views : List View) (w : View) → EachSeatKnows x views → Knows x w → EachSeatKnows x (views ++ w ∷ [])
EachSeatKnows-push x views w kept here = grind (arith, at_snoc)

-- a newcomer knows nothing
pub admits : Admits EachSeatKnows newcomer
admits x views kept = EachSeatKnows-push x views newcomer kept (knows_nothing x newcomer refl)

-- the writer hands out what it knows, and keeps it
pub forks : (seat : ℕ) (v : View) → Forks EachSeatKnows seat v v v
forks seat v x views kept at = grind (arith, EachSeatKnows-push, EachSeatKnows-set, ints)

-- a seat takes over what another knows
pub merges : {seat : ℕ} {v : View} {other : ℕ} {w : View} → Merges EachSeatKnows seat v other w w newcomer
merges {seat} {v} {other} {w} x views kept at apart there = grind (arith, at_set, EachSeatKnows-set, knows_nothing)

-- a look keeps the rule
pub looks : (seat : ℕ) (v : View) → Turns EachSeatKnows seat v (λ x. x) (λ v x y w. IsLook v y w)
looks seat v x views kept at =
    let w : View = record { identified = v.identified; knowledge = knowledge_of x } in
    (w, EachSeatKnows-set x views seat w kept (knows_itself x w refl), record { knows = kept.each_seat seat v at; is = refl })

-- what is known of x is known of y, where y knows more of the same history
knows_more : (x y : Version) → book_of y ≡ book_of x → IsPrefix (lines_of x) (lines_of y) → (v : View) → Knows x v → Knows y v
knows_more x y book more v knows identified =
    let known = knows identified in
    record { book = known.book ∙ sym book; prefix = prefix-trans v.knowledge.seen.log (lines_of x) (lines_of y) known.prefix more }

-- a publish keeps the rule where the new version knows more of the history
pub publishes : (seat : ℕ) (v : View) (x y : Version) → book_of y ≡ book_of x → IsPrefix (lines_of x) (lines_of y) → TurnsAt EachSeatKnows seat v x y IsShow
publishes seat v x y book more views kept at =
    let w = view_knowing (knowledge_of y) in
    (w, EachSeatKnows-step x y views seat w (knows_more x y book more) kept (knows_itself y w refl), refl)
