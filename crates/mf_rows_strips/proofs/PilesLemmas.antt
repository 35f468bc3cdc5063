-- Piles of parts.
use Rattle.std.proofs.Common.{◌≡◌, to_z, of_z, w32, ℕ, ◌+◌, ◌<◌, ◌≤◌, ℤ, pos, ◌+ℤ◌, ◌≤ℤ◌, List, [], ◌∷◌, ◌++◌, length, get_or, take, map, refl, ap, sym, ◌∙◌, length-append, arith}
use Rattle.std.proofs.Math.ListN.{set}
use Rattle.std.proofs.Math.Seq.{take-set-lt}
use Rattle.std.proofs.lemmas.List.{length-map, nil_from_length, take_all, take_more, take_more_set}
use Rattle.std.specs.Arc.{arc_value}
use Rattle.std.specs.declared.alloc.Global.{Global}
use Rattle.std.specs.declared.sync.Arc.{Arc}
use Rattle.std.proofs.lemmas.Int.{ints}
use Rattle.mf_geom.specs.Field.{IsInField}
use Rattle.mf_rows_edges.specs.Edges.{weight_in}
use Rattle.mf_rows_edges.specs.LawfulWeights.{greatest_weight, IsInReach}
use Rattle.mf_rows_strips.specs.declared.part.Part.{Part}
use Rattle.mf_rows_strips.specs.Parts.{strips_in, weight_in_part, weight_in_parts}
use Rattle.mf_rows_strips.specs.Piles.{most_parts, ArePiled}
use Rattle.mf_rows_strips.specs.declared.pile.Pile.{Pile}
use Rattle.mf_rows_strips.specs.PileWeights.{weight_in_pile, weight_with_part}
use Rattle.mf_rows_strips.specs.Strips.{EdgeStrip, row_in, weight_in_strips, AreStrips, HaveStripWeights, IsUnlawfulSomewhere}
use Rattle.mf_rows_strips.specs.Sums.{sum_in_strips}
use Rattle.mf_rows_strips.proofs.PileReads.{weight_pushed}
use Rattle.mf_rows_strips.proofs.StripsLemmas.{row_reached, none_reached}

-- ---- reaches

part_in_reach : (p : Part) (x y : ℤ) → IsInReach p.reach (weight_in_part p x y)
unfolding weight_in_strips
part_in_reach p x y =
    (row_reached _ p.reach [] (strips_in p) y (none_reached p.reach p.lawful.least p.lawful.most) p.lawful.strips).within x

pub piled_least : {ps : List (Arc Part Global)} {reach : ℤ} → ArePiled ps reach → pos 0 ≤ℤ reach
piled_least piled = let some = piled.within (pos 0) (pos 0) in omega (arith, ints, some.least, some.greatest)

-- fewer parts, or as many, may take the place of those of a pile where they have the same weights
pub same_piled : {ps qs : List (Arc Part Global)} {reach : ℤ} → length qs ≤ length ps → weight_in_parts qs ≡ weight_in_parts ps
    → ArePiled ps reach → ArePiled qs reach
same_piled fewer same piled =
    record { few = omega (arith, piled.few); within = rw same piled.within; most = piled.most }

-- ---- parts that are shared

pub weights_shared : (ps qs : List (Arc Part Global)) → map arc_value qs ≡ map arc_value ps → weight_in_parts qs ≡ weight_in_parts ps
unfolding weight_in_parts
weights_shared [] [] same = refl
weights_shared [] (q ∷ qs) same = absurd cc
weights_shared (p ∷ ps) [] same = absurd cc
weights_shared (p ∷ ps) (q ∷ qs) same =
    let first : arc_value q ≡ arc_value p = cc in
    let others : map arc_value qs ≡ map arc_value ps = cc in
    λ i x y. weight_in_part (first i) x y +ℤ weights_shared ps qs others i x y

pub shared_piled : (ps qs : List (Arc Part Global)) (reach : ℤ) → map arc_value qs ≡ map arc_value ps → ArePiled ps reach → ArePiled qs (to_z w32 (of_z w32 reach))
shared_piled ps qs reach same piled =
    let is : to_z w32 (of_z w32 reach) ≡ reach = omega (arith, ints, piled_least piled, piled.most) in
    let count : length qs ≤ length ps = omega (arith, length-map ps arc_value, length-map qs arc_value, ap (λ (vs : List Part). length vs) same) in
    rw is (same_piled count (weights_shared ps qs same) piled)

-- ---- a part that is added

pub pushed_weights : (p : Pile) (q : Arc Part Global) (ps : List (Arc Part Global)) → weight_in_parts ps ≡ weight_in_pile p
    → weight_in_parts (ps ++ q ∷ []) ≡ weight_with_part p (arc_value q)
unfolding weight_with_part
pushed_weights p q ps before = λ i x y. (weight_pushed ps q x y ∙ (λ t. before t x y +ℤ weight_in_part (arc_value q) x y)) i

pub pushed_piled : (ps : List (Arc Part Global)) (q : Arc Part Global) (reach : ℤ) → ArePiled ps reach → length ps < most_parts
    → (reach +ℤ (arc_value q).reach) ≤ℤ greatest_weight → ArePiled (ps ++ q ∷ []) (reach +ℤ (arc_value q).reach)
pushed_piled ps q reach piled few lawful = record {
  few = omega (arith, few, length-append ps (q ∷ []));
  within = λ x y.
      let own = part_in_reach (arc_value q) x y in
      let others = piled.within x y in
      let both = weight_pushed ps q x y in
      record { least = omega (arith, ints, own.least, others.least); greatest = omega (arith, ints, own.greatest, others.greatest) };
  most = lawful;
}

-- the reaches of a pile and of a part together, as the code adds them
pub sum_is_small : (a r x : ℤ) → pos 0 ≤ℤ a → a ≤ℤ greatest_weight → pos 0 ≤ℤ r → r ≤ℤ greatest_weight → x ≡ r
    → to_z w32 (of_z w32 (to_z w32 (of_z w32 a) +ℤ to_z w32 (of_z w32 x))) ≡ a +ℤ r
sum_is_small a r x least_a most_a least_r most_r is = omega (arith, ints)

-- a pile of one part
pub single_weight : (p : Arc Part Global) → weight_in_parts (p ∷ []) ≡ weight_in_part (arc_value p)
unfolding weight_in_parts
single_weight p =
    let same : (x y : ℤ) → weight_in_part (arc_value p) x y +ℤ pos 0 ≡ weight_in_part (arc_value p) x y = λ x y. omega (arith, ints) in
    λ i x y. same x y i

pub single_piled : (p : Arc Part Global) → ArePiled (p ∷ []) (arc_value p).reach
single_piled p = record {
  few = omega arith;
  within = λ x y. rw single_weight (part_in_reach (arc_value p) x y);
  most = (arc_value p).lawful.most;
}

pub none_piled : ArePiled [] (pos 0)
unfolding weight_in_parts
none_piled = record { few = omega arith; within = λ x y. record { least = omega (arith, ints); greatest = omega (arith, ints) }; most = omega (arith, ints) }

-- ---- the last two parts are joined

module _ (ps : List (Arc Part Global)) (n : ℕ) {less : ℕ} {p q : Arc Part Global} (s : Arc Part Global) (sum : Part) (count : n + 2 ≡ length ps) (last : less ≡ n + 1)
    (first : p ≡ get_or ps n p) (second : q ≡ get_or ps (n + 1) q) (is : arc_value s ≡ sum)
    (made : HaveStripWeights (sum_in_strips (strips_in (arc_value p)) (strips_in (arc_value q))) (strips_in sum)) where
  after : set (take less ps) n s ≡ take n ps ++ s ∷ []
  after = rw last (sym (take-set-lt (n + 1) ps n s (omega arith)) ∙ take_more_set ps n s (omega arith))

  before : ps ≡ (take n ps ++ p ∷ []) ++ q ∷ []
  before =
      sym (take_all (n + 1 + 1) ps (omega arith)) ∙ take_more ps (n + 1) q (omega arith)
      ∙ (λ i. take_more ps n p (omega arith) i ++ sym second i ∷ []) ∙ (λ i. (take n ps ++ sym first i ∷ []) ++ q ∷ [])

  joined : (x y : ℤ) → weight_in_parts (set (take less ps) n s) x y ≡ weight_in_parts ps x y
  unfolding sum_in_strips
  joined x y =
      let front = take n ps in
      let all = ap (λ ps. weight_in_parts ps x y) before in
      let own = made.weights x y in
      rw after (omega (arith, ints, all, own, ap (λ p. weight_in_part p x y) is, weight_pushed front s x y, weight_pushed front p x y, weight_pushed (front ++ p ∷ []) q x y))

  pub weights_joined : weight_in_parts (set (take less ps) n s) ≡ weight_in_parts ps
  weights_joined = λ i x y. joined x y i

-- ---- one part alone

-- where there is at most one part, it has all weights
pub alone : (f : ℤ → ℤ → ℤ) (ps others : List (Arc Part Global)) (p : Arc Part Global) → length ps ≤ 1 → ps ≡ others ++ p ∷ [] → weight_in_parts ps ≡ f
    → HaveStripWeights f (strips_in (arc_value p))
alone f ps others p one all weights =
    let none : others ≡ [] = nil_from_length others (omega (arith, one, ap (λ (ps : List (Arc Part Global)). length ps) all, length-append others (p ∷ []))) in
    let single = sym (single_weight p) ∙ ap weight_in_parts (sym (all ∙ (λ i. none i ++ p ∷ []))) ∙ weights in
    record { weights = λ x y i. single i x y }

-- where there is none, all weights are 0
pub none_alone : (f : ℤ → ℤ → ℤ) (ps : List (Arc Part Global)) (ss : List EdgeStrip) → ps ≡ [] → ss ≡ [] → weight_in_parts ps ≡ f → HaveStripWeights f ss
unfolding weight_in_parts weight_in_strips row_in weight_in
none_alone f ps ss none no_strips weights =
    let all = ap weight_in_parts (sym none) ∙ weights in
    record { weights = λ x y. rw no_strips (λ i. all i x y) }

pub no_strips : AreStrips (pos 0) []
unfolding row_in
no_strips = record { strips = tt; closed = refl; least = omega (arith, ints); most = omega (arith, ints) }

-- ---- a part is added to all others

pub sum_is : (p : Pile) (all part : Part) → HaveStripWeights (weight_in_pile p) (strips_in all)
    → sum_in_strips (strips_in all) (strips_in part) ≡ weight_with_part p part
unfolding sum_in_strips weight_with_part
sum_is p all part whole = λ i x y. whole.weights x y i +ℤ weight_in_part part x y

-- weights that are equal in the field are unlawful together
pub unlawful_as : {f g : ℤ → ℤ → ℤ} (unlawful : IsUnlawfulSomewhere f) → (IsInField unlawful.x unlawful.y → g unlawful.x unlawful.y ≡ f unlawful.x unlawful.y)
    → IsUnlawfulSomewhere g
unlawful_as unlawful same = grind (arith, ints)

-- what the methods of piles use
pub ruleset of_piles = (ints, alone, none_piled, single_piled, single_weight, weights_shared)
