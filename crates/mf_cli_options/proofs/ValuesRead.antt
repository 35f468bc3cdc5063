-- What a parse gives for an option: a text that the parser of the option accepted.
use Rattle.std.proofs.Common.{◌≡◌, ◌∙◌, ◌<◌, ℕ, Bool, not, zero, suc, All, Bor, IfSome, List, [], ◌∷◌}
use Rattle.std.proofs.Common.{None, Option, Some, ap, arith, bytes_eq, codes, false, inl, inr, length}
use Rattle.std.proofs.Common.{map, option_map, pos, refl, slice_get, slice_index_or, subst, sym, true, unwrap_or}
use Rattle.std.proofs.lemmas.Bool.{cases_lt}
use Rattle.std.proofs.lemmas.List.Elements.{All-get_or}
use Rattle.std.proofs.lemmas.Slice.Eq.{bytes_eq-Decides}
use Rattle.clap.proofs.CallerLemmas.{entry_by_id}
use Rattle.clap.proofs.SimpleLemmas.{all_simple, plain_fields, simple_groups}
use Rattle.clap.proofs.WalkLemmas.{both, one_text-rows}
use Rattle.clap.specs.Built.{IsAuto, IsParsedFrom, SameRules}
use Rattle.clap.specs.Facts.{Entry, EntryPasses, HasReading, PassesArg, parser_of, parser_of_value}
use Rattle.clap.specs.Matches.{matched_of}
use Rattle.clap.specs.Simple.{has_simple_rules, is_buildable}
use Rattle.clap.specs.Values.{Accepts, read_as, reading_of}
use Rattle.clap.specs.Words.{Rule, Text, app_of, args_of, found_of, groups_of, is_simple, is_simple_and_free, one_of, one_text, rows_of, rule_of, shape_of}
use Rattle.clap.specs.declared.builder.arg.Arg.{Arg}
use Rattle.clap.specs.declared.builder.command.Command.{Command}
use Rattle.clap.specs.declared.builder.command.Command.TheViews.{out-Command}
use Rattle.clap.specs.declared.builder.value_parser.Reading.{Reading}
use Rattle.clap.specs.declared.builder.value_parser.ValueParser.{ValueParser}
use Rattle.clap.specs.declared.builder.value_parser.ValueParser.TheVariants as parser
use Rattle.clap.specs.declared.parser.matches.ArgMatches.{ArgMatches}
use Rattle.clap.specs.declared.parser.matches.MatchedArg.{MatchedArg}
use Rattle.mf_cli_options.proofs.ValuesTyped.{in_range}
use Rattle.mf_cli_options.specs.Values.{AreValuesOf, IsFlagText, IsNumberIn, IsValueOf, have_parser, is_option, is_parser}

is_parser-same : (q : ValueParser) (o : Option ValueParser) → is_parser q o ≡ true → o ≡ Some q
is_parser-same (parser.Signed (pos low) (pos high)) (Some (parser.Signed (pos a) (pos b))) e = grind (arith, both)
is_parser-same parser.Bool (Some parser.Bool) e = refl
is_parser-same _ _ e = cc

parts_of : (rules : List Rule) (id : Text) (q : ValueParser) → is_option rules id q ≡ true
    → (have_parser id q rules ≡ true) × (not (bytes_eq id (codes "help")) ≡ true) × (not (bytes_eq id (codes "version")) ≡ true)
    × (not (bytes_eq id []) ≡ true)
parts_of rules id q ok = grind (arith, both)

found_at : (id : Text) (q : ValueParser) (xs : List Arg) → have_parser id q (map rule_of xs) ≡ true
    → (j : ℕ) (e : Arg) → j < length xs → bytes_eq (slice_index_or xs j e).id.now id ≡ true
    → is_parser q (slice_index_or xs j e).value_parser ≡ true
found_at id q [] ok j e lt key = absurd (omega arith)
found_at id q (x ∷ xs) ok zero e lt key = grind (arith, both)
found_at id q (x ∷ xs) ok (suc j) e lt key = found_at id q xs (both _ _ ok).1 j e (omega arith) key

-- the first value of an entry has what all its values have
head_of : (P : Bor Text → Type 0) (how : Reading) (vs : List (Bor Text)) (t : Text) → All P vs
    → option_map (λ s. read_as how s.now) (slice_get vs 0) ≡ Some t
    → (v : Bor Text) × (t ≡ read_as how v.now) × P v
head_of P how [] t all e = cc
head_of P how (v ∷ vs) t all e = (v, sym (ap (λ o. unwrap_or o t) e), All-get_or P (v ∷ vs) 0 v (omega arith) all)

-- the parser of an option accepted this text, from which the value is read
abbrev IsAccepted : ValueParser → Text → Type 0
IsAccepted q t = (raw : Text) × (t ≡ read_as (reading_of q) raw) × (any_case : Bool) × Accepts any_case q raw

IsValueOf-accepted : (q : ValueParser) (t : Text) → IsAccepted q t → IsValueOf q t
IsValueOf-accepted (parser.Signed (pos low) (pos high)) t got = subst (IsNumberIn low high) (sym got.1) (in_range low high got.0 got.3)
IsValueOf-accepted parser.Bool t got = subst IsFlagText (sym got.1) (grind (arith, bytes_eq-Decides, got.3))
IsValueOf-accepted _ t got = tt

module _ (c : Command) (m : ArgMatches) (p : IsParsedFrom c m) (plain : (shape_of c).is_plain ≡ true) (simple : all_simple (shape_of c).rules ≡ true) where
  no_groups : groups_of p.built ≡ []
  no_groups = (p.from.same_groups (simple_groups c simple)).1 ∙ (plain_fields c plain).groups

  built_local : (out-Command p.built).has_globals ≡ false
  built_local = p.from.globals ∙ (plain_fields c plain).globals

  module _ (id : Text) (q : ValueParser) (ok : is_option (shape_of c).rules id q ≡ true) where
    -- an argument of the built command with the id has the parser
    parser_is : (j : ℕ) (a : Arg) → j < length (args_of p.built) → slice_index_or (args_of p.built) j a ≡ a → bytes_eq a.id.now id ≡ true
        → parser_of a ≡ q
    parser_is j a lt at key =
        let parts = parts_of (shape_of c).rules id q ok in
        let is : a.id.now ≡ id = (bytes_eq-Decides a.id.now id).0 key in
        elim (cases_lt j (length (args_of c))) [
          | inl under ↦
              let kept : SameRules (slice_index_or (args_of c) j a) a =
              subst (λ (b : Arg). SameRules (slice_index_or (args_of c) j a) b) at (p.from.kept j a under).1 in
              let old_key : bytes_eq (slice_index_or (args_of c) j a).id.now id ≡ true = rw (← kept.id) key in
              let tested = found_at id q (args_of c) parts.0 j a under old_key in
              ap parser_of_value (kept.parser q (is_parser-same q _ tested))
          | inr over ↦
              let auto : IsAuto a = subst IsAuto at (p.from.extra j a over lt) in
              elim auto [
                | inl help ↦ absurd (grind (arith, parts.1, sym is ∙ help))
                | inr version ↦ absurd (grind (arith, parts.2, sym is ∙ version))
              ]
        ]

    id-some : id ≡ [] → ⊥
    id-some empty = grind (arith, (parts_of (shape_of c).rules id q ok).3)

    of_value : (how : Reading) → how ≡ reading_of q → (t : Text)
        → (v : Bor Text) × (t ≡ read_as how v.now) × PassesArg p.built id v.now → IsAccepted q t
    of_value how is t got =
        let arg = got.2 in
        let read : t ≡ read_as (reading_of q) got.0.now = got.1 ∙ ap (λ h. read_as h got.0.now) is in (
          got.0.now,
          read,
          arg.1.ignore_case,
          subst (λ (r : ValueParser). Accepts arg.1.ignore_case r got.0.now) (parser_is arg.0 arg.1 arg.2 arg.3 arg.4.0) arg.4.1,
        )

    reading_is : (how : Reading) → HasReading p.built id how → how ≡ reading_of q
    reading_is how arg = sym arg.4.1 ∙ ap reading_of (parser_is arg.0 arg.1 arg.2 arg.3 arg.4.0)

    of_entry : (x : MatchedArg) (t : Text) → option_map (λ s. read_as x.reading s.now) (slice_get x.vals.items 0) ≡ Some t
        → (e : Entry) × (e.1 ≡ x) × (bytes_eq e.0.now id ≡ true) × EntryPasses p.built e → IsAccepted q t
    of_entry x t first got =
        let e = got.0 in
        let key : e.0.now ≡ id = (bytes_eq-Decides e.0.now id).0 got.2 in
        let single : e.1.is_group ≡ true → ⊥ = λ group. elim (got.3.3 group) [
          | inl unnamed ↦ id-some (sym key ∙ unnamed)
          | inr some ↦
              let bad : 0 < 0 = rw no_groups at some in
              absurd (omega arith)
        ] in
        let all : All (λ v. PassesArg p.built id v.now) x.vals.items = elim got.3.0 [
          | inl group ↦ absurd (single group)
          | inr values ↦ subst (λ (w : Text). All (λ v. PassesArg p.built w v.now) x.vals.items) key (rw got.1 at values)
        ] in
        let reading : e.1.reading ≡ reading_of q = elim got.3.4 [
          | inl group ↦ absurd (single group)
          | inr has ↦ reading_is e.1.reading (subst (λ (w : Text). HasReading p.built w e.1.reading) key has)
        ] in
        of_value x.reading (ap (λ (y : MatchedArg). y.reading) (sym got.1) ∙ reading) t
        (head_of (λ v. PassesArg p.built id v.now) x.reading x.vals.items t all first)

    -- the text of an option was accepted by its parser
    IsAccepted-text : (t : Text) → one_text (found_of m) id ≡ Some t → IsAccepted q t
    IsAccepted-text t text = go (matched_of (found_of m) id) refl text
      where
        go : (o : Option MatchedArg) → matched_of (found_of m) id ≡ o → one_text (found_of m) id ≡ Some t → IsAccepted q t
        go None e first =
            let bad : None ≡ Some t = rw e at first in
            cc
        go (Some x) e first =
            of_entry x t (rw e at first) (entry_by_id (EntryPasses p.built) (found_of m).entries.items id x (p.parsed built_local).values e)

    -- and so it is a value of the parser
    value : IfSome (one_of id (rows_of (found_of m))) (IsValueOf q)
    value = subst (λ (o : Option Text). IfSome o (IsValueOf q)) (one_text-rows (found_of m) id) (go (one_text (found_of m) id) refl)
      where
        go : (o : Option Text) → one_text (found_of m) id ≡ o → IfSome o (IsValueOf q)
        go None e = tt
        go (Some t) e = IsValueOf-accepted q t (IsAccepted-text t e)

-- the values of a parse are values of their options
pub are_values : (c : Command) (m : ArgMatches) → IsParsedFrom c m → is_simple_and_free (app_of c) ≡ true
    → AreValuesOf (shape_of c).rules (rows_of (found_of m))
are_values c m p all id q ok =
    let rules = both (shape_of c).is_plain (all_simple (shape_of c).rules)
    (both (has_simple_rules (shape_of c)) _ (both (is_buildable (app_of c)) _ (both (is_simple (app_of c)) _ all).0).0).0 in
    value c m p rules.0 rules.1 id q ok
