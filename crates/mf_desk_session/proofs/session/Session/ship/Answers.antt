use Rattle.std.proofs.Common.{rules, ◌≡◌, ◌<◌, Err, inl, inr, length, refl, [], ◌∷◌, ◌++◌, codes, decimal, ap, sym, w32, to_z, of_z, arith}
use Rattle.std.proofs.lemmas.Int.{ints}
use Rattle.std.proofs.lemmas.Result.{IfOk-weaker}
use Rattle.mf_gf.specs.Files.{bytes_so_far}
use Rattle.mf_gf.specs.Keeping.{Keeps, character, max_bytes_of}
use Rattle.mf_desk_session.specs.Pictures.{source_picture}
use Rattle.mf_desk_session.specs.Variables.{pictures}
use Rattle.mf_desk_session.proofs.Standing.{in_each_state, state_of}
use Rattle.mf_desk_session.proofs.session.Session.ship.Goals as goal

pub returns-in-Ok-clause-answer : goal.returns-in-Ok-clause-answer
returns-in-Ok-clause-answer c =
    in_each_state c.args.self.now _ (λ characters kept.
    let dx : to_z w32 (of_z w32 c.args.dx) ≡ c.args.dx = omega (arith, ints) in
    let width : to_z w32 (of_z w32 c.args.width) ≡ c.args.width = omega (arith, ints) in
    let shipped = character c.args.code c.args.dx c.args.width (source_picture (pictures c.args.self.now.variables) c.args.source) in
    let keeps : Keeps c.ship.new.self [] (characters ++ shipped ∷ []) =
    rw (dx, width, c.source-picture.ensures) at (c.in-Ok.ensures.shipped [] characters kept) in
    let fits : max_bytes_of c.args.self.now.file < length (bytes_so_far [] (characters ++ shipped ∷ [])) → ⊥ =
    λ long. let refused = (rw (dx, width, c.source-picture.ensures) at (c.in-Ok.ensures.too_long [] characters kept)).0 long in absurd (cc) in
    let printed : c.into_bytes-text.result.items ≡ codes "[" ++ decimal c.args.code ++ codes "]\n" = search rules in
    record {
      next = state_of c.args.self.now (characters ++ shipped ∷ []);
      answer = inr (record { fits = fits; is = rw printed refl });
      stands = record { pictures = refl; check = refl; file = keeps };
    })

pub returns-in-Err-FileTooLong-clause-answer : goal.returns-in-Err-FileTooLong-clause-answer
returns-in-Err-FileTooLong-clause-answer c =
    IfOk-weaker c.refusal_line.result _ _
    (λ text printed. in_each_state c.args.self.now _ (λ characters kept.
    let dx : to_z w32 (of_z w32 c.args.dx) ≡ c.args.dx = omega (arith, ints) in
    let width : to_z w32 (of_z w32 c.args.width) ≡ c.args.width = omega (arith, ints) in
    let long =
    (rw (dx, width, c.source-picture.ensures) at (c.in-Err-FileTooLong.ensures.too_long [] characters kept)).1 (ap Err c.in-Err-FileTooLong.field-0-is) in
    record {
      next = state_of c.args.self.now characters;
      answer = inl (record { too_long = long; is = rw printed refl });
      stands = record { pictures = refl; check = refl; file = grind (arith, sym, c.in-Err-FileTooLong.ensures.unchanged, kept) };
    }))
    c.refusal_line.ensures
