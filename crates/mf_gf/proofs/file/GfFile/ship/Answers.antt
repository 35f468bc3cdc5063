use Rattle.std.proofs.Common.{◌≡◌, rules, length, ap, ◌∙◌, w32, to_z, of_z, arith}
use Rattle.std.proofs.lemmas.Int.{ints}
use Rattle.mf_gf.specs.Files.{shipments}
use Rattle.mf_gf.specs.Keeping.{character}
use Rattle.mf_gf.specs.Pixels.{black}
use Rattle.mf_gf.specs.Spelling.{pointer, spell}
use Rattle.mf_gf.proofs.Shipped.{keeps-more, too_long_with}
use Rattle.mf_gf.proofs.file.GfFile.ship.Goals as goal

pub returns-clause-shipped : goal.returns-clause-shipped
returns-clause-shipped c = λ comment characters keeps.
    let dx : to_z w32 (of_z w32 c.args.dx) ≡ c.args.dx = omega (arith, ints) in
    let width : to_z w32 (of_z w32 c.args.width) ≡ c.args.width = omega (arith, ints) in
    let place : c.len.result ≡ length c.args.self.now.bytes.items = c.len.ensures ∙ c.args.self.now.bytes.ok.0 in
    let earlier = c.last_place-earlier.ensures (shipments comment characters) keeps.locators in
    let spelled = c.deref.ensures.value ∙ c.in_ok-spelled.ensures.bytes ∙ ap (λ p. spell c.args.code (pointer p) (black c.args.picture.now)) earlier in
    keeps-more c.args.self.now c.append.new.self comment characters (character c.args.code c.args.dx c.args.width c.args.picture.now)
    (rw (dx, width, place, spelled) at c.in_ok-append.ensures.appended) (rw c.of_black-bounds.ensures.value at c.in_ok-append.ensures.bounds) keeps

pub returns-in_err-spelled-clause-too_long : goal.returns-in_err-spelled-clause-too_long
returns-in_err-spelled-clause-too_long c =
    too_long_with _ (character c.args.code c.args.dx c.args.width c.args.picture.now) _ c.last_place-earlier.ensures (search rules)

pub returns-in_err-append-clause-too_long : goal.returns-in_err-append-clause-too_long
returns-in_err-append-clause-too_long c =
    too_long_with _ (character c.args.code c.args.dx c.args.width c.args.picture.now) _ c.last_place-earlier.ensures (search rules)

pub returns-clause-too_long : goal.returns-clause-too_long
returns-clause-too_long c =
    too_long_with _ (character c.args.code c.args.dx c.args.width c.args.picture.now) _ c.last_place-earlier.ensures (search rules)
