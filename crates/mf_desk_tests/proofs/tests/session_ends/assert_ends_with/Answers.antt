use Rattle.std.proofs.Common.{sym, ◌∙◌}
use Rattle.mf_desk.specs.States.{start}
use Rattle.mf_desk_tests.proofs.tests.session_ends.assert_ends_with.Goals as goal

pub learn-requires : goal.learn-requires
learn-requires g c =
    let (one, stands_for_one) = c.perform.ensures.stands start c.open-session.ensures.start in
    let (two, stands_for_two) = c.perform-2.ensures.stands one stands_for_one in
    let ended = c.notice.ensures.identity ∙ c.finish-ended.ensures two stands_for_two in
    let opened = c.perform-2.ensures.identity ∙ c.perform.ensures.identity ∙ sym c.open-session.ensures.identity in
    let seated = rw c.expect-viewer.ensures at c.viewer.ensures.viewer_identity in
    ended ∙ opened ∙ sym seated ∙ sym c.assert_shows-viewer.ensures
