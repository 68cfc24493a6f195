use Rattle.std.proofs.Common.{◌+◌}
use Rattle.run_check.specs.inner.ClientView.{watches_known}
use Rattle.run_check.proofs.IndexLooks.{if_made}
use Rattle.run_check.proofs.PlacesWatched.{end_decides, not_fired}
use Rattle.run_check.proofs.session.Sessions.may_end.Goals as goal

pub returns : goal.returns
returns c = λ schema H txns knows within placed.
    if_made c.are_quiet.result _ _ (λ b decides. end_decides schema H (c.args.client + 1) (watches_known c.args.knows.now.watching) c.args.last c.args.quiet.now c.args.fired c.args.number c.place_has_fired.result b c.if-not-place_has_fired.false (c.place_has_fired.ensures schema H txns knows) decides)
    (c.are_quiet.ensures schema H txns knows within placed)

pub returns-then-not-place_has_fired : goal.returns-then-not-place_has_fired
returns-then-not-place_has_fired c = λ schema H txns knows within placed.
    not_fired schema H (c.args.client + 1) (watches_known c.args.knows.now.watching) c.args.last c.args.quiet.now c.args.fired c.args.number c.place_has_fired.result c.if-not-place_has_fired.true (c.place_has_fired.ensures schema H txns knows)
