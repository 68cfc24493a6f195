use Rattle.std.proofs.Common.{rules, arith, ◌≤◌, ◌+◌, below_more, get_or, length}
use Rattle.run_check.specs.inner.ClientView.{watches_known}
use Rattle.run_check.proofs.PlacesWatched.{IsQuietAt, none_apart, one_apart}
use Rattle.run_check.proofs.session.Sessions.are_quiet.Goals as goal

pub returns-then-not-branch : goal.returns-then-not-branch
returns-then-not-branch c = λ schema H txns knows within placed.
    one_apart schema H (c.args.client + 1) (watches_known c.args.knows.now.watching) c.args.commits c.args.places.now c.loop-place.place-index c.in_ok-place_is_quiet.field-0 placed c.loop-place-test.true c.if-not-branch.true (λ w there. c.in_ok-place_is_quiet.ensures schema H txns w knows there within)

pub loop-place-preserved : goal.loop-place-preserved
loop-place-preserved c = λ schema H txns knows within.
    let l = c.loop-place in
    let ws = watches_known c.args.knows.now.watching in
    below_more (λ k. IsQuietAt schema H (c.args.client + 1) ws (get_or c.args.places.now k 0) c.args.commits) l.place-index (l.invariant schema H txns knows within) (λ w there. (c.in_ok-place_is_quiet.ensures schema H txns w knows there within).0 c.if-not-branch.false)

pub returns : goal.returns
returns c = λ schema H txns knows within placed.
    let l = c.loop-place in
    let ws = watches_known c.args.knows.now.watching in
    let all : length c.args.places.now ≤ l.place-index = search (rules, arith) in
    none_apart schema H (c.args.client + 1) ws c.args.commits c.args.places.now (λ k below. l.invariant schema H txns knows within k (omega (arith, all, below)))
