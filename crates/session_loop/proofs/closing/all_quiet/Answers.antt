use Rattle.std.proofs.Common.{ap}
use Rattle.std.specs.Prelude.{option_copied}
use Rattle.watch_set.specs.Members.{watches_of}
use Rattle.session_loop.proofs.ClosingLook.{of_book_set, of_book_until, quiet_both, set_fired, until_fired}
use Rattle.session_loop.proofs.closing.all_quiet.Goals as goal

pub are_quiet-requires : goal.are_quiet-requires
are_quiet-requires c = of_book_set c.args.front.now (watches_of c.args.set.now) (option_copied c.args.until) c.requires

pub is_quiet-requires : goal.is_quiet-requires
is_quiet-requires c =
    of_book_until c.args.front.now (watches_of c.args.set.now) (option_copied c.args.until) c.in-Some.held.now (ap option_copied c.in-Some.is) c.requires

pub returns-in-Some-clause-quiet : goal.returns-in-Some-clause-quiet
returns-in-Some-clause-quiet c =
    λ quiet. quiet_both c.args.front.now (watches_of c.args.set.now) (option_copied c.args.until) c.in-Some.held.now (ap option_copied c.in-Some.is)
    (c.are_quiet.ensures.quiet c.if-not-are_quiet.false)
    (c.is_quiet.ensures.quiet quiet)

pub returns-in-Some-clause-moved : goal.returns-in-Some-clause-moved
returns-in-Some-clause-moved c =
    λ fired. until_fired c.args.front.now (watches_of c.args.set.now) (option_copied c.args.until) c.in-Some.held.now (ap option_copied c.in-Some.is) (c.is_quiet.ensures.moved fired)

pub returns-then-not-are_quiet-clause-moved : goal.returns-then-not-are_quiet-clause-moved
returns-then-not-are_quiet-clause-moved c =
    λ fired. set_fired c.args.front.now (watches_of c.args.set.now) (option_copied c.args.until) (c.are_quiet.ensures.moved c.if-not-are_quiet.true)
