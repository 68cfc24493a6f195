use Rattle.std.proofs.Common.{ap, sym, ◌∙◌}
use Rattle.std.specs.Prelude.{option_copied}
use Rattle.session_loop.proofs.ClosingLook.{member_fired, not_there, of_book_held}
use Rattle.session_loop.proofs.closing.is_quiet_at.Goals as goal

pub is_quiet-requires : goal.is_quiet-requires
is_quiet-requires c =
    of_book_held c.args.front.now c.args.set.now c.args.place c.in-Some.held.now (sym (ap option_copied c.in-Some.is) ∙ c.held.ensures) c.requires.book

pub unreachable-requires : goal.unreachable-requires
unreachable-requires c = not_there c.args.set.now c.args.place c.requires.place (sym (ap option_copied c.in-None.is) ∙ c.held.ensures)

pub returns-clause-moved : goal.returns-clause-moved
returns-clause-moved c =
    λ fired. member_fired c.args.front.now c.args.set.now c.args.place c.in-Some.held.now (sym (ap option_copied c.in-Some.is) ∙ c.held.ensures) (c.is_quiet.ensures.moved fired)
