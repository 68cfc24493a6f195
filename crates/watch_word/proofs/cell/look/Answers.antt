use Rattle.std.proofs.Common.{ap, sym, ◌∙◌, ◌≡◌, true}
use Rattle.logbook.specs.Pages.{step}
use Rattle.watch_word.specs.inner.Rule.{fired_in, is_home}
use Rattle.watch_word.proofs.Events.{later_by, home_later}
use Rattle.watch_word.proofs.Steps.{sees_moves}
use Rattle.watch_word.proofs.cell.look.Goals as goal

pub load-found-requires : goal.load-found-requires
load-found-requires c =
    let book : c.learn.new.self.book ≡ c.cell.inside.word.book =
    c.learn.ensures.0 ∙ (ap (λ s. s.book) c.again-seen.ensures ∙ (ap (λ l. l.book) c.front.view_is ∙ (sym c.requires ∙ sym (ap (λ x. x.book) c.cell.view_is)))) in
    let home : is_home c.cell.inside.word.key c.learn.new.self.log ≡ true = home_later _ _ _ c.learn.ensures.3 c.cell.invariant.1 in (
      ap (λ w. w.tracked) c.cell.invariant.0,
      book,
      c.still-offer.ensures.0,
      sees_moves (step c.cell.inside.word.key 0 0 c.still-offer.result.ask) _ _ home,
    )

pub returns-clause-later : goal.returns-clause-later
returns-clause-later c =
    let seen = c.again-seen.ensures in (
      c.load-found.ensures.0 ∙ (c.learn.ensures.0 ∙ (ap (λ s. s.book) seen ∙ ap (λ l. l.book) c.front.view_is)),
      later_by _ _ _ _ (ap (λ s. fired_in s.log) seen ∙ ap (λ l. l.fired) c.front.view_is) c.learn.ensures.2 c.load-found.ensures.5,
    )
