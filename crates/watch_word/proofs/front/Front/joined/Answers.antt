use Rattle.std.proofs.Common.{ap, sym, ◌∙◌, []}
use Rattle.std.proofs.lemmas.List.{append-nil}
use Rattle.watch_word.specs.inner.Rule.{fired_in}
use Rattle.watch_word.proofs.Events.{later_by}
use Rattle.watch_word.proofs.front.Front.joined.Goals as goal

pub returns-clause-later : goal.returns-clause-later
returns-clause-later c =
    let seen = c.again-seen.ensures in (
      c.learn.ensures.0 ∙ (ap (λ s. s.book) seen ∙ ap (λ l. l.book) c.self.view_is),
      later_by _ _ _ _ (ap (λ s. fired_in s.log) seen ∙ ap (λ l. l.fired) c.self.view_is) c.learn.ensures.2 ([], append-nil _),
    )

pub returns-clause-latest : goal.returns-clause-latest
returns-clause-latest c =
    let seen = c.again-seen.ensures in (
      c.learn.ensures.0 ∙ (ap (λ s. s.book) seen ∙ (ap (λ l. l.book) c.self.view_is ∙ sym c.requires)),
      later_by _ _ _ _ (ap (λ l. l.fired) c.other.view_is) c.learn.ensures.3 ([], append-nil _),
    )
