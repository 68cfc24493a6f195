use Rattle.std.proofs.Common.{ap, sym, ◌∙◌, ◌≡◌, [], false}
use Rattle.std.proofs.lemmas.List.{append-nil}
use Rattle.logbook.specs.Pages.{step, inked}
use Rattle.watch_word.specs.Logs.{has}
use Rattle.watch_word.specs.inner.Rule.{fired_in}
use Rattle.watch_word.proofs.Keys.{has_none}
use Rattle.watch_word.proofs.Events.{later_by}
use Rattle.watch_word.proofs.Steps.{adds_at, comes_at}
use Rattle.watch_word.proofs.cell.new_cell.Goals as goal

pub compare_exchange-requires : goal.compare_exchange-requires
compare_exchange-requires c =
    let book : c.again-seen.result.book ≡ c.book.inside.anchor.book =
    ap (λ s. s.book) c.again-seen.ensures ∙ (ap (λ l. l.book) c.front.view_is ∙ (c.requires ∙ sym c.book.view_is)) in (
      ap (λ w. w.tracked) c.book.invariant,
      book,
      c.no_pen-pen.ensures.0 ∙ book,
      c.still-offer.ensures.0,
      adds_at (step c.book.inside.anchor.key 0 0 c.still-offer.result.ask) _ _ (ap (λ w. w.key) c.book.invariant),
    )

pub compare_exchange-requires-2 : goal.compare_exchange-requires-2
compare_exchange-requires-2 c =
    let book : c.again-seen.result.book ≡ c.book.inside.anchor.book =
    ap (λ s. s.book) c.again-seen.ensures ∙ (ap (λ l. l.book) c.front.view_is ∙ (c.requires ∙ sym c.book.view_is)) in
    let added = c.compare_exchange.ensures in (
      ap (λ w. w.tracked) c.book.invariant,
      added.0 ∙ book,
      c.tracked-word.ensures.1 ∙ (added.5 ∙ (c.no_pen-pen.ensures.0 ∙ book)),
      added.2 ∙ (c.still-offer.ensures.0 ∙ sym added.1),
      comes_at (step c.book.inside.anchor.key 0 0 c.compare_exchange.new.offer.ask) _ _ _ _ _ (ap (λ w. w.key) c.book.invariant) (c.tracked-word.ensures.2 ∙ ap (λ p. inked p 0) added.7.2) added.7.1,
    )

pub returns-clause-fired : goal.returns-clause-fired
returns-clause-fired c =
    let added = c.compare_exchange.ensures in
    let old = c.args.front.now.fired in
    let none : has added.7.0 old ≡ false =
    has_none added.7.0 old (fired_in c.compare_exchange.new.seen.log)
    (later_by _ _ _ _ (ap (λ s. fired_in s.log) c.again-seen.ensures ∙ ap (λ l. l.fired) c.front.view_is) ([], append-nil _) added.6) added.7.3 in
    ap (λ k. has k old) (ap (λ w. w.key) c.tracked-word.ensures.0 ∙ ap (λ p. p.key) added.7.2) ∙ none
