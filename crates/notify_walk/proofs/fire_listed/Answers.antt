-- One cell more has fired.
use Rattle.std.proofs.Common.{◌≡◌, ◌∙◌, map, true, sym, ap, subst}
use Rattle.std.specs.Arc.{arc_value}
use Rattle.watch_word.specs.Logs.{Cell, has_fired}
use Rattle.notify_walk.proofs.Firings.{got_map, later_again, next, of_at}
use Rattle.notify_walk.proofs.fire_listed.Goals as goal

pub fire_one-log-requires-clause-book : goal.fire_one-log-requires-clause-book
fire_one-log-requires-clause-book c =
    let cells = map arc_value c.args.cells.now in
    let i = c.loop-cell.cell-index in
    ap (λ (d : Cell). d.book) c.deref.ensures
    ∙ of_at cells i (arc_value c.cell-item.result) c.args.front.now.book c.requires.book (got_map arc_value c.args.cells.now i c.cell-item.result c.loop-cell-test.true c.cell-item.is)
    ∙ sym c.loop-cell.invariant.later.0

pub loop-cell-preserved : goal.loop-cell-preserved
loop-cell-preserved c =
    let cells = map arc_value c.args.cells.now in
    let i = c.loop-cell.cell-index in
    let fired = subst (λ (d : Cell). has_fired d c.fire_one-log.result ≡ true) c.deref.ensures c.fire_one-log.ensures.fired in
    record {
      later = later_again _ _ _ c.loop-cell.invariant.later c.fire_one-log.ensures.later;
      fired = next cells i (arc_value c.cell-item.result) c.loop-cell.log c.fire_one-log.result (got_map arc_value c.args.cells.now i c.cell-item.result c.loop-cell-test.true c.cell-item.is) c.loop-cell.invariant.fired c.fire_one-log.ensures.later fired;
      once = c.fire_one-log.ensures.once;
    }
