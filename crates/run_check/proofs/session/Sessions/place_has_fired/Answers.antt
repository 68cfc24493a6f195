use Rattle.std.proofs.Common.{ap, subst, sym, ◌∙◌, ◌<◌, List, length, option_map}
use Rattle.std.specs.Borrow.{Bor}
use Rattle.run_check.specs.declared.watching.Watch.{Watch}
use Rattle.run_check.specs.inner.IndexView.{KeyVersions}
use Rattle.run_check.proofs.PlacesWatched.{fired_decides, none_fired}
use Rattle.run_check.proofs.Watched.{TellsFired}
use Rattle.run_check.proofs.WatchesPlaced.{looked_at, placed_index, placed_table}
use Rattle.run_check.proofs.session.Sessions.place_has_fired.Goals as goal

pub table-requires : goal.table-requires
table-requires c =
    placed_table c.args.self.now c.args.knows.now c.in-Some.place c.in-Some-at.watch.now (sym c.at.ensures ∙ ap (option_map (λ (w : Bor Watch). w.now)) c.in-Some-at.is) c.requires.known

pub has_fired-requires : goal.has_fired-requires
has_fired-requires c =
    subst (λ (xs : List KeyVersions). c.in-Some-at.watch.now.at.index < length xs) (sym c.table.ensures)
    (placed_index c.args.self.now c.args.knows.now c.in-Some.place c.in-Some-at.watch.now (sym c.at.ensures ∙ ap (option_map (λ (w : Bor Watch). w.now)) c.in-Some-at.is) c.requires.known)

pub returns-in-Some-at : goal.returns-in-Some-at
returns-in-Some-at c = λ schema H txns knows.
    let watching = c.args.knows.now.watching in
    let w = c.in-Some-at.watch.now in
    let there = sym c.at.ensures ∙ ap (option_map (λ (w : Bor Watch). w.now)) c.in-Some-at.is in
    let looked = looked_at c.args.self.now c.args.knows.now c.in-Some.place w there schema H txns knows in
    fired_decides watching (watching.watches.paired ∙ watching.watches.values.ok.0) schema H c.args.commits c.args.place c.in-Some.place w c.has_fired.result c.in-Some.is there
    (subst (TellsFired w.query.now w.at w.number w.has_found c.args.commits c.has_fired.result) c.table.ensures c.has_fired.ensures schema H txns looked.at looked.found)

pub returns-in-None : goal.returns-in-None
returns-in-None c = λ schema H txns knows.
    let watching = c.args.knows.now.watching in
    let none = sym c.at.ensures ∙ ap (option_map (λ (w : Bor Watch). w.now)) c.in-None.is in
    none_fired watching (watching.watches.paired ∙ watching.watches.values.ok.0) schema H c.args.commits c.args.place c.in-Some.place c.in-Some.is none
