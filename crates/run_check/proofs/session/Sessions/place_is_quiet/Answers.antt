use Rattle.std.proofs.Common.{◌+◌, ◌<◌, ℕ, Bool, Decides, IfOk, List, length, subst, sym}
use Rattle.mdb_schema.specs.Guarded.{IsUnchanged}
use Rattle.mdb_schema.specs.Query.{Query}
use Rattle.run_check.specs.inner.GuardView.{IsWatchedAt}
use Rattle.run_check.specs.inner.IndexView.{KeyVersions}
use Rattle.run_check.proofs.Watched.{watched_at}
use Rattle.run_check.proofs.WatchesPlaced.{found_at_place, none_at_place, placed_index, placed_same, placed_table}
use Rattle.run_check.proofs.session.Sessions.place_is_quiet.Goals as goal

pub table-indexes-requires : goal.table-indexes-requires
table-indexes-requires c =
    let v = c.args.knows.now in
    placed_table c.args.self.now v c.args.place c.in-Some.watch.now (found_at_place v c.args.place c.at.result c.in-Some.watch c.at.ensures c.in-Some.is) c.requires.known

pub is_quiet-requires : goal.is_quiet-requires
is_quiet-requires c =
    let v = c.args.knows.now in
    subst (λ (xs : List KeyVersions). c.in-Some.watch.now.at.index < length xs) (sym c.table-indexes.ensures)
    (placed_index c.args.self.now v c.args.place c.in-Some.watch.now (found_at_place v c.args.place c.at.result c.in-Some.watch c.at.ensures c.in-Some.is) c.requires.known)

pub returns-in-Some : goal.returns-in-Some
returns-in-Some c = λ schema H txns w knows there few.
    let v = c.args.knows.now in
    let x = c.in-Some.watch.now in
    let found = found_at_place v c.args.place c.at.result c.in-Some.watch c.at.ensures c.in-Some.is in
    let sound = knows.sound.watches c.args.place x found in
    let at = watched_at schema H txns c.args.self.now.store knows.stands x.query.now x.at sound.looked sound.watchable in
    let here = subst (λ (xs : List KeyVersions). IsWatchedAt schema H txns x.query.now x.at xs) (sym c.table-indexes.ensures) at in
    placed_same c.args.self.now v c.args.place x found w there
    (λ (q : Query) (n : ℕ). IfOk c.is_quiet.result (λ (b : Bool). Decides b (IsUnchanged schema H (c.args.client + 1) q n c.args.commits)))
    (c.is_quiet.ensures schema H txns (c.args.client + 1) here few (c.is_own-is_own.ensures schema H txns v knows))

pub returns-in-None : goal.returns-in-None
returns-in-None c = λ schema H txns w knows there few.
    absurd (none_at_place c.args.knows.now c.args.place c.at.result w c.at.ensures c.in-None.is there)
