use Rattle.std.proofs.Common.{◌≡◌, ◌<◌, ◌++◌, ◌∙◌, List, length, Some, ap, sym, subst, refl, arith}
use Rattle.std.specs.Prelude.{codes, decimal, slice_get}
use Rattle.mdb_datum.specs.Pairs.{rows_of, with_prefix}
use Rattle.mdb_schema.specs.Schema.{DbSchema}
use Rattle.run_check.specs.declared.session.Sessions.{Sessions}
use Rattle.run_check.specs.declared.sight.Sight.{Sight}
use Rattle.run_check.specs.inner.EditView.{seen_of}
use Rattle.run_check.specs.inner.HistoryView.{removed_each}
use Rattle.run_check.specs.inner.IndexView.{KeyVersions}
use Rattle.run_check.specs.inner.LookupView.{IsLookup, TellsNoLookup}
use Rattle.run_check.specs.inner.StoreView.{indexes_at}
use Rattle.run_check.specs.inner.WritingView.{state_now}
use Rattle.run_check.proofs.LinesWrite.{has_said}
use Rattle.run_check.proofs.WipesTold.{getting, index_within, table_within, wipe_count, wipe_nowhere, wipe_tells}
use Rattle.run_check.proofs.session.Sessions.wipe.Goals as goal

pub returns-in_err-at-clause-told : goal.returns-in_err-at-clause-told
returns-in_err-at-clause-told c = λ schema H txns writing.
    wipe_nowhere schema H txns c.args.self.now c.args.writing.now writing c.args.query.now c.args.self.now.text.items c.in_err-at.field-0.0 c.from_residual.result c.from_residual.ensures.1
    (subst (λ (d : DbSchema). TellsNoLookup d (getting c.args.query.now) c.in_err-at.field-0.0) writing.schema_is c.in_err-at.ensures)

pub table-requires-2 : goal.table-requires-2
table-requires-2 c =
    let a = c.requires in
    let look = subst (λ (d : DbSchema). IsLookup d (getting c.args.query.now) c.in_ok-at.at) a.3.schema_is c.in_ok-at.ensures in
    table_within a.0 a.1 a.2 c.args.self.now c.args.writing.now a.3 c.args.query.now c.args.self.now.text.items c.in_ok-at.at look

pub listed-requires : goal.listed-requires
listed-requires c =
    let a = c.requires in
    let look = subst (λ (d : DbSchema). IsLookup d (getting c.args.query.now) c.in_ok-at.at) a.3.schema_is c.in_ok-at.ensures in
    subst (λ (xs : List KeyVersions). c.in_ok-at.at.index < length xs) (sym c.table-2.ensures)
    (index_within a.0 a.1 a.2 c.args.self.now c.args.writing.now a.3 c.args.query.now c.args.self.now.text.items c.in_ok-at.at look)

pub returns-clause-told : goal.returns-clause-told
returns-clause-told c = λ schema H txns writing.
    let s = c.args.self.now in
    let w = c.args.writing.now in
    let mid = c.wipe_rows.new.self in
    let y = c.wipe_rows.new.writing in
    let q = c.args.query.now in
    let l = c.in_ok-at.at in
    let text = s.text.items in
    let listed = c.deref.result.now in
    let raw = c.in_ok-at.ensures in
    let look = subst (λ (d : DbSchema). IsLookup d (getting q) l) writing.schema_is raw in
    let base = state_now schema H txns w.number w.own in
    let made = c.in_ok-wipe_rows.ensures.done q.table raw.named schema H txns writing in
    let x : Sessions = record mid { text = c.write_numbered.new.out } in
    let has = has_said schema H txns (removed_each schema q.table listed base) w mid y x refl refl made in
    let told : (z : KeyVersions) → slice_get (indexes_at s.store l.table) l.index ≡ Some z → listed ≡ rows_of (with_prefix l.key.items (seen_of (record { commits = w.number; own = Some w.own }) z)) = λ z there.
    c.deref.ensures.value ∙ c.in_ok-rows.ensures z (ap (λ (xs : List KeyVersions). slice_get xs l.index) c.table-2.ensures ∙ there)
    ∙ ap (λ (h : Sight). rows_of (with_prefix l.key.items (seen_of h z))) c.sight.ensures in
    let n = c.from.result in
    let more = wipe_count schema H txns s w writing q text l look listed told x y has in
    wipe_tells schema H txns s w writing q text l look listed told x y has n (omega (arith, c.from.ensures, c.saturating_sub-gone.ensures, more))
    (c.in_ok-write_numbered.ensures ∙ ap (λ (z : Sessions). z.text.items ++ (codes "deleted " ++ decimal n)) c.wipe_rows.ensures.kept)
