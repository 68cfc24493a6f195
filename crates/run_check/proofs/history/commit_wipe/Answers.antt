use Rattle.std.proofs.Common.{◌<◌, ◌∙◌, List, length, sym, ap, subst, inl, inr}
use Rattle.std.specs.Prelude.{slice_get}
use Rattle.mdb_datum.specs.Bytes.{Bytes}
use Rattle.mdb_datum.specs.Pairs.{rows_of, with_prefix}
use Rattle.run_check.specs.declared.sight.Sight.{Sight}
use Rattle.run_check.specs.inner.EditView.{seen_of}
use Rattle.run_check.specs.inner.HistoryView.{Makes, removed_each}
use Rattle.run_check.specs.inner.IndexView.{KeyVersions}
use Rattle.run_check.proofs.CommitWrites.{on_both}
use Rattle.run_check.proofs.WipeMade.{index_within, no_wipe_made, table_within, wipe_made}
use Rattle.run_check.proofs.history.commit_wipe.Goals as goal

pub returns-in-Err : goal.returns-in-Err
returns-in-Err c =
    let made = c.unless_memory.ensures in
    on_both c.unless_memory.result made made
    (λ other same. elim c.in-Err.ensures [
      | inl memory ↦ absurd (other memory)
      | inr told ↦ no_wipe_made c.args.schema.now c.args.number c.args.store.now c.args.query.now told.0 told.1
    ])

pub table-requires : goal.table-requires
table-requires c = table_within c.args.schema.now c.args.number c.args.store.now c.requires _ c.in-Ok.at c.in-Ok.ensures

pub listed-requires : goal.listed-requires
listed-requires c =
    subst (λ (xs : List KeyVersions). c.in-Ok.at.index < length xs) (sym c.table.ensures) (index_within c.args.schema.now c.args.number c.args.store.now c.requires _ c.in-Ok.at c.in-Ok.ensures)

pub returns : goal.returns
returns c =
    let schema = c.args.schema.now in
    let q = c.args.query.now in
    let rows = c.deref.result.now in
    let made = c.remove_rows.ensures in
    on_both c.remove_rows.result made made
    (λ each same. wipe_made schema c.args.number c.args.store.now c.remove_rows.new.store q c.in-Ok.at c.in-Ok.ensures rows
    (λ x there. c.deref.ensures.value ∙ c.in_ok-rows.ensures x (ap (λ (xs : List KeyVersions). slice_get xs c.in-Ok.at.index) c.table.ensures ∙ there)
    ∙ ap (λ (s : Sight). rows_of (with_prefix c.in-Ok.at.key.items (seen_of s x))) c.after.ensures)
    (subst (λ (name : Bytes). Makes schema c.args.number (removed_each schema name rows) c.args.store.now c.remove_rows.new.store) c.table-2.ensures each))
