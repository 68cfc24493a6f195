use Rattle.std.proofs.Common.{◌∙◌, ap, sym}
use Rattle.mdb_datum.specs.Bytes.{Bytes}
use Rattle.mdb_schema.specs.Schema.{table_place}
use Rattle.run_check.proofs.CommitWrites.{list_edit, list_long, list_ready, no_edit, on_both}
use Rattle.run_check.proofs.history.commit_edit.Goals as goal

pub returns-in_default : goal.returns-in_default
returns-in_default c = λ H d making.
    no_edit c.args.schema.now H d c.args.number c.args.store.now making c.args.table.now c.args.row.now
    (ap (λ (n : Bytes). table_place n c.args.schema.now) (sym c.as_str.ensures) ∙ sym c.find.ensures ∙ c.in_default.is) c.args.edit

pub edit_there-requires-clause-ready : goal.edit_there-requires-clause-ready
edit_there-requires-clause-ready c =
    let begun = c.requires in
    list_ready c.args.schema.now begun.0 begun.1 c.args.number c.args.store.now begun.2 c.in-Some.at c.in-Some-table.def.now (sym c.in-Some-table.ensures.found) c.index_mut.result.now c.index_mut.ensures.value
    c.deref_mut.result.now c.deref_mut.ensures.value

pub edit_there-requires-clause-all : goal.edit_there-requires-clause-all
edit_there-requires-clause-all c =
    let begun = c.requires in
    list_long c.args.schema.now begun.0 begun.1 c.args.number c.args.store.now begun.2 c.in-Some.at c.in-Some-table.def.now (sym c.in-Some-table.ensures.found) c.index_mut.result.now c.index_mut.ensures.value
    c.deref_mut.result.now c.deref_mut.ensures.value

pub returns : goal.returns
returns c =
    let done = c.edit_there.ensures in
    on_both c.edit_there.result done.done done.long
    (λ made long H d making.
    list_edit c.args.schema.now H d c.args.number c.args.store.now making c.in-Some.at c.in-Some-table.def.now (sym c.in-Some-table.ensures.found) c.index_mut.result.now c.index_mut.ensures.value
    c.deref_mut.result.now c.edit_there.new.indexes c.deref_mut.ensures.value c.deref_mut.ensures.len long c.args.table.now c.args.row.now
    (ap (λ (n : Bytes). table_place n c.args.schema.now) (sym c.as_str.ensures) ∙ sym c.in-Some.ensures) c.args.edit made)
