-- The closure compares a name with the one that is looked for.
use Rattle.std.proofs.Common.{rules, ap, ◌∙◌}
use Rattle.std.proofs.lemmas.Fn.{always_returns_same}
use Rattle.mdb_encode.specs.Bytes.{byte_order}
use Rattle.mdb_schema.specs.Schema.{IndexSchema, TableSchema, index_place}
use Rattle.mdb_schema.specs.declared.table_def.TableParts.{TableParts}
use Rattle.mdb_schema.proofs.NameSearch.{index_searched}
use Rattle.mdb_schema.proofs.table_def.TableDef.find.Goals as goal

pub returns : goal.returns
returns c =
    let facts = c.binary_search_by.ensures in
    let by_name = facts.position (λ (i : IndexSchema). byte_order i.name c.args.name.now) (always_returns_same _ _ _ (λ a r f called. (search rules, search rules))) in
    let shared = c.deref-2.ensures.value ∙ ap (λ (p : TableParts). p.indexes.items) c.deref.ensures in
    let found = index_searched c.args.name.now c.deref-2.result.now (rw shared c.self.invariant.order) c.binary_search_by.result facts.bound by_name in
    c.ok.ensures.value ∙ found ∙ ap (index_place c.args.name.now) shared ∙ ap (λ (t : TableSchema). index_place c.args.name.now t.indexes) c.self.view_is
