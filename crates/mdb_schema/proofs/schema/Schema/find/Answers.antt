-- The closure compares a name with the one that is looked for.
use Rattle.std.proofs.Common.{rules, ap, ◌∙◌}
use Rattle.std.proofs.lemmas.Fn.{always_returns_same}
use Rattle.mdb_encode.specs.Bytes.{byte_order}
use Rattle.mdb_schema.specs.Schema.{TableSchema, table_place}
use Rattle.mdb_schema.proofs.NameSearch.{table_searched}
use Rattle.mdb_schema.proofs.schema.Schema.find.Goals as goal

pub returns : goal.returns
returns c =
    let facts = c.binary_search_by.ensures in
    let by_name = facts.position (λ (t : TableSchema). byte_order t.name c.args.name.now) (always_returns_same _ _ _ (λ a r f called. (search rules, search rules))) in
    let found = table_searched c.args.name.now c.deref.result.now (rw c.deref.ensures.value c.self.invariant.order) c.binary_search_by.result facts.bound by_name in
    c.ok.ensures.value ∙ found ∙ ap (table_place c.args.name.now) (c.deref.ensures.value ∙ c.self.view_is)
