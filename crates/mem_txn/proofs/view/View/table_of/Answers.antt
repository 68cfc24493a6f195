use Rattle.std.proofs.Common.{◌≡◌, ◌∙◌, ◌<◌, length, map, slice_get, Some, option_map, refl, sym, ap, subst, rules, arith}
use Rattle.std.specs.Arc.{arc_value}
use Rattle.std.proofs.lemmas.List.{length-map}
use Rattle.std.proofs.lemmas.Option.{slice_get-map, slice_get_read}
use Rattle.mdb_schema.specs.Schema.{table_place}
use Rattle.mem_txn.specs.inner.NamedTables.{IsTableOf}
use Rattle.mem_txn.specs.inner.Values.{ViewWithTrees}
use Rattle.mem_txn.specs.inner.VersionTables.{state_of}
use Rattle.mem_txn.proofs.TablesFound.{found_within}
use Rattle.mem_txn.proofs.view.View.table_of.Goals as goal

pub index-requires : goal.index-requires
index-requires c =
    let shared = map arc_value c.self.inside.tables.items in
    let found : table_place c.args.query.now.table (arc_value c.self.inside.schema) ≡ Some c.in-Some.place = cc in
    let less = found_within shared (arc_value c.self.inside.schema) (state_of shared) c.self.invariant.schemas refl c.args.query.now.table c.in-Some.place found in
    let count = length-map c.self.inside.tables.items arc_value in
    let within : c.in-Some.place < length c.self.inside.tables.items = omega (arith, less, count) in
    search rules

pub returns-in-Some-clause-some : goal.returns-in-Some-clause-some
returns-in-Some-clause-some c =
    let items = c.self.inside.tables.items in
    let shared = map arc_value items in
    let schema = arc_value c.self.inside.schema in
    let name = c.args.query.now.table in
    let place = c.in-Some.place in
    let found : table_place name schema ≡ Some place = cc in
    let less = found_within shared schema (state_of shared) c.self.invariant.schemas refl name place found in
    let count = length-map items arc_value in
    let within : place < length items = omega (arith, less, count) in
    let there : slice_get items place ≡ Some c.index.result.now = slice_get_read items (length items) place c.index.result.now refl within c.index.ensures in
    let table = c.deref-table.result.now in
    subst (λ (v : ViewWithTrees). IsTableOf v name table) c.self.view_is (record {
      tables = shared;
      schemas = c.self.invariant.schemas;
      state = refl;
      trees = refl;
      place = place;
      found = found;
      there = slice_get-map arc_value items place ∙ ap (option_map arc_value) there ∙ ap Some (sym c.deref-table.ensures);
    })
