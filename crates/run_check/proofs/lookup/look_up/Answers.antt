use Rattle.std.proofs.Common.{◌∙◌, sym, ap}
use Rattle.mdb_datum.specs.Bytes.{Bytes}
use Rattle.mdb_schema.specs.Schema.{table_place}
use Rattle.run_check.proofs.LookupTests.{table_looked}
use Rattle.run_check.proofs.lookup.look_up.Goals as goal

pub returns-in-Some-table : goal.returns-in-Some-table
returns-in-Some-table c =
    let q = record c.args.query.now { ask = c.args.ask } in
    let schema = c.args.schema.now in
    let named = sym (c.in-Some.ensures ∙ ap (λ (n : Bytes). table_place n schema) (c.as_str.ensures ∙ c.table.ensures)) in
    table_looked schema q c.in-Some.table c.in-Some-table.def.now named (sym c.in-Some-table.ensures.found) c.lookup_in.result c.lookup_in.ensures
