use Rattle.std.proofs.Common.{◌≡◌, ◌∙◌, Ok, sym, ap, subst, rules}
use Rattle.mdb_datum.specs.Bytes.{Bytes}
use Rattle.mdb_schema.specs.Tests.{each}
use Rattle.mdb_schema.specs.Write.{indexes_of, full_keys_at}
use Rattle.mdb_schema.specs.ErrorsTold.{TellsRefusal}
use Rattle.mdb_schema.proofs.FullKeys.{found_keys_of}
use Rattle.mdb_schema.proofs.KeysTold.{takes_each, takes_told}
use Rattle.run_check.specs.inner.KeyView.{lists_of}
use Rattle.run_check.proofs.KeyTests.{keys_handed_on, rule_of_index}
use Rattle.run_check.proofs.keys.row_keys.Goals as goal

pub returns-in_err-indexes : goal.returns-in_err-indexes
returns-in_err-indexes c =
    let t = c.args.def.now in
    let row = c.args.row.now in
    let e = c.in_err-indexes.field-0.0 in
    let id : Bytes = c.in_ok-id.id.items in
    let told : TellsRefusal (each (full_keys_at id row) (indexes_of t)) e =
    subst (λ (k : Bytes). TellsRefusal (each (full_keys_at k row) (indexes_of t)) e) c.deref.ensures.value c.in_err-indexes.ensures in
    keys_handed_on t row c.from_residual-in_err-indexes.result e (search rules) (rule_of_index t row id e c.in_ok-id.ensures (takes_told id row t e told))

pub returns : goal.returns
returns c =
    let t = c.args.def.now in
    let row = c.args.row.now in
    let id : Bytes = c.in_ok-id.id.items in
    let read : each (full_keys_at id row) (indexes_of t) ≡ Ok (lists_of c.in_ok-indexes.indexes) =
    ap (λ (k : Bytes). each (full_keys_at k row) (indexes_of t)) (sym c.deref.ensures.value) ∙ c.in_ok-indexes.ensures in
    let taken = takes_each id row t (lists_of c.in_ok-indexes.indexes) read in
    record {
      known = c.in_ok-id.ensures;
      taken = taken.0;
      passes = taken.1;
      indexes = found_keys_of t row id (lists_of c.in_ok-indexes.indexes) c.in_ok-id.ensures read;
    }
