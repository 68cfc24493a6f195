-- What a contract sees of a change of a tracked table, and how the logic stores it.
use Rattle.std.specs.Prelude.{ℕ, Option, refl}
use Rattle.std.specs.Coded.{Coded, code_by, coded×, coded_ℕ, coded_option}
use Rattle.mdb_datum.specs.Row.{Fields}
use Rattle.mdb_datum.specs.Codes.{fields_code}
use Rattle.mdb_schema.specs.Net as model
use Rattle.mem_txn.specs.declared.change_list.Change.TheInside as change

abbrev pub change_code : Coded model.Change
change_code = code_by (ℕ × (Option Fields × Option Fields))
    (coded× coded_ℕ (coded× (coded_option fields_code) (coded_option fields_code)))
    (λ c. (c.table, (c.before, c.after)))
    (λ p. record { table = p.0; before = p.1.0; after = p.1.1 }) (λ _. refl)

abbrev pub change_view : change.Inside → model.Change
change_view c = model.change_at c.table c.net
