-- What a contract sees of a change of a row, and how the logic stores it.
use Rattle.std.specs.Prelude.{Option, refl}
use Rattle.std.specs.Coded.{Coded, code_by, coded×, coded_option}
use Rattle.mdb_datum.specs.Row.{Fields}
use Rattle.mdb_datum.specs.Codes.{fields_code}
use Rattle.mdb_schema.specs.Net as model
use Rattle.table_index.specs.declared.net.Net.TheInside as net

abbrev pub net_code : Coded model.Net
net_code = code_by (Option Fields × Option Fields)
    (coded× (coded_option fields_code) (coded_option fields_code)) (λ n. (n.before, n.after))
    (λ p. record { before = p.0; after = p.1 }) (λ _. refl)

abbrev pub net_view : net.Inside → model.Net
net_view n = record { before = n.before; after = n.after }
