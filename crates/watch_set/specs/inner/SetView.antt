-- What a contract sees of a set and of its members, and how the logic stores them.
use Rattle.std.specs.Prelude.{List, refl}
use Rattle.std.specs.Coded.{Coded, code_by, coded×, coded_list}
use Rattle.mdb_datum.specs.Bytes.{Bytes}
use Rattle.mdb_schema.specs.Codes.{name_code}
use Rattle.mem_txn.specs.Held.{HeldWatch}
use Rattle.mem_txn.specs.HeldCode.{held_code}
use Rattle.watch_set.specs.Members.{Member}

abbrev pub member_code : Coded Member
member_code = code_by (Bytes × HeldWatch) (coded× name_code held_code)
    (λ m. (m.name, m.held)) (λ p. record { name = p.0; held = p.1 }) (λ _. refl)

abbrev pub members_code : Coded (List Member)
members_code = coded_list member_code
