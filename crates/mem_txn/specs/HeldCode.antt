-- How the logic stores what contracts see of a held watch.
use Rattle.std.specs.Prelude.{ℕ, Bool, refl}
use Rattle.std.specs.Coded.{Coded, code_by, coded×, coded_ℕ, coded_bool}
use Rattle.mdb_encode.specs.Bytes.{Bytes}
use Rattle.mdb_schema.specs.Query.{Query}
use Rattle.mdb_schema.specs.Codes.{name_code}
use Rattle.mdb_schema.specs.QueryCodes.{query_code}
use Rattle.radix_node.specs.Codes.{cell_code}
use Rattle.table_index.specs.Spot.{SpotOf}
use Rattle.watch_word.specs.Logs.{Cell}
use Rattle.mem_txn.specs.Held.{HeldWatch}

abbrev pub spot_code : Coded SpotOf
spot_code = code_by ((ℕ × Bytes) × (Bool × Cell))
    (coded× (coded× coded_ℕ name_code) (coded× coded_bool cell_code))
    (λ s. ((s.index, s.key), (s.exact, s.watch)))
    (λ p. record { index = p.0.0; key = p.0.1; exact = p.1.0; watch = p.1.1 }) (λ _. refl)

abbrev pub held_code : Coded HeldWatch
held_code = code_by (Query × (SpotOf × ℕ)) (coded× query_code (coded× spot_code coded_ℕ))
    (λ h. (h.query, (h.spot, h.number)))
    (λ p. record { query = p.0; spot = p.1.0; number = p.1.1 }) (λ _. refl)
