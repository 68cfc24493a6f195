use Rattle.std.proofs.Common.{Option, sym, ap, inr, refl}
use Rattle.mdb_encode.specs.Bytes.{Bytes}
use Rattle.mdb_schema.specs.Tests.{needed}
use Rattle.mdb_schema.specs.Write.{Tested, no_id}
use Rattle.table_index.proofs.row_keys.first_key.Goals as goal

pub returns-in-Some : goal.returns-in-Some
returns-in-Some c = ap (λ (o : Option Bytes). let r : Tested Bytes = needed no_id o in r) (sym c.in-Some.ensures)

pub returns-in-None : goal.returns-in-None
returns-in-None c = inr (no_id, ap (λ (o : Option Bytes). let r : Tested Bytes = needed no_id o in r) (sym c.in-None.ensures), refl)
