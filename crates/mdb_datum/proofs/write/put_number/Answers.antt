use Rattle.std.proofs.Common.{rules}
use Rattle.mdb_datum.proofs.Numbers.{IsNumber-signed_decimal}
use Rattle.mdb_datum.proofs.write.put_number.Goals as goal

pub number-requires : goal.number-requires
number-requires c = search (rules, IsNumber-signed_decimal)
