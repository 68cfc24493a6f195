use Rattle.mdb_encode.proofs.Order.{unsigned_order, signed_order}
use Rattle.mdb_encode.proofs.laws.numbers_keep_their_order.Goals as goal

pub returns-clause-unsigned : goal.returns-clause-unsigned
returns-clause-unsigned c = unsigned_order

pub returns-clause-signed : goal.returns-clause-signed
returns-clause-signed c = signed_order
