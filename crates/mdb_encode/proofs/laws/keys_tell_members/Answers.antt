use Rattle.mdb_encode.proofs.SameKey.{tells_unsigned, tells_signed}
use Rattle.mdb_encode.proofs.laws.keys_tell_members.Goals as goal

pub returns-clause-unsigned : goal.returns-clause-unsigned
returns-clause-unsigned c = tells_unsigned

pub returns-clause-signed : goal.returns-clause-signed
returns-clause-signed c = tells_signed
