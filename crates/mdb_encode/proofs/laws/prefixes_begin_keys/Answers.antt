use Rattle.mdb_encode.proofs.Prefixes.{prefixes_begin}
use Rattle.mdb_encode.proofs.laws.prefixes_begin_keys.Goals as goal

pub returns : goal.returns
returns c = prefixes_begin
