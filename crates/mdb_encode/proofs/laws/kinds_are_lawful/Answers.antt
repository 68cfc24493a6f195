use Rattle.mdb_encode.proofs.LawfulKinds.{kind_lawful}
use Rattle.mdb_encode.proofs.laws.kinds_are_lawful.Goals as goal

pub returns : goal.returns
returns c = kind_lawful
