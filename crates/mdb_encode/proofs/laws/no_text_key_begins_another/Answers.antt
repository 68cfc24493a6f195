use Rattle.mdb_encode.proofs.Prefixes.{none_inside}
use Rattle.mdb_encode.proofs.laws.no_text_key_begins_another.Goals as goal

pub returns : goal.returns
returns c = none_inside
