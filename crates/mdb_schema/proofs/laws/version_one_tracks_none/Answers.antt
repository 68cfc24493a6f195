use Rattle.mdb_schema.proofs.TrackedNone.{version_one_tracks_none}
use Rattle.mdb_schema.proofs.laws.version_one_tracks_none.Goals as goal

pub returns : goal.returns
returns c = version_one_tracks_none
