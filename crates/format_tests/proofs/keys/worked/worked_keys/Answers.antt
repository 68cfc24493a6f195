-- Reading a UUID on a literal computes once the uuid crate's reader unfolds.
use Rattle.std.proofs.Common.{refl}
use Rattle.uuid.proofs.OnLiterals.{uuid_on_literals}
use Rattle.format_tests.proofs.keys.worked.worked_keys.Goals as goal

pub returns-clause-uuids : goal.returns-clause-uuids
unfolding uuid_on_literals
returns-clause-uuids c = record { row = refl; bad_row = refl; exact = refl; empty = refl }
