-- A worked session of names: watches and snapshots are named apart, and a question that is watched is
-- one of committed rows.
use Rattle.std.specs.Prelude.{◌≡◌, ◌≢◌, ◌∷◌, ◌++◌, [], Some, None, slice_get, codes, refl}
use Rattle.mdb_datum.proofs.OnLiterals.{reading_on_literals}
use Rattle.mdb_datum.specs.Bytes.{Bytes}
use Rattle.mdb_schema.specs.declared.answer.Answer.TheVariants.{One, Many}
use Rattle.mdb_schema.specs.worked.Apart.{apart}
use Rattle.client_script.specs.Reply.{read_at, write_at, ended, answered, snapshot_at, snapshot_within, refused}
use Rattle.client_script.specs.worked.Told.{replies_to, reply_code}

abbrev names : Bytes
names =
    codes "watch w get users id\n" ++
    codes "read\n" ++
    codes "watch w get users id\n" ++
    codes "watch w first users id\n" ++
    codes "snapshot w\n" ++
    codes "watch x in w first users id [\"ann\"]\n" ++
    codes "watch y in x get users id\n" ++
    codes "watch y lower users age [1]\n" ++
    codes "watch y lower user age [1]\n" ++
    codes "watch y get users ids\n" ++
    codes "size w\n" ++
    codes "end\n" ++
    codes "write\n" ++
    codes "watch y get users id\n" ++
    codes "watch y in w get users id\n" ++
    codes "snapshot y\n" ++
    codes "watch z in y get users id\n"

pub names_told : replies_to names ≡
    refused (codes "no-transaction")
    ∷ read_at 0
    ∷ answered (Many [])
    ∷ refused (codes "name-taken")
    ∷ snapshot_at 0
    ∷ answered (One None)
    ∷ refused (codes "unknown-name")
    ∷ refused (codes "unwatchable")
    ∷ refused (codes "unknown-table")
    ∷ refused (codes "unknown-index")
    ∷ refused (codes "unknown-name")
    ∷ ended
    ∷ write_at 0
    ∷ refused (codes "uncommitted")
    ∷ answered (Many [])
    ∷ snapshot_within 0
    ∷ refused (codes "uncommitted")
    ∷ []
unfolding reading_on_literals
names_told = refl

-- the name of a watch is none of a snapshot
pub watches_are_no_snapshots : slice_get (replies_to names) 4 ≢ Some (refused (codes "name-taken"))
watches_are_no_snapshots = rw names_told (apart reply_code tt refl)

-- the table is judged before whether the question can be watched
pub table_before_watch : slice_get (replies_to names) 8 ≢ Some (refused (codes "unwatchable"))
table_before_watch = rw names_told (apart reply_code tt refl)

-- a write transaction asks with a watch only what is committed
pub own_writes_are_not_watched : slice_get (replies_to names) 13 ≢ Some (answered (Many []))
own_writes_are_not_watched = rw names_told (apart reply_code tt refl)
