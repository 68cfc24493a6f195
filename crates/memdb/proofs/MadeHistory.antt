-- What is known of a history that made clients leave, and that it then holds their rows.
use Rattle.std.specs.Prelude.{◌≡◌, ◌≤◌, ℕ, List, [], ◌∷◌, map, codes}
use Rattle.mdb_schema.specs.History.{Commit, History}
use Rattle.mdb_schema.specs.Write.{put}
use Rattle.client_script.specs.Reply.{Reply}
use Rattle.client_script.specs.Session.{Sessions}
use Rattle.client_session.specs.Clients.{TellOwn}
use Rattle.mem_txn.specs.Database.{AreNamed, commits_by}
use Rattle.memdb.specs.Made.{AreInRange, Item, Numbers, items_by}
use Rattle.memdb.specs.inner.MadeInputs.{made_schema, made_scripts, row_of}

abbrev pub commit_of : ℕ → Item → Commit
commit_of client x =
    record { caller = client; writes = put (codes "items") (row_of x) ∷ [] }

-- the commits of each client are those of its rows, in order
abbrev pub HasMadeItems : Numbers → History → Type 0
HasMadeItems n H = (client : ℕ) → 1 ≤ client → client ≤ n.clients
    → commits_by client H ≡ map (commit_of client) (items_by n client)

-- in a history of made clients, which tell just their own commits, each has committed its rows
abbrev pub MadeAreKept : Type 0
MadeAreKept = (n : Numbers) (H : History) (rss : List (List Reply)) → AreInRange n
    → AreNamed n.clients H → Sessions made_schema H 1 (made_scripts n) rss → TellOwn H 1 rss
    → HasMadeItems n H
