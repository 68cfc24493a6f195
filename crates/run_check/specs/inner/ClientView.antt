-- What the code keeps of a client stands for what a client knows. Writes of transactions are kept in
-- the store: here they are taken from the write transactions that have begun.
use Rattle.std.specs.Prelude.{◌≡◌, ◌++◌, ◌∷◌, ℕ, List, [], map, filter_map, is_some, slice_get, Bool, true, false, Some, None}
use Rattle.std.specs.Borrow.{Bor}
use Rattle.std.specs.declared.alloc.Global.{Global}
use Rattle.std.specs.declared.vec.Vec.{Vec}
use Rattle.mdb_datum.specs.Bytes.{Bytes}
use Rattle.client_script.specs.Client as plain
use Rattle.run_check.specs.declared.client.Client as client
use Rattle.run_check.specs.declared.client.Open as «open»
use Rattle.run_check.specs.declared.client.Open.TheVariants as opens
use Rattle.run_check.specs.declared.client.Writing as writing
use Rattle.run_check.specs.declared.sight.Sight.{Sight}
use Rattle.run_check.specs.declared.watching.Set as set
use Rattle.run_check.specs.declared.watching.Watch as watch
use Rattle.run_check.specs.declared.watching.Watching as watching
use Rattle.run_check.specs.inner.NamedView.{each_named}
use Rattle.run_check.specs.inner.StoreView.{Begun, first_writes}

-- ---- transactions and snapshots

abbrev pub sight_known : List Begun → Sight → plain.Sight
sight_known txns s = record {
  number = s.commits;
  writes = first_writes txns s.own;
  uncommitted = is_some s.own;
}

abbrev pub writing_known : List Begun → writing.Writing → plain.Writing
writing_known txns w = record {
  number = w.number;
  writes = first_writes txns (Some w.own);
  texts = map (λ (text : Bor Bytes). text.now) w.texts.items;
}

-- what it has changed: keys of tracked tables, each behind the byte of its table's place
abbrev pub changed_of : writing.Writing → List Bytes
changed_of w = map (λ (key : Vec ℕ Global). key.items) w.changed.keys

abbrev pub transaction_known : List Begun → «open».Open → plain.Transaction
transaction_known txns opens.Nothing = plain.closed
transaction_known txns (opens.Reading n) = plain.reading n
transaction_known txns (opens.Writing w) = plain.writing (writing_known txns w)

-- no transaction is open
abbrev pub is_closed : «open».Open → Bool
is_closed opens.Nothing = true
is_closed x = false

-- it is what the open transaction sees
abbrev pub IsOpenSight : «open».Open → Sight → Type 0
IsOpenSight opens.Nothing s = ⊥
IsOpenSight (opens.Reading n) s = s ≡ record { commits = n; own = None }
IsOpenSight (opens.Writing w) s = s ≡ record { commits = w.number; own = Some w.own }

abbrev pub snapshot_known : List Begun → Bytes → Sight → plain.Snapshot
snapshot_known txns name s = record { name = name; sight = sight_known txns s }

-- ---- watches and sets

abbrev pub watch_known : Bytes → watch.Watch → plain.Watch
watch_known name w = record { name = name; query = w.query.now; number = w.number }

abbrev pub watches_known : watching.Watching → List plain.Watch
watches_known w = each_named watch_known w.watches.names w.watches.values.items

-- those at places
abbrev pub watches_at : List plain.Watch → List ℕ → List plain.Watch
watches_at ws places = filter_map (slice_get ws) places

abbrev pub set_known : List plain.Watch → Bytes → set.Set → plain.WatchSet
set_known ws name s = record {
  name = name;
  members = watches_at ws s.members.items;
  added = watches_at ws s.added.items;
}

abbrev pub watching_known : watching.Watching → plain.Watching
watching_known w = record {
  watches = watches_known w;
  sets = each_named (set_known (watches_known w)) w.sets.names w.sets.values.items;
}

-- ---- the whole

abbrev pub known : List Begun → client.Client → plain.Client
known txns v = record {
  last = v.last;
  transaction = transaction_known txns v.«open»;
  snapshots = each_named (snapshot_known txns) v.snapshots.names v.snapshots.values.items;
  watching = watching_known v.watching;
}

-- the write transactions that have begun, after a line that may have begun one
abbrev pub begun_then : List Begun → «open».Open → «open».Open → List Begun
begun_then txns opens.Nothing (opens.Writing w) = txns ++ record { number = w.number; writes = [] } ∷ []
begun_then txns before after = txns
