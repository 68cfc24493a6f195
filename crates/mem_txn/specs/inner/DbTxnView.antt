-- What a contract sees of a write transaction and its tables.
use Rattle.std.specs.Prelude.{◌≡◌, ◌≤◌, ◌<◌, ◌+◌, ◌^◌, ℕ, All, List, false, length, Option, Some, None}
use Rattle.std.specs.Arc.{arc_value}
use Rattle.radix_node.specs.Ids.{Counter}
use Rattle.table_index.specs.Table.{TableRows, TableChange}
use Rattle.mdb_schema.specs.History.{writes_in}
use Rattle.mdb_schema.specs.Touched.{rows_written}
use Rattle.mdb_schema.specs.Write.{Write}
use Rattle.mem_txn.specs.DbTxn.{DbTxn, present}
use Rattle.table_index.specs.Watched.{HoldsRows}
use Rattle.mem_txn.specs.Database.{state_seen, view_seen}
use Rattle.mem_txn.specs.declared.db_txn.DbTxn.TheInside as db_txn
use Rattle.mem_txn.specs.declared.lazy_table.LazyTable.TheInside as lazy_table
use Rattle.mem_txn.specs.inner.Steps.{tables_of}
use Rattle.mem_txn.specs.inner.VersionTables.{AreChangesOf, AreAllWithin, StandFor, unwritten}
use Rattle.mem_txn.specs.inner.Values.{AreFew}
use Rattle.mem_txn.specs.inner.Versions.{Turned}

abbrev pub changed_or : TableRows → Option TableChange → TableChange
changed_or shared None = unwritten shared
changed_or shared (Some t) = t

abbrev pub lazy_table_view : lazy_table.Inside → TableChange
lazy_table_view t = changed_or (arc_value t.shared) t.open

abbrev pub db_txn_view : db_txn.Inside → DbTxn
db_txn_view t =
    record { caller = t.pass.caller; writes = t.writes.items; spoiled = t.spoiled }

-- two changes of one table began with the same trees
pub record BeginsAs (old new : TableChange) : Type 0 where
  pub schema : new.schema ≡ old.schema
  pub start : new.start ≡ old.start

-- its change began with the table that is shared
abbrev pub IsLazyTable : lazy_table.Inside → Type 0
IsLazyTable t = BeginsAs (unwritten (arc_value t.shared)) (lazy_table_view t)

-- the ids of a transaction with so many writes are of its database's book, and few were drawn
pub record AreCounted (turn : Turned) (own : ℕ) (ids : Counter) : Type 0 where
  pub book : ids.book ≡ turn.base.ids.book
  pub few : AreFew (writes_in turn.caller.seen + own) ids
  pub later : turn.base.ids.next ≤ ids.next

-- the value is the state after all commits, in trees that hold its rows and whose cells were drawn
pub record IsBase (turn : Turned) : Type 0 where
  pub view : let v = turn.base in v.view ≡ view_seen turn.caller
  pub within : let v = turn.base in AreAllWithin v.ids v.trees
  pub held : All HoldsRows (tables_of turn.base)

-- the tables of a transaction with these writes began with those of its database's last value
abbrev pub AreSince : Turned → List Write → List TableChange → Type 0
AreSince turn writes tables =
    AreChangesOf turn.base.ids.next turn.base.trees
    (rows_written turn.caller.schema (state_seen turn.caller) writes) tables

-- until a write finds no memory the tables stand for the present state, few ids were drawn, and all
-- that was written is what the writes say
pub record IsDbTxn (t : db_txn.Inside) : Type 0 where
  pub few : length t.pass.caller.seen < 2 ^ 63
  pub number : t.number ≡ length t.pass.caller.seen
  pub tables : t.spoiled ≡ false
      → StandFor t.tables.tables t.pass.caller.schema (present (db_txn_view t))
  pub ids : t.spoiled ≡ false → AreCounted t.pass (length t.writes.items) t.tables.ids
  pub since : t.spoiled ≡ false → AreSince t.pass t.writes.items t.tables.tables
