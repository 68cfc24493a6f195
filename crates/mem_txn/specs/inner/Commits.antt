-- The start and the end of a transaction, but for the deferred items.
use Rattle.std.specs.Prelude.{◌≡◌, ◌⊎◌, ◌+◌, ◌^◌, ◌<◌, All, true, false, List, [], length, Result, Ok, Err}
use Rattle.mdb_schema.specs.History.{after_writes, writes_in}
use Rattle.mdb_schema.specs.Net.{Change, changes}
use Rattle.mem_txn.specs.DbTxn.{DbTxn, after_commit, new_txn, present}
use Rattle.table_index.specs.Watched.{HoldsRows}
use Rattle.watch_word.specs.Logs.{Cell, IsLater, Log}
use Rattle.mem_txn.specs.CellHistory.{Forest, HasFirings}
use Rattle.mem_txn.specs.Database.{Caller, cells_seen, state_seen}
use Rattle.mem_txn.specs.Transactions.{TellsChanges, txn_of, items_of}
use Rattle.mem_txn.specs.declared.outcome.BeginRefused.{BeginRefused}
use Rattle.mem_txn.specs.declared.outcome.CommitRefused.{CommitRefused}
use Rattle.mem_txn.specs.declared.txn_error.BeginError.TheVariants as begin_errors
use Rattle.mem_txn.specs.declared.txn_error.CommitError.TheVariants.{Memory, Spoiled}
use Rattle.mem_txn.specs.declared.write_txn.WriteTxn.{WriteTxn}
use Rattle.mem_txn.specs.inner.VersionTables.{AreAllWithin}
use Rattle.mem_txn.specs.inner.Firing.{AreGone, cells_told}
use Rattle.mem_txn.specs.inner.Steps.{IsStep, tables_of}
use Rattle.mem_txn.specs.inner.Values.{AreFew, Version}
use Rattle.mem_txn.specs.inner.Versions.{Turned}

-- why a caller with the writer's turn doesn't begin; it has its pass back
abbrev pub RefusesTurn : Caller → BeginRefused → Type 0
RefusesTurn p refused = (refused.pass ≡ p)
    × ((refused.cause ≡ begin_errors.Memory)
    ⊎ ((refused.cause ≡ begin_errors.CommitsSpent) × (length p.seen ≡ 2 ^ 63)))

-- it begins without writes and items, or not
abbrev pub AnswersTurn : {D : Type 0} → Caller → Result (WriteTxn D) BeginRefused → Type 0
AnswersTurn p (Ok t) =
    (length p.seen < 2 ^ 63) × (txn_of t ≡ new_txn p) × (items_of t ≡ [])
AnswersTurn p (Err refused) = RefusesTurn p refused

-- the value is the next after what the caller has seen, and a step from the last one
pub record IsNext (p : Turned) (v : Version) : Type 0 where
  pub view : v.view ≡ record {
    schema = p.caller.schema;
    number = length p.caller.seen + 1;
    state = after_writes p.caller.schema (state_seen p.caller) v.writes;
  }
  pub within : AreAllWithin v.ids v.trees
  pub held : All HoldsRows (tables_of v)
  pub step : IsStep p.base v
  pub few : AreFew (writes_in p.caller.seen + length v.writes) v.ids

-- a turn, the value that its transaction's commit shows, the notices of the cells that are gone, and
-- what has changed in tracked tables
pub record IsNextOf (t : DbTxn) (turn : Turned) (v : Version) (gone : List (List (List Cell)))
    (changed : List Change) : Type 0 where
  pub caller : turn.caller ≡ t.caller
  pub writes : v.writes ≡ t.writes
  pub next : IsNext turn v
  pub told : AreGone turn.base.trees v.trees (cells_told gone)
  pub tracked : changed ≡ changes t.caller.schema (state_seen t.caller) (present t)

-- the pass has made the commit, the log, which it then has seen, has all that the commits up to it
-- fire, and the changes of tracked tables are told
pub record IsShown (t : DbTxn) (made : Caller × Log × List Change) : Type 0 where
  pub trees : Forest
  pub pass : made.0 ≡ after_commit t trees made.1
  pub later : IsLater t.caller.log made.1
  pub book : made.1.book ≡ made.0.book
  pub fired : HasFirings (cells_seen made.0) (length made.0.seen) made.1
  pub told : TellsChanges (cells_seen made.0) made.1
  pub tracked : made.2 ≡ changes t.caller.schema (state_seen t.caller) (present t)

-- the commit is made; or it is refused, and exactly a spoiled transaction is told so
abbrev pub AnswersDbTxn : DbTxn → Result (Caller × Log × List Change) CommitRefused → Type 0
AnswersDbTxn t (Ok made) = (t.spoiled ≡ false) × IsShown t made
AnswersDbTxn t (Err refused) = (refused.pass ≡ t.caller)
    × (((t.spoiled ≡ true) × (refused.cause ≡ Spoiled))
    ⊎ ((t.spoiled ≡ false) × (refused.cause ≡ Memory)))
