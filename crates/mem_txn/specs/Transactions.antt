-- Write transactions with their deferred items, and what becomes of them.
use Rattle.std.specs.Prelude.{◌≡◌, ◌⊎◌, ◌+◌, ◌^◌, ◌<◌, ◌≤◌, ℕ, Bool, true, false, List, [], length, reverse}
use Rattle.std.specs.Prelude.{Some, Result, Ok, Err, MatchResult}
use Rattle.db_front.specs.AnyPass as any
use Rattle.mdb_schema.specs.Guarded.{IsGuarded}
use Rattle.mdb_schema.specs.Net as model
use Rattle.mdb_schema.specs.Query.{Query}
use Rattle.watch_word.specs.Logs.{Cell, IsLater, Log, has_fired}
use Rattle.mem_txn.specs.CellHistory.{CellHistory, Forest, HasFirings, cell_at}
use Rattle.mem_txn.specs.DbTxn.{DbTxn, after_commit, new_txn, present}
use Rattle.mem_txn.specs.Checked.{HasHeard}
use Rattle.mem_txn.specs.Database.{Caller, HasRead, HasSeen, View, cells_seen, state_seen}
use Rattle.mem_txn.specs.declared.deferred.DeferredList.{DeferredList}
use Rattle.mem_txn.specs.declared.outcome.BeginRefused.{BeginRefused}
use Rattle.mem_txn.specs.declared.outcome.CommitRefused.{CommitRefused}
use Rattle.mem_txn.specs.declared.outcome.Committed.{Committed}
use Rattle.mem_txn.specs.declared.outcome.Tried.{Tried}
use Rattle.mem_txn.specs.declared.outcome.Tried.TheVariants as tried
use Rattle.mem_txn.specs.declared.txn_error.BeginError.{BeginError}
use Rattle.mem_txn.specs.declared.txn_error.BeginError.TheVariants as begin_errors
use Rattle.mem_txn.specs.declared.txn_error.CommitError.TheVariants as commit_errors
use Rattle.mem_txn.specs.declared.txn_error.SnapError.{SnapError}
use Rattle.mem_txn.specs.declared.txn_error.SnapError.TheVariants as snap_errors
use Rattle.mem_txn.specs.declared.write_txn.WriteTxn.{WriteTxn}

-- the items that a commit hands out, last deferred first
abbrev pub deferred_items : {D : Type 0} → DeferredList D → List D
deferred_items l = reverse l.items.items

-- the caller's transaction in one
abbrev pub txn_of : {D : Type 0} → WriteTxn D → DbTxn
txn_of t = t.db_txn

-- its deferred items, in the order in which they were deferred
abbrev pub items_of : {D : Type 0} → WriteTxn D → List D
items_of t = t.deferred.items

-- why no transaction is new_txn: want of memory, or exactly at as many commits as are counted
abbrev pub IsRefused : Caller → Caller → BeginError → Type 0
IsRefused old new begin_errors.Memory = Unit {0}
IsRefused old new begin_errors.CommitsSpent =
    HasRead old new (length new.seen) × (length new.seen ≡ 2 ^ 63)

-- tries for the writer's turn were made, the last of which found it free
abbrev pub HasWonAtLast : Caller → Caller → Type 0
HasWonAtLast old new = any.WonAtLast (λ (p : Caller). p.tries) old new

-- a transaction without writes and items, on all commits, whose number was read in this call; or
-- the caller is told why not, and has its pass back
abbrev pub AnswersBegin : {D : Type 0} → Caller → Result (WriteTxn D) BeginRefused → Type 0
AnswersBegin p (Ok t) =
    let q = (txn_of t).caller in HasSeen p q × HasRead p q (length q.seen)
    × (length q.seen < 2 ^ 63) × (txn_of t ≡ new_txn q) × (items_of t ≡ []) × HasWonAtLast p q
AnswersBegin p (Err refused) =
    HasSeen p refused.pass × IsRefused p refused.pass refused.cause × HasWonAtLast p refused.pass

-- the one try for the writer's turn found it free
abbrev pub HasWon : Caller → Caller → Type 0
HasWon old new = any.Won (λ (p : Caller). p.tries) old new

-- it found the number of another of so many callers, and nothing else was done
abbrev pub HasLost : ℕ → Caller → Caller → Type 0
HasLost callers old new = any.Lost (λ (p : Caller). p.tries) (λ p. p.number)
    (λ p ts. record p { tries = ts }) callers old new

-- the same of a call that makes one try: exactly where that found the number of another of so many
-- callers, the turn is taken
abbrev pub AnswersTry : {D : Type 0} → ℕ → Caller → Result (Tried D) BeginRefused → Type 0
AnswersTry callers p (Ok (tried.Begun t)) = AnswersBegin p (Ok t) × HasWon p (txn_of t).caller
AnswersTry callers p (Ok (tried.Taken q)) = HasLost callers p q
AnswersTry callers p (Err refused) =
    HasSeen p refused.pass × IsRefused p refused.pass refused.cause × HasWon p refused.pass

-- the present state, or want of memory; a spoiled transaction answers so before all else
abbrev pub AnswersSnapshot : Bool → View → Result View SnapError → Type 0
AnswersSnapshot true present result = result ≡ Err snap_errors.Spoiled
AnswersSnapshot false present result =
    MatchResult result (λ s. s ≡ present) (λ e. e ≡ snap_errors.Memory)

-- the log has the cell of each watched question whose answer isn't what it was after an earlier
-- commit
abbrev pub TellsChanges : CellHistory → Log → Type 0
TellsChanges J log =
    (q : Query) (v : ℕ) (c : Cell) → v ≤ length J.commits → cell_at J q v ≡ Some c
    → (IsGuarded J.schema J.commits q v (length J.commits) → ⊥) → has_fired c log ≡ true

-- The commit is the next of the list, and hands the items out, last deferred first, and what has
-- changed in tracked tables: from the state on which the transaction stands to that with its writes.
-- The log, which the caller then has seen, has all that the commits up to its number fire, whoever
-- made them: so it has the cell of each question whose answer has changed, whoever watches it.
pub record IsCommitted {D : Type 0} (t : WriteTxn D) (c : Committed D) : Type 0 where
  pub trees : Forest
  pub pass : c.pass ≡ after_commit (txn_of t) trees c.receipt.log
  pub number : c.receipt.number ≡ length (txn_of t).caller.seen + 1
  pub few : c.receipt.number ≤ 2 ^ 63
  pub items : deferred_items c.receipt.items ≡ reverse (items_of t)
  pub changes : c.receipt.changes
      ≡ model.changes (txn_of t).caller.schema (state_seen (txn_of t).caller)
      (present (txn_of t))
  pub later : let old = (txn_of t).caller in IsLater old.log c.receipt.log
  pub book : c.receipt.log.book ≡ c.pass.book
  pub heard : HasHeard c.pass
  pub fired : HasFirings (cells_seen c.pass) c.receipt.number c.receipt.log
  pub told : TellsChanges (cells_seen c.pass) c.receipt.log

-- a commit is made, or refused and the caller is as it was: exactly a spoiled transaction is told
-- so
abbrev pub AnswersCommit : {D : Type 0} → WriteTxn D → Result (Committed D) CommitRefused → Type 0
AnswersCommit t (Ok c) = ((txn_of t).spoiled ≡ false) × IsCommitted t c
AnswersCommit t (Err refused) = (refused.pass ≡ (txn_of t).caller)
    × ((((txn_of t).spoiled ≡ true) × (refused.cause ≡ commit_errors.Spoiled))
    ⊎ (((txn_of t).spoiled ≡ false) × (refused.cause ≡ commit_errors.Memory)))
