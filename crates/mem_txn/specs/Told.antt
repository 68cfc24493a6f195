-- What a commit's log tells a caller who watches from another pass.
use Rattle.std.specs.Prelude.{◌≡◌, ◌≤◌, List, Contains, length, true}
use Rattle.mdb_schema.specs.Guarded.{IsGuarded}
use Rattle.watch_word.specs.Logs.{Log, has_fired}
use Rattle.mem_txn.specs.CellHistory.{AreComplete, CellHistory}
use Rattle.mem_txn.specs.Checked.{IsBeginning, IsHeldBy}
use Rattle.mem_txn.specs.Database.{Caller, Database, IsWhole, cells_seen}
use Rattle.mem_txn.specs.Held.{HeldWatch}
use Rattle.mem_txn.specs.Transactions.{TellsChanges}

-- Whichever pass holds a watch: of one whole history, pass p had seen so much when a commit gave
-- it a log, and pass q holds a watch that was asked by then. Where the answer isn't the same up to
-- that commit, the log has the watch's cell.
abbrev pub TellsWhoeverHolds : Type 0
TellsWhoeverHolds =
    (db : Database) (ps : List Caller) (J : CellHistory) → IsWhole db ps J
    → (p q made : Caller) → Contains ps p → Contains ps q → IsBeginning made p
    → AreComplete (cells_seen made) → (log : Log) → TellsChanges (cells_seen made) log
    → (h : HeldWatch) → IsHeldBy q h → h.number ≤ length made.seen
    → (IsGuarded J.schema J.commits h.query h.number (length made.seen) → ⊥)
    → has_fired h.spot.watch log ≡ true
